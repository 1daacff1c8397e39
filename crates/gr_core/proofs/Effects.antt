-- What an act does: what it leaves, the rows that it puts and their keys, imports, and how it is answered.
-- Its files cite one another, and those of Collections, Contents and Columns.
pub mod LeftTableLemmas
pub mod LeftRowLemmas
pub mod LeftResolutionLemmas
pub mod LeftVoteLemmas
pub mod PutLemmas
pub mod PutAllLemmas
pub mod ApartLemmas
pub mod ImportLemmas
pub mod RollAfterImportLemmas
pub mod RepeatedImportLemmas
pub mod AnswerLemmas
pub mod VoteFindsPollLemmas
pub mod UnrefusedVoteLemmas
pub mod CloseAndCastLemmas
pub mod ResolutionLemmas
