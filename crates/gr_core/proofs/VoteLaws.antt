-- What the laws of votes say: of a voter's ballot, of what is counted and chosen, and that nothing is revealed.
-- Its files cite one another, and those of Collections, Contents, Columns, Effects, Validity and ResolutionLaws.
pub mod VoterLemmas
pub mod ClosedForGoodLemmas
pub mod OutcomeLemmas
pub mod SecrecyLemmas
pub mod VotingDeskLemmas
