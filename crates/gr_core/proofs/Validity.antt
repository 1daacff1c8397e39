-- Why a desk stays valid, with the preference counts that it keeps, over one act and over lists of acts.
-- Its files cite one another, and those of Collections, Contents, Columns and Effects.
pub mod StageLemmas
pub mod RoomLemmas
pub mod AlteredLemmas
pub mod OneChoiceLemmas
pub mod GrowthLemmas
pub mod GainLemmas
pub mod RollLemmas
pub mod NewChoiceLemmas
pub mod NewResolutionLemmas
pub mod CallValidLemmas
pub mod NewRowsValidLemmas
pub mod ChangedRowsValidLemmas
pub mod VoteValidLemmas
pub mod ValidLemmas
pub mod RunLemmas
pub mod PollsAfterLemmas
pub mod KeptPairsLemmas
pub mod LiftedLemmas
pub mod BallotTurnLemmas
