-- What the laws of resolutions say: of their discussions, and of choices with their proposers.
-- Its files cite one another, and those of Collections, Contents, Columns, Effects and Validity.
pub mod CourseLemmas
pub mod EndLemmas
pub mod DiscussionLemmas
pub mod UntouchedLemmas
pub mod EventLemmas
pub mod ChoicesAfterLemmas
pub mod IntroducedLemmas
pub mod LapseLemmas
pub mod PlacedByCallLemmas
pub mod ProposerLemmas
