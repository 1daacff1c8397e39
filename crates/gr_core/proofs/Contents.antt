-- What the desk's tables hold: the keys of choices and ballots, choices with their places and ratios, sponsors, voters
-- and their ballots, and the ends of discussions and polls.
-- Its files cite one another, and those of Collections.
pub mod StableLemmas
pub mod DigestLemmas
pub mod BallotTexts
pub mod ChoiceKeys
pub mod BallotKeys
pub mod KeptRowLemmas
pub mod SponsorLemmas
pub mod ChoiceLemmas
pub mod PlaceLemmas
pub mod PlacingLemmas
pub mod PlaceNumberLemmas
pub mod PlacesInOrder
pub mod RatioLemmas
pub mod OnRollLemmas
pub mod VoteBallotLemmas
pub mod VoterCounts
pub mod PairwiseCountLemmas
pub mod ElectionLemmas
pub mod ReceivedLemmas
pub mod DiscussionEndLemmas
pub mod PollEndLemmas
