-- Which states a desk may have (this project's profile), rule by rule.
use Rattle.std.specs.Prelude.{◌≡◌, ◌≢◌, ℕ, zero, suc, ◌<◌, ◌≤◌, ◌↔◌, pos, Bool, List, [], ◌∷◌, ◌++◌, length, Some, IsTrue, IsSome, IfSome, IsSomeAnd, is_some, option_and_then}
use Rattle.std.specs.List.{filter_map}
use Rattle.std.specs.FinMap.{FinMap, get, len}
use Rattle.gr_count.specs.declared.limits.TheConstants.{MAX_DEVELOPERS}
use Rattle.gr_core.specs.declared.limits.TheConstants.{MAX_RESOLUTIONS, MAX_CHOICES}
use Rattle.gr_core.specs.declared.discussion.Discussion.{Discussion}
use Rattle.gr_core.specs.declared.resolution.Poll.{Poll}
use Rattle.gr_core.specs.declared.resolution.Resolution.{Resolution}
use Rattle.gr_core.specs.declared.resolution.Resolution.TheVariants.{Draft}
use Rattle.gr_core.specs.declared.choice.ChoiceKey.{ChoiceKey}
use Rattle.gr_core.specs.declared.sponsor.Sponsorship.{Sponsorship}
use Rattle.gr_core.specs.declared.sponsor.Sponsorship.TheVariants.{Active}
use Rattle.gr_core.specs.Parts.Header.{IsHeader}
use Rattle.gr_core.specs.Parts.Text.{IsSummary, IsText}
use Rattle.gr_core.specs.Parts.Discussion.{IsShift, IsPeriod}
use Rattle.gr_core.specs.Parts.Developer.{DeveloperModel, IsDeveloper}
use Rattle.gr_core.specs.Parts.Resolution.{discussion_of, poll_of, chosen_of}
use Rattle.gr_core.specs.Parts.Choice.{ChoiceModel, Developer, login_of_proposer, choice_key, choices_of, IsRatio}
use Rattle.gr_core.specs.Parts.Key.{text_cmp}
use Rattle.gr_core.specs.Parts.Receipt.{IsReceipt}
use Rattle.gr_core.specs.Parts.Ballot.{BallotModel, AreRanks}
use Rattle.gr_core.specs.Desks.State.{State}
use Rattle.gr_core.specs.Desks.Outcome.{place_count, CannotBeChosen}

-- ==== developers

-- each login of the roll has a row that it may have
abbrev pub AreDevelopers : FinMap text_cmp DeveloperModel → Type 0
AreDevelopers developers = (login : List ℕ) (row : DeveloperModel)
    → get developers login ≡ Some row → IsDeveloper login row

-- ==== resolutions

-- a moment from 1970 to the clock
abbrev pub HasCome : ℕ → ℕ → Type 0
HasCome clock at = (0 < at) × (at ≤ clock)

-- numbered 1, 2, .. without gaps: these numbers have something, and no others
abbrev pub AreNumbered : (ℕ → Bool) → ℕ → Type 0
AreNumbered has count = (number : ℕ) → IsTrue (has number) ↔ ((0 < number) × (number ≤ count))

pub record ResolutionsAreNumbered (s : State) : Type 0 where
  pub few : len s.resolutions ≤ MAX_RESOLUTIONS
  pub numbered : AreNumbered (λ number. is_some (get s.resolutions number)) (len s.resolutions)

-- a discussion that a resolution may have
pub record IsDiscussion (clock : ℕ) (discussion : Discussion) : Type 0 where
  pub start : HasCome clock discussion.start
  pub changed : IfSome discussion.changed (λ at. (discussion.start ≤ at) × (at ≤ clock))
  pub shift : IsShift discussion.shift

-- a poll that it may have after this discussion
pub record IsPoll (clock : ℕ) (discussion : Discussion) (poll : Poll) : Type 0 where
  pub called : (discussion.start ≤ poll.called) × (poll.called ≤ clock)
  pub days : IsPeriod (pos poll.days)
  pub developers : poll.developers ≤ MAX_DEVELOPERS

-- some choice of the resolution is introduced
pub record HasIntroduced (s : State) (resolution : ℕ) : Type 0 where
  pub number : ℕ
  pub found : IsSomeAnd (get s.choices (choice_key resolution number)) (λ choice. IsSome choice.introduced)

-- the numbers from 1 up to this one
abbrev pub up_to : ℕ → List ℕ
up_to zero = []
up_to (suc count) = up_to count ++ suc count ∷ []

-- the places of choices
abbrev pub places_of : List (ChoiceKey × ChoiceModel) → List ℕ
places_of choices = filter_map (λ entry. entry.1.place) choices

-- what may stand under the number of a resolution, with its choices
pub record IsResolution (clock : ℕ) (s : State) (number : ℕ) (resolution : Resolution) : Type 0 where
  pub discussion : IfSome (discussion_of resolution) (IsDiscussion clock)
  pub poll : IfSome (discussion_of resolution) (λ discussion. IfSome (poll_of resolution) (IsPoll clock discussion))
  -- its choices are numbered from 1, and not too many
  pub some : 1 ≤ length (choices_of s.choices number)
  pub few : length (choices_of s.choices number) ≤ MAX_CHOICES
  pub numbered : AreNumbered (λ choice. is_some (get s.choices (choice_key number choice)))
      (length (choices_of s.choices number))
  -- a draft has one choice (Constitution, A.0.2)
  pub sole : resolution ≡ Draft → length (choices_of s.choices number) ≡ 1
  -- a discussion begins with the first choice that is introduced (Constitution, A.1.1)
  pub introduced : IsSome (discussion_of resolution) → HasIntroduced s number
  -- on a ballot there are the places 1, 2, .. and at least one (Constitution, A.3.2), in the order of the choices (this
  -- project's profile)
  pub places : IsSome (poll_of resolution)
      → places_of (choices_of s.choices number) ≡ up_to (length (places_of (choices_of s.choices number)))
  pub placed : IsSome (poll_of resolution) → 0 < length (places_of (choices_of s.choices number))

abbrev pub EachResolution : State → (ℕ → Resolution → Type 0) → Type 0
EachResolution s P = (number : ℕ) (resolution : Resolution) → get s.resolutions number ≡ Some resolution
    → P number resolution

-- ==== choices

-- a choice that a resolution may have, with such developers on the roll
pub record IsChoice (clock : ℕ) (developers : FinMap text_cmp DeveloperModel) (resolution : Resolution)
    (choice : ChoiceModel) : Type 0 where
  pub proposer : IfSome (option_and_then login_of_proposer choice.proposer) (λ login. IsSome (get developers login))
  pub summary : IsSummary choice.wording.summary
  pub text : IsText choice.wording.text
  pub ratio : IsRatio choice.ratio
  -- an introduced choice has a discussion, and was not introduced before its start (Constitution, A.1.1)
  pub introduced : IfSome choice.introduced (λ at. (at ≤ clock)
      × IsSomeAnd (discussion_of resolution) (λ discussion. discussion.start ≤ at))
  -- only an introduced choice is short (Constitution, A.2.3)
  pub short : IfSome choice.short (λ since. HasCome clock since × IsSome choice.introduced)
  -- only an introduced choice has a place, and that on a ballot
  pub place : IfSome choice.place (λ place. IsSome choice.introduced × IsSome (poll_of resolution))

-- each choice has its resolution, and P holds of both
abbrev pub EachChoice : State → (Resolution → ChoiceModel → Type 0) → Type 0
EachChoice s P = (key : ChoiceKey) (choice : ChoiceModel) → get s.choices key ≡ Some choice
    → IsSomeAnd (get s.resolutions key.resolution) (λ resolution. P resolution choice)

-- the entry is a choice that the resolution with this number may have
abbrev pub IsChoiceIn : State → ℕ → ChoiceKey × ChoiceModel → Type 0
IsChoiceIn s number entry = IsSomeAnd (get s.resolutions number) (λ resolution.
    IsChoice s.header.clock s.developers resolution entry.1)

-- ==== sponsors

-- a sponsor that a choice may have
pub record IsSponsorship (developers : FinMap text_cmp DeveloperModel) (choice : ChoiceModel) (login : List ℕ)
    (sponsorship : Sponsorship) : Type 0 where
  pub on_roll : IsSome (get developers login)
  -- others than the proposer sponsor a choice (Constitution, 4.2.1)
  pub other : sponsorship ≡ Active → choice.proposer ≢ Some (Developer login)

-- each sponsor has its choice, and P holds of the choice, the login and the sponsorship
abbrev pub EachSponsor : State → (ChoiceModel → List ℕ → Sponsorship → Type 0) → Type 0
EachSponsor s P = (key : ChoiceKey) (login : List ℕ) (sponsorship : Sponsorship)
    → get s.sponsors (key, login) ≡ Some sponsorship
    → IsSomeAnd (get s.choices key) (λ choice. P choice login sponsorship)

-- ==== ballots

-- a ballot that a developer may have on a resolution, which says of the number of votes received that they are so many
pub record IsBallotWith (AreSoMany : ℕ → Type 0) (s : State) (resolution : ℕ) (login : List ℕ) (ballot : BallotModel)
    : Type 0 where
  -- votes are taken on it, or were (Constitution, 4.2.3)
  pub poll : IsSome (option_and_then poll_of (get s.resolutions resolution))
  pub on_roll : IsSome (get s.developers login)
  pub ranks : AreRanks (place_count s.choices resolution) ballot.ranks
  pub receipt : IsReceipt ballot.receipt
  pub received : AreSoMany ballot.received

-- the developer voted, and each vote was accepted
abbrev pub IsBallotIn : State → ℕ → List ℕ → BallotModel → Type 0
IsBallotIn s = IsBallotWith (λ received. (0 < received) × (received ≤ s.header.accepted)) s

abbrev pub EachBallot : State → (ℕ → List ℕ → BallotModel → Type 0) → Type 0
EachBallot s P = (resolution : ℕ) (login : List ℕ) (ballot : BallotModel)
    → get s.ballots (resolution, login) ≡ Some ballot → P resolution login ballot

-- a place was chosen only where the casting vote could choose it (Constitution, A.5.8)
abbrev pub IsRightlyChosen : State → ℕ → Resolution → Type 0
IsRightlyChosen s number resolution = IfSome (poll_of resolution) (λ poll.
    IfSome (chosen_of resolution) (λ place. ¬ (CannotBeChosen s number poll place)))

-- ==== the whole desk

-- the tables of a desk with this clock
pub record AreTables (clock : ℕ) (s : State) : Type 0 where
  pub few : len s.developers ≤ MAX_DEVELOPERS
  pub developers : AreDevelopers s.developers
  pub numbered : ResolutionsAreNumbered s
  pub resolutions : EachResolution s (IsResolution clock s)
  pub choices : EachChoice s (IsChoice clock s.developers)
  pub sponsors : EachSponsor s (IsSponsorship s.developers)

-- the ballots of a desk, each of which is such a ballot, and what was chosen by them
pub record AreVotesBy (IsBallot : State → ℕ → List ℕ → BallotModel → Type 0) (s : State) : Type 0 where
  pub ballots : EachBallot s (IsBallot s)
  pub chosen : EachResolution s (IsRightlyChosen s)

abbrev pub AreVotes : State → Type 0
AreVotes = AreVotesBy IsBallotIn

pub record IsValid (s : State) : Type 0 where
  pub header : IsHeader s.header
  pub tables : AreTables s.header.clock s
  pub votes : AreVotes s
