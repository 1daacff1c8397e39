-- The count of the ballots of a resolution, and what a casting vote cannot choose (Constitution, 4.2.4 and A.5).
use Rattle.std.specs.Prelude.{◌≡◌, ℕ, ◌+◌, ◌-◌, ◌<◌, ◌≤◌, ◌⊎◌, ◌↔◌, List, [], ◌∷◌, ◌++◌, length, map, filter, is_some, IsTrue, slice_index}
use Rattle.std.specs.FinMap.{FinMap}
use Rattle.gr_count.specs.declared.outcome.Count.{Count}
use Rattle.gr_count.specs.Election.{Election, IsKept}
use Rattle.gr_count.specs.Rounds.{IsNumberOfRounds, IsDroppedIn, IsInOutcome}
use Rattle.gr_count.specs.Shown.{election_by_voters, options_of_count, keeps, rounds_in, round_of_drop, is_member}
use Rattle.gr_core.specs.declared.choice.ChoiceKey.{ChoiceKey}
use Rattle.gr_core.specs.declared.resolution.Poll.{Poll}
use Rattle.gr_core.specs.Parts.Key.{choice_cmp}
use Rattle.gr_core.specs.Parts.Choice.{ChoiceModel, choices_of}
use Rattle.gr_core.specs.Parts.Ballot.{vote_of}
use Rattle.gr_core.specs.Desks.State.{State}

-- ==== places and options

-- the choices on the ballot: those that have a place
abbrev pub on_ballot : FinMap choice_cmp ChoiceModel → ℕ → List (ChoiceKey × ChoiceModel)
on_ballot choices resolution = filter (λ entry. is_some entry.1.place) (choices_of choices resolution)

-- how many places the ballot has: the last one is that of the default option, which is no choice (Constitution, A.3.2)
abbrev pub place_count : FinMap choice_cmp ChoiceModel → ℕ → ℕ
place_count choices resolution = length (on_ballot choices resolution) + 1

-- places are numbered from 1
abbrev pub IsPlace : State → ℕ → ℕ → Type 0
IsPlace s resolution place = (0 < place) × (place ≤ place_count s.choices resolution)

-- and the options of a count from 0
abbrev pub option_at : ℕ → ℕ
option_at place = place - 1

-- the majority ratios by option (Constitution, A.5.3.3); that of the default option is not looked at
abbrev pub ratios_on_ballot : FinMap choice_cmp ChoiceModel → ℕ → List ℕ
ratios_on_ballot choices resolution = map (λ entry. entry.1.ratio) (on_ballot choices resolution) ++ 1 ∷ []

-- ==== the count

-- What is counted of a resolution: its vote, with the quorum (Constitution, 4.2.4 and 4.2.7) of those who were current
-- at the call (this project's profile).
abbrev pub election_at : State → ℕ → Poll → Election
election_at s resolution poll = election_by_voters (place_count s.choices resolution) (vote_of s.ballots resolution)
    poll.developers (slice_index (ratios_on_ballot s.choices resolution))

-- what a count finds is what this election gives, of so many options (Constitution, A.5)
pub record IsCountOf (e : Election) (places : ℕ) (count : Count) : Type 0 where
  pub options : options_of_count count ≡ places
  pub kept : (a : ℕ) → IsTrue (keeps count a) ↔ IsKept e a
  pub rounds : IsNumberOfRounds e (rounds_in count)
  pub dropped : (round a b : ℕ) → IsDroppedIn e round a b ↔ ((0 < round) × (round_of_drop count a b ≡ round))
  pub outcome : (a : ℕ) → IsTrue (is_member count a) ↔ IsInOutcome e a

-- the outcome set has one member, who wins (Constitution, A.5.8)
pub record HasWinner (e : Election) : Type 0 where
  pub winner : ℕ
  pub member : IsInOutcome e winner
  pub sole : (other : ℕ) → IsInOutcome e other → other ≡ winner

-- The place is that of one of several options in the outcome set, among which the casting vote chooses (Constitution,
-- A.5.8). Membership is told by a count; the definitions themselves do not decide it, so it is said by denying that the
-- option is outside.
pub record IsAmongTheTied (s : State) (resolution : ℕ) (poll : Poll) (chosen : ℕ) : Type 0 where
  pub place : IsPlace s resolution chosen
  pub member : ¬ (¬ (IsInOutcome (election_at s resolution poll) (option_at chosen)))
  pub tie : ¬ (HasWinner (election_at s resolution poll))

-- The casting vote cannot choose the place: the outcome set has one member, or the place is none of the ballot, or its
-- option is not in the set (Constitution, A.5.8). No chosen place of a valid desk is one of these. It is
-- a denial, since only a count decides what is in the outcome set: the definitions speak of paths and
-- rounds of any number.
abbrev pub CannotBeChosen : State → ℕ → Poll → ℕ → Type 0
CannotBeChosen s resolution poll place =
    HasWinner (election_at s resolution poll)
    ⊎ (¬ (IsPlace s resolution place × IsInOutcome (election_at s resolution poll) (option_at place)))
