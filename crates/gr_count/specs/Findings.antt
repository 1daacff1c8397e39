-- All that a count finds, told at once. Constitution, A.5.2, A.5.3, A.5.7 and A.5.8.
use Rattle.std.specs.Prelude.{ℕ, Bool, ◌↔◌, IsTrue}
use Rattle.gr_count.specs.Election.{Election, HasQuorum, HasMajority, IsKept}
use Rattle.gr_count.specs.Rounds.{IsNumberOfRounds, IsDroppedIn, IsInOutcome}

-- Options, and pairs of them, told apart by what a count finds of them. Options are numbers from 0, the default option
-- last; their places on the ballot are from 1.
pub record Findings : Type 0 where
  -- which options have the quorum, which their majority, and which are kept
  pub quorum : ℕ → Bool
  pub majority : ℕ → Bool
  pub kept : ℕ → Bool
  -- how many rounds drop defeats, and whether the round of this number drops that of the second option by the first one
  pub rounds : ℕ
  pub dropped : ℕ → ℕ → ℕ → Bool
  -- which options are in the outcome set
  pub outcome : ℕ → Bool

-- they are those of the election (Constitution, A.5.2, A.5.3, A.5.7 and A.5.8)
pub record AreFindings (e : Election) (found : Findings) : Type 0 where
  pub quorum : (a : ℕ) → IsTrue (found.quorum a) ↔ HasQuorum e a
  pub majority : (a : ℕ) → IsTrue (found.majority a) ↔ HasMajority e a
  pub kept : (a : ℕ) → IsTrue (found.kept a) ↔ IsKept e a
  pub rounds : IsNumberOfRounds e found.rounds
  pub dropped : (round a b : ℕ) → IsTrue (found.dropped round a b) ↔ IsDroppedIn e round a b
  pub outcome : (a : ℕ) → IsTrue (found.outcome a) ↔ IsInOutcome e a
