-- The rounds of drops, and the outcome. Constitution, A.5.7 and A.5.8.
use Rattle.std.specs.Prelude.{ℕ, zero, suc, ◌≤◌}
use Rattle.gr_count.specs.Election.{Election, IsKept, Defeats}
use Rattle.gr_count.specs.Schwartz.{IsInSchwartzSet, IsInnerDefeat}
use Rattle.gr_count.specs.Strength.{IsWeakest}

-- A round drops, together, each defeat inside the Schwartz set that is a weakest one there (Constitution, A.5.7; to
-- look for the weakest only inside the set as it now is, is how this project reads it).
abbrev pub IsDropped : Election → (ℕ → ℕ → Type 0) → ℕ → ℕ → Type 0
IsDropped e R = IsWeakest e.preference (IsInnerDefeat (IsKept e) R)

-- the defeats that stand after so many rounds (Constitution, A.5.7)
abbrev pub DefeatStandsAfter : Election → ℕ → ℕ → ℕ → Type 0
DefeatStandsAfter e zero a b = Defeats e a b
DefeatStandsAfter e (suc k) a b = DefeatStandsAfter e k a b × (¬ IsDropped e (DefeatStandsAfter e k) a b)

-- The round of this number drops the defeat of b by a. Rounds are numbered from 1: there is no round 0, and the round
-- after the first k is round k + 1 (Constitution, A.5.7; the numbers are this project's profile).
abbrev pub IsDroppedIn : Election → ℕ → ℕ → ℕ → Type 0
IsDroppedIn e zero a b = ⊥
IsDroppedIn e (suc k) a b = IsDropped e (DefeatStandsAfter e k) a b

-- the Schwartz set after so many rounds
abbrev pub IsInSchwartzSetAfter : Election → ℕ → ℕ → Type 0
IsInSchwartzSetAfter e k a = IsInSchwartzSet (IsKept e) (DefeatStandsAfter e k) a

-- after so many rounds there is no defeat inside the Schwartz set (Constitution, A.5.8)
abbrev pub IsSettledAfter : Election → ℕ → Type 0
IsSettledAfter e k = (a b : ℕ) → ¬ IsInnerDefeat (IsKept e) (DefeatStandsAfter e k) a b

-- so many rounds settle the Schwartz set, and fewer do not
pub record IsNumberOfRounds (e : Election) (rounds : ℕ) : Type 0 where
  pub settled : IsSettledAfter e rounds
  pub least : (k : ℕ) → IsSettledAfter e k → rounds ≤ k

-- The outcome set is the Schwartz set after the last round (Constitution, A.5.8).
pub record IsInOutcome (e : Election) (a : ℕ) : Type 0 where
  pub rounds : ℕ
  pub number : IsNumberOfRounds e rounds
  pub member : IsInSchwartzSetAfter e rounds a
