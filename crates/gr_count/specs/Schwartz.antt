-- The Schwartz set and the defeats inside it. Constitution, A.5.6 and A.5.7.
-- Kept is a set of options; R is a relation between options, the defeats that still stand.
use Rattle.std.specs.Prelude.{ℕ, ◌⊎◌}
use Rattle.gr_count.specs.Path.{TransitivelyDefeats}

-- The members of the Schwartz set: kept options that transitively defeat whichever kept option
-- transitively defeats them (Constitution, A.5.6.1).
pub record IsInSchwartzSet (Kept : ℕ → Type 0) (R : ℕ → ℕ → Type 0) (a : ℕ) : Type 0 where
  pub kept : Kept a
  pub against_each : (b : ℕ) → Kept b → TransitivelyDefeats R a b ⊎ (¬ TransitivelyDefeats R b a)

-- a defeat between two members of the Schwartz set (Constitution, A.5.7)
pub record IsInnerDefeat (Kept : ℕ → Type 0) (R : ℕ → ℕ → Type 0) (a b : ℕ) : Type 0 where
  pub stands : R a b
  pub winner : IsInSchwartzSet Kept R a
  pub loser : IsInSchwartzSet Kept R b
