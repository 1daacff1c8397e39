-- How strong defeats are, and the weakest of them. Constitution, A.5.7.1 and A.5.7.2.
-- V are preference counts; R is a relation between options, some defeats.
use Rattle.std.specs.Prelude.{◌≡◌, ℕ, ◌<◌, ◌⊎◌, Option, Some, None, IfSome, MatchOption}
use Rattle.gr_count.specs.declared.relation.Relation.{Relation}
use Rattle.gr_count.specs.declared.strength.Strength.{Strength}
use Rattle.gr_count.specs.Options.{Related}

-- the strength of the defeat of x by a: its support are the voters who prefer a, and its opposition those who prefer x
abbrev pub strength_of : (ℕ → ℕ → ℕ) → ℕ → ℕ → Strength
strength_of V a x = record { support = V a x; opposition = V x a }

-- A defeat is weaker than another if it has less support, or as much support and more opposition
-- (Constitution, A.5.7.1).
abbrev pub IsWeaker : Strength → Strength → Type 0
IsWeaker s t = (s.support < t.support) ⊎ ((s.support ≡ t.support) × (t.opposition < s.opposition))

-- A weakest of some defeats is one than which none of them is weaker (Constitution, A.5.7.2).
pub record IsWeakest (V : ℕ → ℕ → ℕ) (R : ℕ → ℕ → Type 0) (a x : ℕ) : Type 0 where
  pub among : R a x
  pub none_weaker : (b y : ℕ) → R b y → ¬ IsWeaker (strength_of V b y) (strength_of V a x)

-- a strength of a defeat of one of these options by a; and of a defeat by an option below n
pub record IsStrengthOver (V : ℕ → ℕ → ℕ) (a : ℕ) (Loser : ℕ → Type 0) (s : Strength) : Type 0 where
  pub loser : ℕ
  pub among : Loser loser
  pub is : s ≡ strength_of V a loser

pub record IsStrengthIn (V : ℕ → ℕ → ℕ) (defeats : Relation) (n : ℕ) (s : Strength) : Type 0 where
  pub winner : ℕ
  pub loser : ℕ
  pub below : winner < n
  pub stands : Related defeats winner loser
  pub is : s ≡ strength_of V winner loser

-- one of these strengths, and none of them is weaker; None where there are none
abbrev pub IsLeastOf : (Strength → Type 0) → Option Strength → Type 0
IsLeastOf P least =
    MatchOption least ((s : Strength) → ¬ P s) (λ m. P m × ((s : Strength) → P s → ¬ IsWeaker s m))

-- the weaker of two strengths, of those that are there
abbrev pub IsWeakerOf : Option Strength → Option Strength → Option Strength → Type 0
IsWeakerOf one other result = MatchOption result ((one ≡ None) × (other ≡ None)) (λ weaker.
    ((one ≡ Some weaker) ⊎ (other ≡ Some weaker))
    × IfSome one (λ strength. ¬ IsWeaker strength weaker)
    × IfSome other (λ strength. ¬ IsWeaker strength weaker))
