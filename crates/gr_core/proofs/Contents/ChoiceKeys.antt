-- The keys of a resolution's choices lie in a range of their order.
use Rattle.std.proofs.Common.{◌≡◌, ℕ, ◌-◌, ◌<◌, ◌≤◌, ◌^◌, true, false, not, refl, sym, ◌∙◌, arith}
use Rattle.std.specs.Prelude.{◌&&◌, nat_eq}
use Rattle.std.specs.declared.cmp.Ordering.{Ordering}
use Rattle.std.specs.declared.cmp.Ordering.TheVariants.{Less, Equal, Greater}
use Rattle.std.specs.Ordering.{nat_cmp, ordering_then, is_eq, is_le, is_lt, MatchOrdering}
use Rattle.std.specs.Cmp.{ranked, unsigned_ties}
use Rattle.std.specs.FinMap.{nat_cmp-IsAntisymmetric}
use Rattle.std.specs.BTreeMap.Range.{range_contains}
use Rattle.std.specs.declared.ops.Bound.TheVariants.{Included}
use Rattle.gr_core.specs.declared.choice.ChoiceKey.{ChoiceKey}
use Rattle.gr_core.specs.Parts.Key.{choice_cmp}
use Rattle.gr_core.specs.Parts.Choice.{choice_key}
use Rattle.gr_core.proofs.Collections.TableLemmas.{tied}

-- equal numbers by the test, and numbers that are not
pub same_number : (a b : ℕ) → nat_eq a b ≡ true → a ≡ b
same_number a b is = nat_cmp-IsAntisymmetric a b (tied _ (sym (unsigned_ties a b) ∙ is))

by_first : (first low high : Ordering) → is_le low ≡ true → is_lt high ≡ false
    → (is_le (ordering_then first low) && not (is_lt (ordering_then first high))) ≡ is_eq first
by_first Less low high from to = refl
by_first Equal low high from to = λ i. from i && not (to i)
by_first Greater low high from to = refl

is_le-nat_cmp : (a b : ℕ) → a ≤ b → is_le (nat_cmp a b) ≡ true
is_le-nat_cmp a b le =
    elim (nat_cmp a b) as (λ r. MatchOrdering r (a < b) (a ≡ b) (b < a) → is_le r ≡ true) [
      | Less ↦ λ less. refl
      | Equal ↦ λ same. refl
      | Greater ↦ λ more. absurd (omega arith)
    ] (ranked a b (nat_cmp a b) refl)

is_lt-nat_cmp : (a b : ℕ) → b ≤ a → is_lt (nat_cmp a b) ≡ false
is_lt-nat_cmp a b le =
    elim (nat_cmp a b) as (λ r. MatchOrdering r (a < b) (a ≡ b) (b < a) → is_lt r ≡ false) [
      | Less ↦ λ less. absurd (omega arith)
      | Equal ↦ λ same. refl
      | Greater ↦ λ more. refl
    ] (ranked a b (nat_cmp a b) refl)

-- from the least number of a resolution to the greatest that memory can hold there are the keys of that resolution
pub range_contains-resolution : (resolution : ℕ) (key : ChoiceKey) → key.number < 2 ^ 32
    → range_contains choice_cmp (Included (choice_key resolution 0)) (Included (choice_key resolution (2 ^ 32 - 1))) key ≡ nat_eq resolution key.resolution
range_contains-resolution resolution key small =
    by_first (nat_cmp resolution key.resolution) (nat_cmp 0 key.number) (nat_cmp (2 ^ 32 - 1) key.number)
    (is_le-nat_cmp 0 key.number (omega arith)) (is_lt-nat_cmp (2 ^ 32 - 1) key.number (omega arith))
    ∙ sym (unsigned_ties resolution key.resolution)
