-- Rows that are numbered 1, 2, .. without gaps: where there are as many rows as numbers, no row has another number.
use Rattle.std.proofs.Common.{◌≡◌, ℕ, zero, suc, ◌+◌, ◌<◌, ◌≤◌, ◌↔◌, Bool, true, false, IsTrue, ◌-◌, ◌⊎◌, inl, inr, List, [], ◌∷◌, length, is_some, IsSome, refl, sym, ap, ◌∙◌, subst, arith}
use Rattle.std.specs.Prelude.{◌||◌}
use Rattle.std.specs.declared.cmp.Ordering.{Ordering}
use Rattle.std.specs.Ordering.{eq_by_cmp}
use Rattle.std.specs.Cmp.{IsTotalOrder, eq_by_cmp_equiv}
use Rattle.std.specs.FinMap.{IsAntisymmetric, find}
use Rattle.std.specs.List.{All, AllByRecursion, IsDistinct, list_any, range_with_len}
use Rattle.std.specs.Map.{lookup}
use Rattle.std.proofs.lemmas.List.Elements.{All-from_recursion, recursion_from_All}
use Rattle.std.proofs.lemmas.Map.Steps.{length-le_from_keys}
use Rattle.gr_core.specs.Desks.Valid.{AreNumbered}
use Rattle.gr_core.proofs.Collections.TableLemmas.{find-lookup}
use Rattle.gr_core.proofs.Collections.PresenceLemmas.{not_false}
use Rattle.gr_core.proofs.Collections.TableLemmas.{tied}

eq_or_more : (a b : ℕ) → a ≤ b → (a ≡ b) ⊎ (a + 1 ≤ b)
eq_or_more zero zero least = inl refl
eq_or_more zero (suc b) least = inr (omega arith)
eq_or_more (suc a) zero least = absurd (omega arith)
eq_or_more (suc a) (suc b) least =
    elim (eq_or_more a b (omega arith)) [
      | inl same ↦ inl (ap suc same)
      | inr more ↦ inr (omega arith)
    ]

-- what holds of each number of a range
module _ (P : ℕ → Type 0) where
  of_range : (first count : ℕ) → AllByRecursion P (range_with_len first count) → (n : ℕ) → first ≤ n → n < first + count → P n
  of_range first zero all n least most = absurd (omega arith)
  of_range first (suc count) all n least most =
      elim (eq_or_more first n least) [
        | inl same ↦ subst P same all.0
        | inr more ↦ of_range (first + 1) count all.1 n more (omega arith)
      ]

  each_of_range : (first count : ℕ) → ((n : ℕ) → first ≤ n → n < first + count → P n) → AllByRecursion P (range_with_len first count)
  each_of_range first zero each = tt
  each_of_range first (suc count) each = (
    each first (omega arith) (omega arith),
    each_of_range (first + 1) count (λ n least most. each n (omega arith) (omega arith)),
  )

module _ {K : Type 0} {cmp : K → K → Ordering} (total : IsTotalOrder cmp) (only : IsAntisymmetric cmp)
    (key_of : ℕ → K) (differ : (a b : ℕ) → key_of a ≡ key_of b → a ≡ b) where
  -- the keys of so many numbers from this one on
  abbrev keys_from : ℕ → ℕ → List K
  keys_from first zero = []
  keys_from first (suc count) = key_of first ∷ keys_from (first + 1) count

  length-keys_from : (first count : ℕ) → length (keys_from first count) ≡ count
  length-keys_from first zero = refl
  length-keys_from first (suc count) = ap suc (length-keys_from (first + 1) count)

  not_tied : (a b : ℕ) → (a ≡ b → ⊥) → eq_by_cmp cmp (key_of a) (key_of b) ≡ false
  not_tied a b other =
      elim (eq_by_cmp cmp (key_of a) (key_of b)) as (λ t. eq_by_cmp cmp (key_of a) (key_of b) ≡ t → t ≡ false) [
        | true ↦ λ same. absurd (other (differ a b (only _ _ (tied _ same))))
        | false ↦ λ same. refl
      ] refl

  apart_from : (q first count : ℕ) → ((n : ℕ) → first ≤ n → n < first + count → q ≡ n → ⊥)
      → AllByRecursion (λ k. eq_by_cmp cmp (key_of q) k ≡ false) (keys_from first count)
  apart_from q first zero outside = tt
  apart_from q first (suc count) outside = (
    not_tied q first (outside first (omega arith) (omega arith)),
    apart_from q (first + 1) count (λ n least most. outside n (omega arith) (omega arith)),
  )

  distinct_from : (first count : ℕ) → IsDistinct (eq_by_cmp cmp) (keys_from first count)
  unfolding IsDistinct
  distinct_from first zero = tt
  distinct_from first (suc count) =
      let rest = distinct_from (first + 1) count in (
        apart_from first (first + 1) count (λ n least most same. absurd (omega arith)),
        rest,
      )

  module _ {R : Type 0} (es : List (K × R)) where
    abbrev IsThere : ℕ → Type 0
    IsThere n = IsSome (find cmp (key_of n) es)

    abbrev AreThere : List K → Type 0
    AreThere = AllByRecursion (λ k. IsSome (find cmp k es))

    there_from : (first count : ℕ) → ((n : ℕ) → first ≤ n → n < first + count → IsThere n) → AreThere (keys_from first count)
    there_from first zero each = tt
    there_from first (suc count) each = (
      each first (omega arith) (omega arith),
      there_from (first + 1) count (λ n least most. each n (omega arith) (omega arith)),
    )

    among : (ks : List K) → AreThere ks → (k : K) → list_any (eq_by_cmp cmp k) ks ≡ true → IsSome (lookup (eq_by_cmp cmp k) es)
    among [] there k inside = absurd (not_false inside)
    among (x ∷ ks) there k inside =
        elim (eq_by_cmp cmp k x) as (λ b. eq_by_cmp cmp k x ≡ b → (b || list_any (eq_by_cmp cmp k) ks) ≡ true
        → IsSome (lookup (eq_by_cmp cmp k) es)) [
          | true ↦ λ same one.
              ap is_some (sym (find-lookup cmp k es))
              ∙ subst (λ key. IsSome (find cmp key es)) (sym (only k x (tied _ same))) there.0
          | false ↦ λ other others. among ks there.1 k others
        ] refl inside

    module _ (each : (n : ℕ) → 1 ≤ n → n < 1 + length es → IsThere n) where
      -- a further number would be one too many
      no_other : (q : ℕ) → IsThere q → ((n : ℕ) → 1 ≤ n → n < 1 + length es → q ≡ n → ⊥) → ⊥
      unfolding IsDistinct
      no_other q there outside =
          let count = length es in
          let keys = keys_from 1 count in
          let rest = distinct_from 1 count in
          let many : length (key_of q ∷ keys) ≤ length es =
          length-le_from_keys (eq_by_cmp_equiv total) (key_of q ∷ keys) es (apart_from q 1 count outside, rest)
          (among (key_of q ∷ keys) (there, there_from 1 count each)) in
          let so_many : length keys ≡ count = length-keys_from 1 count in
          absurd (omega arith)

      within : (q : ℕ) → IsThere q → (0 < q) × (q ≤ length es)
      within q there =
          let not_zero : q ≡ 0 → ⊥ = λ is. no_other q there (λ n least most same. absurd (omega arith)) in
          let not_more : length es < q → ⊥ = λ more. no_other q there (λ n least most same. absurd (omega arith)) in
          (omega arith, omega arith)

    numbered_in : All (λ before. IsThere (before + 1)) (range_with_len 0 (length es))
        ↔ AreNumbered (λ n. is_some (find cmp (key_of n) es)) (length es)
    numbered_in = (
      λ all n. let each : (i : ℕ) → 1 ≤ i → i < 1 + length es → IsThere i = λ i least most.
          subst IsThere (let back : (i - 1) + 1 ≡ i = omega arith in back)
          (of_range (λ before. IsThere (before + 1)) 0 (length es) (recursion_from_All (λ before. IsThere (before + 1)) (range_with_len 0 (length es)) all)
          (i - 1) (omega arith) (omega arith)) in
          (within each n, λ inside. let least : 0 < n = inside.0 in let most : n ≤ length es = inside.1 in each n (omega arith) (omega arith)),
      λ is. All-from_recursion (λ before. IsThere (before + 1)) (range_with_len 0 (length es)) (each_of_range (λ before. IsThere (before + 1)) 0 (length es)
          (λ n least most. (is (n + 1)).1 (omega arith, omega arith))),
    )

    -- where each number up to their count is there, the rows are numbered
    pub numbered : (has : ℕ → Bool) (count : ℕ) → ((n : ℕ) → is_some (find cmp (key_of n) es) ≡ has n) → length es ≡ count
        → All (λ before. IsTrue (has (before + 1))) (range_with_len 0 count) ↔ AreNumbered has count
    numbered has count finds so_many =
        subst (λ (rows : (ℕ → Bool) × ℕ). All (λ before. IsTrue (rows.0 (before + 1))) (range_with_len 0 rows.1) ↔ AreNumbered rows.0 rows.1)
        (λ i. ((λ n. finds n i), so_many i)) numbered_in
