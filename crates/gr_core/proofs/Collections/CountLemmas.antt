-- How many entries of a finite map pass a test, and what they add up to, for keys and rows of any kind.
use Rattle.std.proofs.Common.{◌≡◌, ℕ, ◌+◌, ◌≤◌, Bool, true, false, cond, List, [], ◌∷◌, map, Option, Some, None, count_by, filter, zero-add, refl, sym, ap, ◌∙◌, subst, arith}
use lib.Dec.{T}
use Rattle.std.specs.List.{sum_by}
use Rattle.std.specs.declared.cmp.Ordering.{Ordering}
use Rattle.std.specs.declared.cmp.Ordering.TheVariants.{Less, Equal, Greater}
use Rattle.std.specs.Ordering.{is_eq, is_lt}
use Rattle.std.specs.Cmp.{IsTotalOrder}
use Rattle.std.specs.FinMap.{FinMap, IsAntisymmetric, get, insert, len, entries, entries_sorted, entries-insert, get-entries, len-entries, find, put, is_sorted}
use Rattle.std.specs.FinMap.Entries.{by_order, below_all}
use Rattle.std.proofs.lemmas.List.Sums.{sum_by-cons, count_by-le-length}
use Rattle.gr_core.proofs.Collections.TableLemmas.{former, latter}

-- the amount of a row, where there is one
abbrev pub amount_where : {R : Type 0} → (R → ℕ) → Option R → ℕ
amount_where amount None = 0
amount_where amount (Some row) = amount row

-- one where there is a row that passes
abbrev pub one_where : {R : Type 0} → (R → Bool) → Option R → ℕ
one_where passes = amount_where (λ row. cond (passes row) 1 0)

pub count-map : {X Y : Type 0} (test : Y → Bool) (f : X → Y) (xs : List X) → count_by test (map f xs) ≡ count_by (λ x. test (f x)) xs
count-map test f [] = refl
count-map test f (x ∷ xs) =
    sum_by-cons (λ y. cond (test y) 1 0) (f x) (map f xs)
    ∙ ap (λ n. cond (test (f x)) 1 0 + n) (count-map test f xs)
    ∙ sym (sum_by-cons (λ y. cond (test (f y)) 1 0) x xs)

module _ {J R : Type 0} {cmp : J → J → Ordering} (total : IsTotalOrder cmp) where
  -- a key below each of a list is not in it, and so is a key that is below such a key
  find_below : (q k : J) (es : List (J × R)) → cmp q k ≡ Less → T (below_all cmp k es) → find cmp q es ≡ None
  find_below q k [] less h = refl
  find_below q k (e ∷ es) less h =
      elim (cmp k e.0) as (λ r. cmp k e.0 ≡ r → T (is_lt r) → find cmp q (e ∷ es) ≡ None) [
        | Less ↦ λ is p. ap (λ r. cond (is_eq r) (Some e.1) (find cmp q es)) (total.trans q k e.0 less is) ∙ find_below q k es less (latter _ _ h)
        | Equal ↦ λ is p. absurd p
        | Greater ↦ λ is p. absurd p
      ] refl (former _ _ h)

  module _ (only : IsAntisymmetric cmp) (amount : J × R → ℕ) where
    -- the amount of the row under the key
    abbrev was : J → Option R → ℕ
    was k found = amount_where (λ row. amount (k, row)) found

    sum-put : (k : J) (v : R) (es : List (J × R)) → T (is_sorted cmp es)
        → sum_by amount (put cmp k v es) + was k (find cmp k es) ≡ sum_by amount es + amount (k, v)
    sum-put k v [] sorted = let one : sum_by amount ((k, v) ∷ []) ≡ amount (k, v) + 0 = sum_by-cons amount (k, v) [] in omega arith
    sum-put k v (e ∷ es) sorted =
        let here : sum_by amount (e ∷ es) ≡ amount e + sum_by amount es = sum_by-cons amount e es in
        elim (cmp k e.0) as (λ r. cmp k e.0 ≡ r
        → sum_by amount (by_order r ((k, v) ∷ e ∷ es) ((e.0, v) ∷ es) (e ∷ put cmp k v es)) + was k (cond (is_eq r) (Some e.1) (find cmp k es))
        ≡ sum_by amount (e ∷ es) + amount (k, v)) [
          | Less ↦ λ is.
              let none : was k (find cmp k es) ≡ 0 = ap (was k) (find_below k e.0 es is (former _ _ sorted)) in
              let more : sum_by amount ((k, v) ∷ e ∷ es) ≡ amount (k, v) + sum_by amount (e ∷ es) = sum_by-cons amount (k, v) (e ∷ es) in
              omega arith
          | Equal ↦ λ is.
              let same : k ≡ e.0 = only k e.0 is in
              let old : amount (k, e.1) ≡ amount e = ap (λ key. amount (key, e.1)) same in
              let new : amount (k, v) ≡ amount (e.0, v) = ap (λ key. amount (key, v)) same in
              let put_here : sum_by amount ((e.0, v) ∷ es) ≡ amount (e.0, v) + sum_by amount es = sum_by-cons amount (e.0, v) es in
              omega arith
          | Greater ↦ λ is.
              let later : T (is_sorted cmp es) = latter (below_all cmp e.0 es) (is_sorted cmp es) sorted in
              let rest : sum_by amount (put cmp k v es) + was k (find cmp k es) ≡ sum_by amount es + amount (k, v) = sum-put k v es later in
              let more : sum_by amount (e ∷ put cmp k v es) ≡ amount e + sum_by amount (put cmp k v es) = sum_by-cons amount e (put cmp k v es) in
              omega arith
        ] refl

    -- a row that was put adds its amount, and the row in whose place it stands no more
    pub sum-insert : (m : FinMap cmp R) (k : J) (v : R)
        → sum_by amount (entries (insert m k v)) + amount_where (λ row. amount (k, row)) (get m k) ≡ sum_by amount (entries m) + amount (k, v)
    sum-insert m k v =
        subst (λ es. sum_by amount es + was k (get m k) ≡ sum_by amount (entries m) + amount (k, v)) (sym (entries-insert total m k v))
        (subst (λ o. sum_by amount (put cmp k v (entries m)) + was k o ≡ sum_by amount (entries m) + amount (k, v)) (sym (get-entries m k))
        (sum-put k v (entries m) (entries_sorted m)))

  module _ (only : IsAntisymmetric cmp) (test : J × R → Bool) where
    -- a row that was put counts where it passes, and the row in whose place it stands no more
    pub count-insert : (m : FinMap cmp R) (k : J) (v : R)
        → count_by test (entries (insert m k v)) + one_where (λ row. test (k, row)) (get m k) ≡ count_by test (entries m) + cond (test (k, v)) 1 0
    count-insert = sum-insert only (λ entry. cond (test entry) 1 0)

-- what the entries that pass a test add up to
pub sum-filter : {X : Type 0} (amount : X → ℕ) (test : X → Bool) (xs : List X)
    → sum_by amount (filter test xs) ≡ sum_by (λ x. cond (test x) (amount x) 0) xs
sum-filter amount test [] = refl
sum-filter amount test (x ∷ xs) =
    let rest : sum_by amount (filter test xs) ≡ sum_by (λ y. cond (test y) (amount y) 0) xs = sum-filter amount test xs in
    elim (test x) as (λ b. sum_by amount (cond b (x ∷ filter test xs) (filter test xs))
    ≡ cond b (amount x) 0 + sum_by (λ y. cond (test y) (amount y) 0) xs) [
      | true ↦ sum_by-cons amount x (filter test xs) ∙ ap (λ n. amount x + n) rest
      | false ↦ rest ∙ sym (zero-add (sum_by (λ y. cond (test y) (amount y) 0) xs))
    ] ∙ sym (sum_by-cons (λ y. cond (test y) (amount y) 0) x xs)

-- no more entries pass than there are
pub count-le_len : {J R : Type 0} {cmp : J → J → Ordering} (test : J × R → Bool) (m : FinMap cmp R) → count_by test (entries m) ≤ len m
count-le_len test m = subst (λ n. count_by test (entries m) ≤ n) (sym (len-entries m)) (count_by-le-length test (entries m))
