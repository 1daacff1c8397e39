-- Rows that are put under keys in order, one after the other: what a finite map has after it, for keys and rows of any kind.
use Rattle.std.proofs.Common.{◌≡◌, ◌≢◌, Bool, true, false, cond, List, [], ◌∷◌, ◌++◌, map, Some, None, refl, sym, ap, ◌∙◌, subst}
use Rattle.std.specs.Prelude.{filter, option_to_list, option_map}
use Rattle.std.specs.Option.{option_or}
use lib.Dec.{T}
use Rattle.std.specs.declared.cmp.Ordering.{Ordering}
use Rattle.std.specs.declared.cmp.Ordering.TheVariants.{Less, Equal, Greater}
use Rattle.std.specs.Ordering.{is_eq, is_lt, eq_by_cmp, ordering_reverse}
use Rattle.std.specs.Cmp.{IsTotalOrder, eq_by_cmp_equiv, tied_itself}
use Rattle.std.specs.FinMap.{FinMap, IsAntisymmetric, entries, entries_sorted, get, insert, get-entries, get-insert, find, is_sorted}
use Rattle.std.specs.FinMap.Entries.{below_all, find-append}
use Rattle.gr_core.specs.Machine.Map.{with_rows}
use Rattle.gr_core.specs.Machine.Row.{RowModel}
use Rattle.gr_core.specs.Machine.Effect.{rows_at}
use Rattle.gr_core.proofs.Collections.TableLemmas.{both, former, latter, less, tied}
use Rattle.gr_core.proofs.Collections.RowPutLemmas.{get-put, get-put_other}

module _ {J R : Type 0} (cmp : J → J → Ordering) where
  below_all-filter : (test : J × R → Bool) (k : J) (es : List (J × R)) → T (below_all cmp k es)
      → T (below_all cmp k (filter test es))
  below_all-filter test k [] below = tt
  below_all-filter test k (e ∷ es) below =
      let here = former _ _ below in
      let rest = below_all-filter test k es (latter (is_lt (cmp k e.0)) (below_all cmp k es) below) in
      elim (test e) as (λ b. T (below_all cmp k (cond b (e ∷ filter test es) (filter test es)))) [
        | true ↦ both _ _ here rest
        | false ↦ rest
      ]

  -- what passes a test is in order still
  pub is_sorted-filter : (test : J × R → Bool) (es : List (J × R)) → T (is_sorted cmp es)
      → T (is_sorted cmp (filter test es))
  is_sorted-filter test [] sorted = tt
  is_sorted-filter test (e ∷ es) sorted =
      let here = below_all-filter test e.0 es (former (below_all cmp e.0 es) (is_sorted cmp es) sorted) in
      let rest = is_sorted-filter test es (latter (below_all cmp e.0 es) (is_sorted cmp es) sorted) in
      elim (test e) as (λ b. T (is_sorted cmp (cond b (e ∷ filter test es) (filter test es)))) [
        | true ↦ both _ _ here rest
        | false ↦ rest
      ]

-- a key is not below itself
not_below : {J : Type 0} {cmp : J → J → Ordering} → IsTotalOrder cmp → (k q : J) → cmp k q ≡ Less → k ≡ q → ⊥
not_below {cmp = cmp} total k q is same = let never : Equal ≡ Less = sym (tied_itself total k) ∙ ap (cmp k) same
    ∙ is in cc

module _ {J R : Type 0} {cmp : J → J → Ordering} (total : IsTotalOrder cmp) (only : IsAntisymmetric cmp) where
  -- a key below those of a list is not in it
  missing : (k : J) (es : List (J × R)) → T (below_all cmp k es) → find cmp k es ≡ None
  missing k [] below = refl
  missing k (e ∷ es) below =
      elim (cmp k e.0) as (λ r. T (is_lt r) → cond (is_eq r) (Some e.1) (find cmp k es) ≡ None) [
        | Less ↦ λ p. missing k es (latter (is_lt (cmp k e.0)) (below_all cmp k es) below)
        | Equal ↦ λ p. absurd p
        | Greater ↦ λ p. absurd p
      ] (former (is_lt (cmp k e.0)) (below_all cmp k es) below)

  -- the first key of a list in order is not in the rest
  pub not_again : (q : J) (e : J × R) (es : List (J × R)) → T (is_sorted cmp (e ∷ es))
      → eq_by_cmp cmp q e.0 ≡ true → find cmp q es ≡ None
  not_again q e es sorted same =
      ap (λ k. find cmp k es) (only q e.0 (tied _ same))
      ∙ missing e.0 es (former (below_all cmp e.0 es) (is_sorted cmp es) sorted)

  -- what a table has after rows were put whose keys differ
  pub get-with_rows : (rows : List (J × R)) (m : FinMap cmp R) (q : J) → T (is_sorted cmp rows)
      → get (with_rows m rows) q ≡ option_or (find cmp q rows) (get m q)
  get-with_rows [] m q sorted = refl
  get-with_rows (e ∷ rows) m q sorted =
      get-with_rows rows (insert m e.0 e.1) q (latter (below_all cmp e.0 rows) (is_sorted cmp rows) sorted)
      ∙ ap (option_or (find cmp q rows)) (get-insert total m e.0 e.1 q)
      ∙ elim (eq_by_cmp cmp q e.0) as (λ c. eq_by_cmp cmp q e.0 ≡ c
      → option_or (find cmp q rows) (cond c (Some e.1) (get m q))
      ≡ option_or (cond c (Some e.1) (find cmp q rows)) (get m q)) [
        | true ↦ λ same. ap (λ o. option_or o (Some e.1)) (not_again q e rows sorted same)
        | false ↦ λ other. refl
      ] refl

  -- rows under greater keys leave the row of a key
  get-with_rows_below : (m : FinMap cmp R) (k : J) (rows : List (J × R)) → T (below_all cmp k rows)
      → get (with_rows m rows) k ≡ get m k
  get-with_rows_below m k [] below = refl
  get-with_rows_below m k (e ∷ rows) below =
      get-with_rows_below (insert m e.0 e.1) k rows (latter (is_lt (cmp k e.0)) (below_all cmp k rows) below)
      ∙ get-put_other total only m e.0 k e.1 (not_below total k e.0 (less _ (former (is_lt (cmp k e.0)) (below_all cmp k rows) below)))

  -- rows under keys in order are all there once they were put
  pub rows_at-with_rows : (row : J → R → RowModel) (m : FinMap cmp R) (rows : List (J × R)) → T (is_sorted cmp rows)
      → rows_at row (with_rows m rows) (map (λ e. e.0) rows) ≡ map (λ e. row e.0 e.1) rows
  rows_at-with_rows row m [] sorted = refl
  rows_at-with_rows row m (e ∷ rows) sorted =
      let next = insert m e.0 e.1 in
      let there : get (with_rows next rows) e.0 ≡ Some e.1
      = get-with_rows_below next e.0 rows (former (below_all cmp e.0 rows) (is_sorted cmp rows) sorted)
      ∙ get-put total only m e.0 e.1 in
      let rest = rows_at-with_rows row next rows (latter (below_all cmp e.0 rows) (is_sorted cmp rows) sorted) in
      λ i. option_to_list (option_map (row e.0) (there i)) ++ rest i

-- A map whose rows in order are those before a row, the row and those behind it.
module _ {J R : Type 0} {cmp : J → J → Ordering} (total : IsTotalOrder cmp) (only : IsAntisymmetric cmp) where
  below_middle : (k : J) (rows behind : List (J × R)) (e : J × R) → T (below_all cmp k (rows ++ e ∷ behind)) → cmp k e.0 ≡ Less
  below_middle k [] behind e below = less _ (former (is_lt (cmp k e.0)) (below_all cmp k behind) below)
  below_middle k (first ∷ rows) behind e below =
      below_middle k rows behind e (latter (is_lt (cmp k first.0)) (below_all cmp k (rows ++ e ∷ behind)) below)

  -- its key is none of those before it
  not_before : (rows behind : List (J × R)) (e : J × R) → T (is_sorted cmp (rows ++ e ∷ behind)) → find cmp e.0 rows ≡ None
  not_before [] behind e sorted = refl
  not_before (first ∷ rows) behind e sorted =
      let below = former (below_all cmp first.0 (rows ++ e ∷ behind)) (is_sorted cmp (rows ++ e ∷ behind)) sorted in
      let rest = latter (below_all cmp first.0 (rows ++ e ∷ behind)) (is_sorted cmp (rows ++ e ∷ behind)) sorted in
      let after : cmp e.0 first.0 ≡ Greater = total.antisymm e.0 first.0 ∙ ap ordering_reverse (below_middle first.0 rows behind e below) in
      ap (λ order. cond (is_eq order) (Some first.1) (find cmp e.0 rows)) after ∙ not_before rows behind e rest

  found_middle : (rows behind : List (J × R)) (e : J × R) → T (is_sorted cmp (rows ++ e ∷ behind)) → find cmp e.0 (rows ++ e ∷ behind) ≡ Some e.1
  found_middle [] behind e sorted = ap (λ b. cond b (Some e.1) (find cmp e.0 behind)) ((eq_by_cmp_equiv total).refl e.0)
  found_middle (first ∷ rows) behind e sorted =
      let below = former (below_all cmp first.0 (rows ++ e ∷ behind)) (is_sorted cmp (rows ++ e ∷ behind)) sorted in
      let rest = latter (below_all cmp first.0 (rows ++ e ∷ behind)) (is_sorted cmp (rows ++ e ∷ behind)) sorted in
      let after : cmp e.0 first.0 ≡ Greater = total.antisymm e.0 first.0 ∙ ap ordering_reverse (below_middle first.0 rows behind e below) in
      ap (λ order. cond (is_eq order) (Some first.1) (find cmp e.0 (rows ++ e ∷ behind))) after ∙ found_middle rows behind e rest

  module _ (m : FinMap cmp R) (rows behind : List (J × R)) (key : J) (row : R) (split : entries m ≡ rows ++ (key, row) ∷ behind) where
    in_order : T (is_sorted cmp (rows ++ (key, row) ∷ behind))
    in_order = subst (λ these. T (is_sorted cmp these)) split (entries_sorted m)

    pub none_before : find cmp key rows ≡ None
    none_before = not_before rows behind (key, row) in_order

    -- it is the row of its key
    pub row_there : get m key ≡ Some row
    row_there = get-entries m key ∙ ap (find cmp key) split ∙ found_middle rows behind (key, row) in_order

    -- with it, those before it have it under its key, and no other under another key
    pub found_here : find cmp key (rows ++ (key, row) ∷ []) ≡ Some row
    found_here =
        find-append cmp total rows key row key none_before
        ∙ ap (λ b. cond b (Some row) (find cmp key rows)) ((eq_by_cmp_equiv total).refl key)

    pub found_elsewhere : (q : J) → q ≢ key → find cmp q (rows ++ (key, row) ∷ []) ≡ find cmp q rows
    found_elsewhere q other =
        find-append cmp total rows key row q none_before
        ∙ elim (eq_by_cmp cmp q key) as (λ b. eq_by_cmp cmp q key ≡ b → cond b (Some row) (find cmp q rows) ≡ find cmp q rows) [
          | true ↦ λ same. absurd (other (only q key (tied _ same)))
          | false ↦ λ differs. refl
        ] refl
