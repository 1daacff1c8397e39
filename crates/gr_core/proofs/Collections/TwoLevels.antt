-- A table of tables in memory and the finite map by pairs of keys that it makes, for keys and rows of any kind.
use Rattle.std.proofs.Common.{◌≡◌, ℕ, ◌+◌, ◌⊎◌, inl, inr, Bool, true, false, cond, List, [], ◌∷◌, ◌++◌, map, Option, Some, None, is_some, option_map, count_by, refl, sym, ap, ◌∙◌, subst, arith}
use Rattle.std.specs.Prelude.{◌&&◌, filter, unwrap_or, MatchOption}
use Rattle.std.specs.Option.{option_or, option_and_then}
use lib.Dec.{T}
use Rattle.std.specs.declared.cmp.Ordering.{Ordering}
use Rattle.std.specs.declared.cmp.Ordering.TheVariants.{Less, Equal, Greater}
use Rattle.std.specs.Ordering.{is_eq, is_lt, eq_by_cmp, ordering_then}
use Rattle.std.specs.Cmp.{IsTotalOrder, tied_itself}
use Rattle.std.specs.FinMap.{FinMap, IsAntisymmetric, from_entries, get, entries, insert, find, is_sorted, get-insert, get-from_entries, same_map}
use Rattle.std.specs.FinMap.Entries.{below_all}
use Rattle.std.specs.Map.{lookup, keys_of, values_of, remove_entry}
use Rattle.std.specs.List.{All, AllByRecursion}
use Rattle.std.specs.List.Sorted.{IsStrictlySortedBy}
use Rattle.std.specs.BTreeMap.{BTreeMap, IsOrdered, IsEmpty, Updates, WritesThrough, insert_entry, is_at, get_by}
use Rattle.std.proofs.lemmas.List.{append-nil}
use Rattle.std.proofs.lemmas.List.Elements.{All-head, All-tail, filter-append}
use Rattle.std.proofs.lemmas.Map.Views.{All-map-remove_entry, All-values-insert_entry, All-values-set_value}
use Rattle.std.proofs.lemmas.List.Sums.{sum_by-cons, sum_by-append}
use Rattle.gr_core.specs.Parts.Key.{pair_cmp}
use Rattle.gr_core.specs.InMemory.Table.{entry_by, table_of, rows_under, flat_rows, two_levels_of, AreOrdered, PutsUnder, KeepsUnder}
use Rattle.gr_core.proofs.Collections.TableLemmas.{key_cmp, both, former, latter, tied, entries-from_entries, look-others, is_some-table_of, sorted-entries, table_of-insert}
use Rattle.gr_core.proofs.Collections.PairKeys.{pair_total, pair_only}

apart_then : (r s : Ordering) → is_eq r ≡ false → is_eq (ordering_then r s) ≡ false
apart_then Less s e = refl
apart_then Equal s e = absurd (let never : true ≡ false = e in cc)
apart_then Greater s e = refl

or_none : {R : Type 0} (o : Option R) → option_or o None ≡ o
or_none None = refl
or_none (Some row) = refl

-- two lists of entries, one after the other
module _ {J R : Type 0} (cmp : J → J → Ordering) where
  find-append : (q : J) (xs ys : List (J × R)) → find cmp q (xs ++ ys) ≡ option_or (find cmp q xs) (find cmp q ys)
  find-append q [] ys = refl
  find-append q (x ∷ xs) ys =
      elim (eq_by_cmp cmp q x.0) as (λ b. cond b (Some x.1) (find cmp q (xs ++ ys)) ≡ option_or (cond b (Some x.1) (find cmp q xs)) (find cmp q ys)) [
        | true ↦ refl
        | false ↦ find-append q xs ys
      ]

  below-append : (k : J) (xs ys : List (J × R)) → T (below_all cmp k xs) → T (below_all cmp k ys) → T (below_all cmp k (xs ++ ys))
  below-append k [] ys p q = q
  below-append k (x ∷ xs) ys p q = both _ _ (former _ _ p) (below-append k xs ys (latter _ _ p) q)

  sorted-append : (xs ys : List (J × R)) → T (is_sorted cmp xs) → T (is_sorted cmp ys) → AllByRecursion (λ x. T (below_all cmp x.0 ys)) xs
      → T (is_sorted cmp (xs ++ ys))
  sorted-append [] ys p q below = q
  sorted-append (x ∷ xs) ys p q below = both _ _ (below-append x.0 xs ys (former _ _ p) below.0) (sorted-append xs ys (latter _ _ p) q below.1)

-- what keeps a table of tables in order
module _ {K L V : Type 0} {P : K → K → Ordering} {Q : L → L → Ordering} (m n : BTreeMap K (BTreeMap L V)) (inner : BTreeMap L V)
    (ordered : AreOrdered P Q m) (inner_ordered : IsOrdered Q inner) where
  pub ordered-write : (compare : K → Ordering) → WritesThrough P compare m inner n → AreOrdered P Q n
  ordered-write compare writes = record {
    outer = writes.4;
    inner = subst (λ es. All (IsOrdered Q) (values_of es)) (sym writes.0)
        (All-values-set_value (is_at compare) (IsOrdered Q) m.entries inner ordered.inner inner_ordered);
  }

  pub ordered-insert : (k : K) → n.entries ≡ insert_entry P m.entries k inner → IsOrdered P n → AreOrdered P Q n
  ordered-insert k inserts outer = record {
    outer = outer;
    inner = subst (λ es. All (IsOrdered Q) (values_of es)) (sym inserts)
        (All-values-insert_entry P k inner (IsOrdered Q) m.entries ordered.inner inner_ordered);
  }

-- a table of tables is in order without one of them
pub ordered-remove : {K L V : Type 0} {P : K → K → Ordering} {Q : L → L → Ordering} (m n : BTreeMap K (BTreeMap L V))
    → AreOrdered P Q m → (passes : K → Bool) → n.entries ≡ remove_entry passes m.entries → IsOrdered P n
    → AreOrdered P Q n
ordered-remove {Q = Q} m n ordered passes removes outer = record {
  outer = outer;
  inner = subst (λ es. All (IsOrdered Q) (values_of es)) (sym removes) (All-map-remove_entry passes (λ e. e.1) (IsOrdered Q) m.entries ordered.inner);
}

-- the rows under a first part: those of its table, where it has one
abbrev pub rows_in : {L V A B R : Type 0} → (L → B) → (V → R) → A → Option (BTreeMap L V) → List ((A × B) × R)
rows_in second row_of a None = []
rows_in second row_of a (Some inner) = rows_under second row_of a inner.entries

-- keys and rows in memory (K and L, V), and their values (A and B, R)
module _ {K L V A B R : Type 0} {P : A → A → Ordering} {Q : B → B → Ordering}
    (first_total : IsTotalOrder P) (first_only : IsAntisymmetric P) (second_total : IsTotalOrder Q) (second_only : IsAntisymmetric Q)
    (first : K → A) (second : L → B) (row_of : V → R) where
  abbrev under : A → List (L × V) → List ((A × B) × R)
  under = rows_under second row_of

  abbrev flat : List (K × BTreeMap L V) → List ((A × B) × R)
  flat = flat_rows first second row_of

  abbrev whole : BTreeMap K (BTreeMap L V) → FinMap (pair_cmp P Q) R
  whole = two_levels_of P Q first second row_of

  -- the map that an inner table makes
  abbrev part : BTreeMap L V → FinMap Q R
  part = table_of Q second row_of

  -- the rows of an inner table, by the second part of the key
  abbrev rows : BTreeMap L V → List (B × R)
  rows inner = map (entry_by second row_of) inner.entries

  -- the inner table of a first part
  abbrev inner_of : A → BTreeMap K (BTreeMap L V) → Option (BTreeMap L V)
  inner_of a m = get_by (λ k. P a (first k)) m

  -- the first part ties with none of these keys
  abbrev IsApart : A → List K → Type 0
  IsApart a = AllByRecursion (λ k. eq_by_cmp P a (first k) ≡ false)

  apart_past : (a : A) (k : K) (ks : List K) → P a (first k) ≡ Equal → AllByRecursion (λ y. key_cmp P first k y ≡ Less) ks → IsApart a ks
  apart_past a k [] tie rise = tt
  apart_past a k (y ∷ ks) tie rise =
      (ap is_eq (first_total.congr a (first k) (first y) tie ∙ rise.0), apart_past a k ks tie rise.1)

  find-under_same : (a k : A) (b : B) (es : List (L × V)) → P a k ≡ Equal → find (pair_cmp P Q) (a, b) (under k es) ≡ find Q b (map (entry_by second row_of) es)
  find-under_same a k b [] tie = refl
  find-under_same a k b (e ∷ es) tie =
      λ i. cond (is_eq (ordering_then (tie i) (Q b (second e.0)))) (Some (row_of e.1)) (find-under_same a k b es tie i)

  find-under_other : (a k : A) (b : B) (es : List (L × V)) → eq_by_cmp P a k ≡ false → find (pair_cmp P Q) (a, b) (under k es) ≡ None
  find-under_other a k b [] other = refl
  find-under_other a k b (e ∷ es) other =
      λ i. cond (apart_then (P a k) (Q b (second e.0)) other i) (Some (row_of e.1)) (find-under_other a k b es other i)

  find-flat_apart : (a : A) (b : B) (es : List (K × BTreeMap L V)) → IsApart a (keys_of es) → find (pair_cmp P Q) (a, b) (flat es) ≡ None
  find-flat_apart a b [] apart = refl
  find-flat_apart a b (e ∷ es) apart =
      find-append (pair_cmp P Q) (a, b) (under (first e.0) e.1.entries) (flat es)
      ∙ (λ i. option_or (find-under_other a (first e.0) b e.1.entries apart.0 i) (find-flat_apart a b es apart.1 i))

  find-flat : (a : A) (b : B) (es : List (K × BTreeMap L V)) → IsStrictlySortedBy (key_cmp P first) (keys_of es)
      → find (pair_cmp P Q) (a, b) (flat es) ≡ option_and_then (λ inner. find Q b (rows inner)) (lookup (is_at (λ k. P a (first k))) es)
  unfolding IsStrictlySortedBy
  find-flat a b [] sorted = refl
  find-flat a b (e ∷ es) sorted =
      find-append (pair_cmp P Q) (a, b) (under (first e.0) e.1.entries) (flat es)
      ∙ elim (eq_by_cmp P a (first e.0)) as (λ t. eq_by_cmp P a (first e.0) ≡ t
      → option_or (find (pair_cmp P Q) (a, b) (under (first e.0) e.1.entries)) (find (pair_cmp P Q) (a, b) (flat es))
      ≡ option_and_then (λ inner. find Q b (rows inner)) (cond t (Some e.1) (lookup (is_at (λ k. P a (first k))) es))) [
        | true ↦ λ same.
            (λ i. option_or (find-under_same a (first e.0) b e.1.entries (tied _ same) i)
            (find-flat_apart a b es (apart_past a e.0 (keys_of es) (tied _ same) sorted.0) i))
            ∙ or_none _
        | false ↦ λ other.
            (λ i. option_or (find-under_other a (first e.0) b e.1.entries other i) (find-flat a b es sorted.1 i))
      ] refl

  -- the map has under a pair what the table of the first part has under the second
  pub get-two_levels : (m : BTreeMap K (BTreeMap L V)) → IsOrdered (key_cmp P first) m → (a : A) (b : B)
      → get (whole m) (a, b) ≡ option_and_then (λ inner. get (part inner) b) (inner_of a m)
  get-two_levels m ordered a b =
      get-from_entries (pair_total first_total second_total) (flat m.entries) (a, b)
      ∙ find-flat a b m.entries ordered
      ∙ (λ i. option_and_then (λ inner. sym (get-from_entries second_total (rows inner) b) i) (inner_of a m))

  is_some-found : (found : Option (BTreeMap L V)) (l : L)
      → is_some (option_and_then (λ inner. get_by (key_cmp Q second l) inner) found)
      ≡ is_some (option_and_then (λ inner. get (part inner) (second l)) found)
  is_some-found None l = refl
  is_some-found (Some inner) l = sym (is_some-table_of second_total second_only second row_of inner (second l))

  -- whether a row stands under the two parts, in memory and in the map
  pub is_some-two_levels : (m : BTreeMap K (BTreeMap L V)) → IsOrdered (key_cmp P first) m → (k : K) (l : L)
      → is_some (option_and_then (λ inner. get_by (key_cmp Q second l) inner) (get_by (key_cmp P first k) m))
      ≡ is_some (get (whole m) (first k, second l))
  is_some-two_levels m ordered k l =
      is_some-found (get_by (key_cmp P first k) m) l ∙ ap is_some (sym (get-two_levels m ordered (first k) (second l)))

  below-under_same : (a : A) (b : B) (es : List (L × V)) → T (below_all Q b (map (entry_by second row_of) es))
      → T (below_all (pair_cmp P Q) (a, b) (under a es))
  below-under_same a b [] below = tt
  below-under_same a b (e ∷ es) below =
      both _ _ (subst (λ r. T (is_lt (ordering_then r (Q b (second e.0))))) (sym (tied_itself first_total a)) (former _ _ below))
      (below-under_same a b es (latter _ _ below))

  below-under_less : (a k : A) (b : B) (es : List (L × V)) → P a k ≡ Less → T (below_all (pair_cmp P Q) (a, b) (under k es))
  below-under_less a k b [] less = tt
  below-under_less a k b (e ∷ es) less =
      both _ _ (subst (λ r. T (is_lt (ordering_then r (Q b (second e.0))))) (sym less) tt) (below-under_less a k b es less)

  below-flat : (k : K) (b : B) (es : List (K × BTreeMap L V)) → AllByRecursion (λ y. key_cmp P first k y ≡ Less) (keys_of es)
      → T (below_all (pair_cmp P Q) (first k, b) (flat es))
  below-flat k b [] rise = tt
  below-flat k b (e ∷ es) rise =
      below-append (pair_cmp P Q) (first k, b) (under (first e.0) e.1.entries) (flat es)
      (below-under_less (first k) (first e.0) b e.1.entries rise.0) (below-flat k b es rise.1)

  all_under : (a : A) (es : List (L × V)) (Fact : A × B → Type 0) → ((b : B) → Fact (a, b)) → AllByRecursion (λ e. Fact e.0) (under a es)
  all_under a [] Fact fact = tt
  all_under a (e ∷ es) Fact fact = (fact (second e.0), all_under a es Fact fact)

  sorted-under : (a : A) (es : List (L × V)) → T (is_sorted Q (map (entry_by second row_of) es)) → T (is_sorted (pair_cmp P Q) (under a es))
  sorted-under a [] sorted = tt
  sorted-under a (e ∷ es) sorted = both _ _ (below-under_same a (second e.0) es (former _ _ sorted)) (sorted-under a es (latter _ _ sorted))

  sorted-flat : (es : List (K × BTreeMap L V)) → IsStrictlySortedBy (key_cmp P first) (keys_of es) → All (IsOrdered (key_cmp Q second)) (values_of es)
      → T (is_sorted (pair_cmp P Q) (flat es))
  unfolding IsStrictlySortedBy
  sorted-flat [] outer inner = tt
  sorted-flat (e ∷ es) outer inner =
      sorted-append (pair_cmp P Q) (under (first e.0) e.1.entries) (flat es)
      (sorted-under (first e.0) e.1.entries
      (sorted-entries second_total second_only second row_of e.1.entries (All-head (IsOrdered (key_cmp Q second)) e.1 (values_of es) inner)))
      (sorted-flat es outer.1 (All-tail (IsOrdered (key_cmp Q second)) e.1 (values_of es) inner))
      (all_under (first e.0) e.1.entries (λ key. T (below_all (pair_cmp P Q) key (flat es))) (λ b. below-flat e.0 b es outer.0))

  -- the map has the rows of memory, in their order
  pub entries-two_levels : (m : BTreeMap K (BTreeMap L V)) → AreOrdered (key_cmp P first) (key_cmp Q second) m → entries (whole m) ≡ flat m.entries
  entries-two_levels m ordered =
      entries-from_entries (pair_total first_total second_total) (pair_only first_only second_only) (flat m.entries)
      (sorted-flat m.entries ordered.outer ordered.inner)

  -- Memory in which one inner table is new makes the map that has the rows of this table under its first part, and the
  -- rows of before under the others.
  with_part : (m n : BTreeMap K (BTreeMap L V)) (k : K) (inner : BTreeMap L V) (t : FinMap (pair_cmp P Q) R)
      → IsOrdered (key_cmp P first) m → IsOrdered (key_cmp P first) n → Updates (key_cmp P first) m n k (Some inner)
      → ((b : B) → get (part inner) b ≡ get t (first k, b))
      → ((a : A) (b : B) → eq_by_cmp P a (first k) ≡ false → get (whole m) (a, b) ≡ get t (a, b))
      → whole n ≡ t
  with_part m n k inner t ordered_m ordered_n updates here elsewhere =
      same_map (pair_total first_total second_total) (pair_only first_only second_only) (whole n) t (λ q.
      get-two_levels n ordered_n q.0 q.1
      ∙ elim (eq_by_cmp P q.0 (first k)) as (λ t'. eq_by_cmp P q.0 (first k) ≡ t'
      → option_and_then (λ table. get (part table) q.1) (inner_of q.0 n) ≡ get t q) [
        | true ↦ λ same.
            let is : q.0 ≡ first k = first_only q.0 (first k) (tied _ same) in
            ap (λ a. option_and_then (λ table. get (part table) q.1) (inner_of a n)) is
            ∙ ap (option_and_then (λ table. get (part table) q.1)) updates.1
            ∙ here q.1
            ∙ ap (λ a. get t (a, q.1)) (sym is)
        | false ↦ λ other.
            ap (option_and_then (λ table. get (part table) q.1))
            (look-others first_total first_only first (λ (table : BTreeMap L V). table) m n k (Some inner) updates q.0 other)
            ∙ sym (get-two_levels m ordered_m q.0 q.1)
            ∙ elsewhere q.0 q.1 other
      ] refl)

  -- a row put through the table of its first part, or through an empty one where there is none
  put_through : (m n : BTreeMap K (BTreeMap L V)) (k : K) (l : L) (v : V) (old new : BTreeMap L V)
      → IsOrdered (key_cmp P first) m → IsOrdered (key_cmp P first) n
      → ((b : B) → get (part old) b ≡ option_and_then (λ inner. get (part inner) b) (inner_of (first k) m))
      → Updates (key_cmp Q second) old new l (Some v) → Updates (key_cmp P first) m n k (Some new)
      → whole n ≡ insert (whole m) (first k, second l) (row_of v)
  put_through m n k l v old new ordered_m ordered_n before inner_updates updates =
      let total = pair_total first_total second_total in
      let after = insert (whole m) (first k, second l) (row_of v) in
      with_part m n k new after ordered_m ordered_n updates
      (λ b.
      ap (λ t. get t b) (table_of-insert second_total second_only second row_of old new l v inner_updates)
      ∙ get-insert second_total (part old) (second l) (row_of v) b
      ∙ ap (cond (eq_by_cmp Q b (second l)) (Some (row_of v))) (before b ∙ sym (get-two_levels m ordered_m (first k) b))
      ∙ ap (λ r. cond (is_eq (ordering_then r (Q b (second l)))) (Some (row_of v)) (get (whole m) (first k, b))) (sym (tied_itself first_total (first k)))
      ∙ sym (get-insert total (whole m) (first k, second l) (row_of v) (first k, b)))
      (λ a b other.
      ap (λ t. cond t (Some (row_of v)) (get (whole m) (a, b))) (sym (apart_then (P a (first k)) (Q b (second l)) other))
      ∙ sym (get-insert total (whole m) (first k, second l) (row_of v) (a, b)))

  -- what the table under the first part has, where an empty one stands for none
  found_part : (found : Option (BTreeMap L V)) (before : BTreeMap L V) → MatchOption found (IsEmpty before) (λ inner. before ≡ inner)
      → (b : B) → get (part before) b ≡ option_and_then (λ inner. get (part inner) b) found
  found_part None before empty b =
      get-from_entries second_total (rows before) b ∙ ap (λ es. find Q b (map (entry_by second row_of) es)) empty
  found_part (Some inner) before same b = ap (λ table. get (part table) b) same

  pub put_under : (m n : BTreeMap K (BTreeMap L V)) (k : K) (l : L) (v : V)
      → IsOrdered (key_cmp P first) m → IsOrdered (key_cmp P first) n
      → PutsUnder (key_cmp P first) (key_cmp Q second) m n k l v
      → whole n ≡ insert (whole m) (first k, second l) (row_of v)
  put_under m n k l v ordered_m ordered_n puts =
      put_through m n k l v puts.before puts.after ordered_m ordered_n
      (found_part (inner_of (first k) m) puts.before puts.found) puts.puts puts.under

  -- a table of a first part in whose place stands one with the same entries
  same_part : (m n : BTreeMap K (BTreeMap L V)) (k : K) (old new : BTreeMap L V)
      → IsOrdered (key_cmp P first) m → IsOrdered (key_cmp P first) n
      → inner_of (first k) m ≡ Some old → new.entries ≡ old.entries
      → Updates (key_cmp P first) m n k (Some new) → whole n ≡ whole m
  same_part m n k old new ordered_m ordered_n found same updates =
      with_part m n k new (whole m) ordered_m ordered_n updates
      (λ b.
      get-from_entries second_total (rows new) b
      ∙ ap (λ es. find Q b (map (entry_by second row_of) es)) same
      ∙ sym (get-from_entries second_total (rows old) b)
      ∙ ap (option_and_then (λ inner. get (part inner) b)) (sym found)
      ∙ sym (get-two_levels m ordered_m (first k) b))
      (λ a b other. refl)

  pub kept_under : (m n : BTreeMap K (BTreeMap L V)) (k : K)
      → IsOrdered (key_cmp P first) m → IsOrdered (key_cmp P first) n
      → (n.entries ≡ m.entries) ⊎ KeepsUnder (key_cmp P first) m n k → whole n ≡ whole m
  kept_under m n k ordered_m ordered_n (inl same) = ap (λ es. from_entries (flat es)) same
  kept_under m n k ordered_m ordered_n (inr keeps) =
      same_part m n k keeps.before keeps.after ordered_m ordered_n keeps.found keeps.same keeps.under

  -- the rows that stand under a first part
  module _ (a : A) where
    abbrev is_under : (A × B) × R → Bool
    is_under e = eq_by_cmp P a e.0.0

    filter-under_same : (k : A) (es : List (L × V)) → eq_by_cmp P a k ≡ true → filter is_under (under k es) ≡ under k es
    filter-under_same k [] same = refl
    filter-under_same k (e ∷ es) same =
        λ i. cond (same i) (((k, second e.0), row_of e.1) ∷ filter-under_same k es same i) (filter-under_same k es same i)

    filter-under_other : (k : A) (es : List (L × V)) → eq_by_cmp P a k ≡ false → filter is_under (under k es) ≡ []
    filter-under_other k [] other = refl
    filter-under_other k (e ∷ es) other =
        λ i. cond (other i) (((k, second e.0), row_of e.1) ∷ filter-under_other k es other i) (filter-under_other k es other i)

    filter-flat_apart : (es : List (K × BTreeMap L V)) → IsApart a (keys_of es) → filter is_under (flat es) ≡ []
    filter-flat_apart [] apart = refl
    filter-flat_apart (e ∷ es) apart =
        filter-append is_under (under (first e.0) e.1.entries) (flat es)
        ∙ (λ i. filter-under_other (first e.0) e.1.entries apart.0 i ++ filter-flat_apart es apart.1 i)

    filter-flat : (es : List (K × BTreeMap L V)) → IsStrictlySortedBy (key_cmp P first) (keys_of es)
        → filter is_under (flat es) ≡ rows_in second row_of a (lookup (is_at (λ k. P a (first k))) es)
    unfolding IsStrictlySortedBy
    filter-flat [] sorted = refl
    filter-flat (e ∷ es) sorted =
        filter-append is_under (under (first e.0) e.1.entries) (flat es)
        ∙ elim (eq_by_cmp P a (first e.0)) as (λ t. eq_by_cmp P a (first e.0) ≡ t
        → filter is_under (under (first e.0) e.1.entries) ++ filter is_under (flat es)
        ≡ rows_in second row_of a (cond t (Some e.1) (lookup (is_at (λ k. P a (first k))) es))) [
          | true ↦ λ same.
              (λ i. filter-under_same (first e.0) e.1.entries same i
              ++ filter-flat_apart es (apart_past a e.0 (keys_of es) (tied _ same) sorted.0) i)
              ∙ append-nil (under (first e.0) e.1.entries)
              ∙ ap (λ k. under k e.1.entries) (sym (first_only a (first e.0) (tied _ same)))
          | false ↦ λ other.
              (λ i. filter-under_other (first e.0) e.1.entries other i ++ filter-flat es sorted.1 i)
        ] refl

    -- the rows under a first part are those of its table, in their order
    pub filter-two_levels : (m : BTreeMap K (BTreeMap L V)) → AreOrdered (key_cmp P first) (key_cmp Q second) m
        → filter is_under (entries (whole m)) ≡ rows_in second row_of a (inner_of a m)
    filter-two_levels m ordered = ap (filter is_under) (entries-two_levels m ordered) ∙ filter-flat m.entries ordered.outer

  -- the entry stands under the first part, and passes
  module _ (passes : B × R → Bool) (a : A) where
    abbrev test : (A × B) × R → Bool
    test e = eq_by_cmp P a e.0.0 && passes (e.0.1, e.1)

    abbrev bit : (A × B) × R → ℕ
    bit e = cond (test e) 1 0

    abbrev passed : BTreeMap L V → ℕ
    passed inner = count_by (λ e. passes (entry_by second row_of e)) inner.entries

    count-under_same : (k : A) (es : List (L × V)) → eq_by_cmp P a k ≡ true
        → count_by test (under k es) ≡ count_by (λ e. passes (entry_by second row_of e)) es
    count-under_same k [] same = refl
    count-under_same k (e ∷ es) same =
        sum_by-cons bit ((k, second e.0), row_of e.1) (under k es)
        ∙ (λ i. cond (same i && passes (second e.0, row_of e.1)) 1 0 + count-under_same k es same i)
        ∙ sym (sum_by-cons (λ x. cond (passes (entry_by second row_of x)) 1 0) e es)

    count-under_other : (k : A) (es : List (L × V)) → eq_by_cmp P a k ≡ false → count_by test (under k es) ≡ 0
    count-under_other k [] other = refl
    count-under_other k (e ∷ es) other =
        sum_by-cons bit ((k, second e.0), row_of e.1) (under k es)
        ∙ (λ i. cond (other i && passes (second e.0, row_of e.1)) 1 0 + count-under_other k es other i)

    count-flat_apart : (es : List (K × BTreeMap L V)) → IsApart a (keys_of es) → count_by test (flat es) ≡ 0
    count-flat_apart [] apart = refl
    count-flat_apart (e ∷ es) apart =
        sum_by-append bit (under (first e.0) e.1.entries) (flat es)
        ∙ (λ i. count-under_other (first e.0) e.1.entries apart.0 i + count-flat_apart es apart.1 i)

    count-flat : (es : List (K × BTreeMap L V)) → IsStrictlySortedBy (key_cmp P first) (keys_of es)
        → count_by test (flat es) ≡ unwrap_or (option_map passed (lookup (is_at (λ k. P a (first k))) es)) 0
    unfolding IsStrictlySortedBy
    count-flat [] sorted = refl
    count-flat (e ∷ es) sorted =
        sum_by-append bit (under (first e.0) e.1.entries) (flat es)
        ∙ elim (eq_by_cmp P a (first e.0)) as (λ t. eq_by_cmp P a (first e.0) ≡ t
        → count_by test (under (first e.0) e.1.entries) + count_by test (flat es)
        ≡ unwrap_or (option_map passed (cond t (Some e.1) (lookup (is_at (λ k. P a (first k))) es))) 0) [
          | true ↦ λ same.
              let here : count_by test (under (first e.0) e.1.entries) ≡ passed e.1 = count-under_same (first e.0) e.1.entries same in
              let rest : count_by test (flat es) ≡ 0 = count-flat_apart es (apart_past a e.0 (keys_of es) (tied _ same) sorted.0) in
              omega arith
          | false ↦ λ other.
              let here : count_by test (under (first e.0) e.1.entries) ≡ 0 = count-under_other (first e.0) e.1.entries other in
              let rest : count_by test (flat es) ≡ unwrap_or (option_map passed (lookup (is_at (λ k. P a (first k))) es)) 0 = count-flat es sorted.1 in
              omega arith
        ] refl

    -- how many rows under a first part pass is the count in its table
    pub count-two_levels : (m : BTreeMap K (BTreeMap L V)) → AreOrdered (key_cmp P first) (key_cmp Q second) m
        → count_by test (entries (whole m)) ≡ unwrap_or (option_map passed (inner_of a m)) 0
    count-two_levels m ordered = ap (count_by test) (entries-two_levels m ordered) ∙ count-flat m.entries ordered.outer
