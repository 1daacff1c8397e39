-- A table in memory and the finite map that it makes, for keys of any kind and rows of any kind.
use Rattle.std.proofs.Common.{◌≡◌, Bool, true, false, cond, List, [], ◌∷◌, map, length, Option, Some, None, option_map, is_some, refl, sym, ap, ◌∙◌, subst}
use Rattle.std.specs.declared.cmp.Ordering.{Ordering}
use Rattle.std.specs.declared.cmp.Ordering.TheVariants.{Less, Equal, Greater}
use Rattle.std.specs.Prelude.{◌&&◌}
use Rattle.std.proofs.lemmas.List.{length-map}
use lib.Dec.{T}
use denote.Bor.{Bor}
use Rattle.std.specs.Option.{option_copied}
use Rattle.std.specs.Ordering.{is_eq, is_lt, eq_by_cmp}
use Rattle.std.specs.Cmp.{IsTotalOrder, eq_by_cmp_equiv}
use Rattle.std.specs.FinMap.{IsAntisymmetric, get, len, entries, insert, from_entries, from_sorted, find, is_sorted, get-from_entries, get-from_sorted, entries-from_sorted, get-insert, same_map, len-entries}
use Rattle.std.specs.FinMap.Entries.{below_all}
use Rattle.std.specs.Map.{lookup, keys_of, KeepsOthers}
use Rattle.std.specs.List.Sorted.{IsStrictlySortedBy}
use Rattle.std.specs.List.{AllByRecursion}
use Rattle.std.specs.BTreeMap.{BTreeMap, IsOrdered, Updates, is_at, get_by, btree_map_len}
use Rattle.gr_core.specs.InMemory.Table.{entry_by, table_of}
use Rattle.gr_core.proofs.Collections.PresenceLemmas.{is_some-mapped}

-- the order of keys in memory
abbrev pub key_cmp : {K J : Type 0} → (J → J → Ordering) → (K → J) → K → K → Ordering
key_cmp cmp key_of a b = cmp (key_of a) (key_of b)

pub both : (a b : Bool) → T a → T b → T (a && b)
both true b p q = q
both false b p q = absurd p

pub former : (a b : Bool) → T (a && b) → T a
former true b p = tt
former false b p = p

pub latter : (a b : Bool) → T (a && b) → T b
latter true b p = p
latter false b p = absurd p

pub tied : (r : Ordering) → is_eq r ≡ true → r ≡ Equal
tied Less e = absurd (let never : false ≡ true = e in cc)
tied Equal e = refl
tied Greater e = absurd (let never : false ≡ true = e in cc)

pub less : (r : Ordering) → T (is_lt r) → r ≡ Less
less Less p = refl
less Equal p = absurd p
less Greater p = absurd p

-- a list in order is the entries of the map that it makes
pub entries-from_entries : {J R : Type 0} {cmp : J → J → Ordering} → IsTotalOrder cmp → IsAntisymmetric cmp → (es : List (J × R)) → T (is_sorted cmp es)
    → entries (from_entries {R = cmp} es) ≡ es
entries-from_entries {cmp = cmp} total only es sorted =
    ap entries (same_map total only (from_entries es) (from_sorted es)
    (λ q. get-from_entries total es q ∙ sym (get-from_sorted cmp es q sorted)))
    ∙ entries-from_sorted cmp es sorted

-- the row of what a reference shows
pub option_map-copied : {V R : Type 0} (row_of : V → R) (found : Option (Bor V))
    → option_map (λ x. row_of x.now) found ≡ option_map row_of (option_copied found)
option_map-copied row_of None = refl
option_map-copied row_of (Some x) = refl

-- keys and rows in memory (K, V), and their values (J, R)
module _ {K V J R : Type 0} {cmp : J → J → Ordering} (total : IsTotalOrder cmp) (only : IsAntisymmetric cmp) (key_of : K → J) (row_of : V → R) where
  -- what memory has under a key
  abbrev pub look : J → BTreeMap K V → Option V
  look q m = get_by (λ k. cmp q (key_of k)) m

  find-entries : (q : J) (es : List (K × V)) → find cmp q (map (entry_by key_of row_of) es) ≡ option_map row_of (lookup (is_at (λ k. cmp q (key_of k))) es)
  find-entries q [] = refl
  find-entries q (e ∷ es) =
      let test = is_eq (cmp q (key_of e.0)) in
      let rest = lookup (is_at (λ k. cmp q (key_of k))) es in
      let others = find cmp q (map (entry_by key_of row_of) es) in
      elim test as (λ b. cond b (Some (row_of e.1)) others ≡ option_map row_of (cond b (Some e.1) rest)) [
        | true ↦ refl
        | false ↦ find-entries q es
      ]

  -- the map has under a key what memory has
  pub get-table_of : (m : BTreeMap K V) (q : J) → get (table_of cmp key_of row_of m) q ≡ option_map row_of (look q m)
  get-table_of m q = get-from_entries total (map (entry_by key_of row_of) m.entries) q ∙ find-entries q m.entries

  pub is_some-table_of : (m : BTreeMap K V) (q : J) → is_some (get (table_of cmp key_of row_of m) q) ≡ is_some (look q m)
  is_some-table_of m q = ap is_some (get-table_of m q) ∙ is_some-mapped row_of (look q m)

  below-entries : (k : K) (es : List (K × V)) → AllByRecursion (λ y. key_cmp cmp key_of k y ≡ Less) (keys_of es)
      → T (below_all cmp (key_of k) (map (entry_by key_of row_of) es))
  below-entries k [] h = tt
  below-entries k (e ∷ es) h = both _ _ (subst (λ o. T (is_lt o)) (sym h.0) tt) (below-entries k es h.1)

  pub sorted-entries : (es : List (K × V)) → IsStrictlySortedBy (key_cmp cmp key_of) (keys_of es) → T (is_sorted cmp (map (entry_by key_of row_of) es))
  unfolding IsStrictlySortedBy
  sorted-entries [] h = tt
  sorted-entries (e ∷ es) h = both _ _ (below-entries e.0 es h.0) (sorted-entries es h.1)

  -- the map has the entries of memory, in their order
  pub entries-table_of : (m : BTreeMap K V) → IsOrdered (key_cmp cmp key_of) m → entries (table_of cmp key_of row_of m) ≡ map (entry_by key_of row_of) m.entries
  entries-table_of m ordered = entries-from_entries total only (map (entry_by key_of row_of) m.entries) (sorted-entries m.entries ordered)

  pub len-table_of : (m : BTreeMap K V) → IsOrdered (key_cmp cmp key_of) m → len (table_of cmp key_of row_of m) ≡ btree_map_len m
  len-table_of m ordered = len-entries (table_of cmp key_of row_of m) ∙ ap length (entries-table_of m ordered) ∙ length-map m.entries (entry_by key_of row_of)

  -- a change at one key leaves what memory has under the others
  pub look-others : (m n : BTreeMap K V) (k : K) (v : Option V) → Updates (key_cmp cmp key_of) m n k v
      → (q : J) → eq_by_cmp cmp q (key_of k) ≡ false → look q n ≡ look q m
  unfolding KeepsOthers
  look-others m n k v updates q other =
      let ties = eq_by_cmp_equiv total in
      updates.3 (is_at (λ x. cmp q (key_of x))) (λ x y. ties.congr q (key_of x) (key_of y))
      (λ x at_k. ties.symm q (key_of x) ∙ sym (ties.congr (key_of k) (key_of x) q at_k) ∙ ties.symm (key_of k) q ∙ other)

  -- an entry more, or in the place of the one with its key, puts its row
  pub table_of-insert : (m n : BTreeMap K V) (k : K) (v : V) → Updates (key_cmp cmp key_of) m n k (Some v)
      → table_of cmp key_of row_of n ≡ insert (table_of cmp key_of row_of m) (key_of k) (row_of v)
  table_of-insert m n k v updates =
      let before = table_of cmp key_of row_of m in
      same_map total only _ _ (λ q.
      elim (eq_by_cmp cmp q (key_of k)) as (λ b. eq_by_cmp cmp q (key_of k) ≡ b
      → get (table_of cmp key_of row_of n) q ≡ cond b (Some (row_of v)) (get before q)) [
        | true ↦ λ same.
            get-table_of n q ∙ ap (option_map row_of) (ap (λ p. look p n) (only q (key_of k) (tied _ same)) ∙ updates.1)
        | false ↦ λ other.
            get-table_of n q ∙ ap (option_map row_of) (look-others m n k (Some v) updates q other) ∙ sym (get-table_of m q)
      ] refl ∙ sym (get-insert total before (key_of k) (row_of v) q))

-- both give the row of the first entry whose key ties
pub find-lookup : {J R : Type 0} (cmp : J → J → Ordering) (q : J) (es : List (J × R))
    → find cmp q es ≡ lookup (eq_by_cmp cmp q) es
find-lookup cmp q [] = refl
find-lookup cmp q (e ∷ es) = ap (cond (eq_by_cmp cmp q e.0) (Some e.1)) (find-lookup cmp q es)
