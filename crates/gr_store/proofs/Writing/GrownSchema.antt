-- A schema with one table more: the new table is its own, and so is each that was.
use Rattle.std.proofs.Common.{◌≡◌, ◌≢◌, ℕ, zero, suc, ◌+◌, ◌<◌, ◌^◌, ◌==◌, Bool, true, false, List, [], ◌∷◌, ◌++◌, length, map, filter, find, None, Some, slice_get, slice_index_or, refl, sym, ap, subst, ◌∙◌, inl, inr, arith, ne_eqb, eq-eqb, append-nil, ◌&&◌}
use Rattle.std.specs.List.{position_from}
use Rattle.std.proofs.lemmas.Bool.{cases_Bool}
use Rattle.std.proofs.lemmas.List.Folds.{find-append}
use Rattle.std.proofs.lemmas.List.Elements.{filter-append}
use Rattle.std.proofs.lemmas.List.{map-append}
use Rattle.sqlite_value.specs.declared.keys.Order.{Order}
use Rattle.sqlite_value.specs.Keys.{plain}
use Rattle.sqlite_value.specs.Order.{column}
use Rattle.sqlite_schema.specs.declared.schema.Index.{Index}
use Rattle.sqlite_schema.specs.declared.schema.Schema.{Schema}
use Rattle.sqlite_schema.specs.declared.schema.Table.{Table}
use Rattle.sqlite_schema.specs.Names.{same_name}
use Rattle.sqlite_schema.specs.Rules.{guards}
use Rattle.sqlite_rules.specs.Lists.{Has}
use Rattle.sqlite_rules.proofs.ListLemmas.{has_either, has_got}
use Rattle.sqlite_catalog.specs.Change.{created, next_tree, automatics, is_used}
use Rattle.sqlite_catalog.specs.Listing.{IsTableRow, IsIndexRow}
use Rattle.sqlite_catalog.proofs.LayoutLemmas.{zipped_left, index_owner}
use Rattle.sqlite_catalog.proofs.StepLemmas.{no_table, same_itself, table_below}
use Rattle.sqlite.specs.Effect.{Database, IsDatabase}
use Rattle.gr_store.specs.Tabled.{in_tree}
use Rattle.gr_store.specs.Own.{HasOwnTable}

-- ---- lists with one more at the end

module _ {X : Type 0} (p : X → Bool) where
  pub placed_front : (xs ys : List X) (from at : ℕ) → position_from p from xs ≡ Some at
      → position_from p from (xs ++ ys) ≡ Some at
  placed_front [] ys from at h = absurd (cc)
  placed_front (x ∷ xs) ys from at h = elim (cases_Bool (p x)) [
    | inl is ↦ rw is (rw is at h)
    | inr is ↦ rw is (placed_front xs ys (from + 1) at (rw is at h))
  ]

  placed_last : (xs : List X) (x : X) (from at : ℕ) → at ≡ from + length xs → position_from p from xs ≡ None → p x ≡ true
      → position_from p from (xs ++ x ∷ []) ≡ Some at
  placed_last [] x from at place none is = rw is (ap Some (let same : from ≡ at = omega (arith, place) in same))
  placed_last (y ∷ xs) x from at place none is = elim (cases_Bool (p y)) [
    | inl at_y ↦ absurd (let e = rw at_y at none in cc)
    | inr other ↦ rw other (placed_last xs x (from + 1) at (omega (arith, place)) (rw other at none) is)
  ]

  none_found : (xs : List X) → ((x : X) → Has xs x → p x ≡ false) → find p xs ≡ None
  none_found [] none = refl
  none_found (x ∷ xs) none = rw (none x (inl refl)) (none_found xs (λ y h. none y (inr h)))

  none_left : (xs : List X) → ((x : X) → Has xs x → p x ≡ false) → filter p xs ≡ []
  none_left [] none = refl
  none_left (x ∷ xs) none = rw (none x (inl refl)) (none_left xs (λ y h. none y (inr h)))

pub got_front : {X : Type 0} (xs ys : List X) (at : ℕ) (x : X) → slice_get xs at ≡ Some x → slice_get (xs ++ ys) at ≡ Some x
got_front [] ys at x h = absurd (cc)
got_front (y ∷ xs) ys zero x h = h
got_front (y ∷ xs) ys (suc at) x h = got_front xs ys at x h

pub got_last : {X : Type 0} (xs : List X) (x : X) → slice_get (xs ++ x ∷ []) (length xs) ≡ Some x
got_last [] x = refl
got_last (y ∷ xs) x = got_last xs x

-- ---- the indexes that a new table brings

-- they are those of no other table
none_of_others : (new other : Table) (keys : List (List ℕ)) (at tree : ℕ) → new.tree ≢ other.tree
    → filter (λ i. guards i other) (automatics new at tree keys) ≡ []
none_of_others new other [] at tree apart = refl
none_of_others new other (key ∷ keys) at tree apart =
    rw (ne_eqb new.tree other.tree apart) (none_of_others new other keys (at + 1) (tree + 1) apart)

-- and each of them is one of its own
keys_of_own : (new : Table) (keys : List (List ℕ)) (at tree : ℕ)
    → ((k : ℕ) → slice_index_or new.orders k plain ≡ plain)
    → map {B = List ℕ × Order} (λ i. (i.columns, i.order)) (filter (λ i. guards i new) (automatics new at tree keys))
    ≡ map {B = List ℕ × Order} (λ key. (key, plain)) keys
keys_of_own new [] at tree orders = refl
keys_of_own new (key ∷ keys) at tree orders =
    rw (eq-eqb new.tree new.tree refl, orders at) (ap (λ l. (key, plain) ∷ l) (keys_of_own new keys (at + 1) (tree + 1) orders))

-- ---- the schema

module _ (schema : Schema) (table : Table) where
  abbrev new : Table
  new = in_tree table (next_tree schema)

  -- a table that was its own is so still, in its tree
  pub still_own : (other : Table) (was : HasOwnTable schema other)
      → (now : HasOwnTable (created schema table) other) × (now.has.tree ≡ was.has.tree)
      × (was.has.tree < next_tree schema)
  still_own other was =
      let placed = in_tree other was.has.tree in
      let listed : Has schema.tables placed = has_got schema.tables was.has.at placed was.has.is in
      let below : was.has.tree < next_tree schema = table_below schema placed listed in (
        record {
          has = record {
            at = was.has.at;
            tree = was.has.tree;
            named = placed_front (λ t. same_name t.name other.name) schema.tables (new ∷ []) 0 was.has.at was.has.named;
            is = got_front schema.tables (new ∷ []) was.has.at placed was.has.is;
            first = find-append (λ t. t.tree == was.has.tree) schema.tables (new ∷ []) ∙ rw was.has.first refl;
            below = was.has.below;
          };
          apart = λ it among same. elim (has_either schema.tables (new ∷ []) it among) [
            | inl old ↦ was.apart it old same
            | inr last ↦ elim last [
              | inl is ↦ absurd (omega (arith, below, ap (λ (t : Table). t.tree) is, same))
              | inr none ↦ absurd none
            ]
          ];
          keys = ap (map (λ i. (i.columns, i.order)))
              (filter-append (λ i. guards i placed) schema.indexes (automatics new 0 (next_tree schema + 1) table.uniques)
              ∙ ap (λ l. filter (λ i. guards i placed) schema.indexes ++ l)
              (none_of_others new placed table.uniques 0 (next_tree schema + 1) (λ e. omega (arith, e, below))))
              ∙ map-append (λ i. (i.columns, i.order)) (filter (λ i. guards i placed) schema.indexes) []
              ∙ append-nil _ ∙ was.keys;
        },
        refl,
        below,
      )

  -- the new one is its own
  pub new_own : is_used schema table.name ≡ false → ((k : ℕ) → slice_index_or table.orders k plain ≡ plain)
      → ((i : Index) → Has schema.indexes i → i.table ≢ next_tree schema) → next_tree schema < 2 ^ 31
      → (own : HasOwnTable (created schema table) table) × (own.has.tree ≡ next_tree schema)
  new_own free orders indexes low =
      let others : (t : Table) → Has schema.tables t → t.tree < next_tree schema = table_below schema in (
        record {
          has = record {
            at = length schema.tables;
            tree = next_tree schema;
            named = placed_last (λ t. same_name t.name table.name) schema.tables new 0 (length schema.tables) (omega arith) (no_table schema table.name free)
                (same_itself table.name);
            is = got_last schema.tables new;
            first = find-append (λ t. t.tree == next_tree schema) schema.tables (new ∷ [])
                ∙ rw (
                  none_found (λ t. t.tree == next_tree schema) schema.tables (λ t h. ne_eqb t.tree (next_tree schema)
                      (λ e. omega (arith, e, others t h))),
                  eq-eqb (next_tree schema) (next_tree schema) refl,
                ) refl;
            below = low;
          };
          apart = λ it among same. elim (has_either schema.tables (new ∷ []) it among) [
            | inl old ↦ absurd (omega (arith, others it old, same))
            | inr last ↦ elim last [ inl is ↦ is | inr none ↦ absurd none ]
          ];
          keys = ap (map (λ i. (i.columns, i.order)))
              (filter-append (λ i. guards i new) schema.indexes (automatics new 0 (next_tree schema + 1) table.uniques)
              ∙ ap (λ l. l ++ filter (λ i. guards i new) (automatics new 0 (next_tree schema + 1) table.uniques))
              (none_left (λ i. guards i new) schema.indexes (λ i h. not_guarding i (indexes i h))))
              ∙ keys_of_own new table.uniques 0 (next_tree schema + 1) orders;
        },
        refl,
      )
    where
      not_guarding : (i : Index) → i.table ≢ next_tree schema → guards i new ≡ false
      not_guarding i apart = rw (ne_eqb i.table (next_tree schema) apart) (and_false i.is_unique)
        where
          and_false : (b : Bool) → b && false ≡ false
          and_false true = refl
          and_false false = refl

-- ---- what a database says of its schema

-- its indexes are those of tables that it has
pub index_of_table : (db : Database) → IsDatabase db → (i : Index) → Has db.schema.indexes i → i.table < next_tree db.schema
index_of_table db sound i h =
    let it = zipped_left (IsIndexRow db.schema.tables) _ db.schema.indexes i sound.lists.listed.indexes h in
    let owner = index_owner it.2.table i (column it.0 4) it.2.defined in
    subst (λ t. t < next_tree db.schema) (sym owner) (table_below db.schema it.2.table it.2.listed)

-- and its trees have low numbers
pub low_tree : (db : Database) → IsDatabase db → (t : Table) → Has db.schema.tables t → t.tree < 2 ^ 31
low_tree db sound t h =
    let it = zipped_left IsTableRow _ db.schema.tables t sound.lists.listed.tables h in
    omega (arith, it.2.described.low)
