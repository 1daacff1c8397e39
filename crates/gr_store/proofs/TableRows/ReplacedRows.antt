-- A tree into which a row is put, once the rows with its key are taken out.
use Rattle.std.proofs.Common.{◌≡◌, ℤ, List, [], ◌∷◌, Bool, true, false, not, ◌&&◌, IsTrue, refl, sym, ap, subst, ◌∙◌, inl, inr, Ordering, Less, Equal, Greater, true≢false}
use Rattle.std.specs.Ordering.{is_eq}
use Rattle.std.specs.FinMap.{int_cmp-IsAntisymmetric}
use Rattle.std.proofs.lemmas.Cmp.{tied_itself}
use Rattle.gr_core.specs.Columns.Fields.{Field}
use Rattle.sqlite_value.specs.declared.value.Value.TheVariants.{Int}
use Rattle.sqlite_value.specs.Order.{Row, value_cmp}
use Rattle.sqlite_value.proofs.OrderLemmas.{value_cmp_total, value_cmp-Int}
use Rattle.sqlite_trees.specs.declared.store.Shape.TheVariants as shape
use Rattle.sqlite_trees.specs.Tree.{rowid, has_rowid, put_row, without_rowid}
use Rattle.sqlite_trees.specs.View.{is_int, IsShaped}
use Rattle.sqlite_trees.proofs.TreeLemmas.{not_true, IsShaped-filter, IsShaped-put_row}
use Rattle.sqlite_schema.specs.declared.schema.Table.{Table}
use Rattle.sqlite_rules.specs.Lists.{Has}
use Rattle.sqlite_rules.specs.Edit.{id_in, is_taken, without_all}
use Rattle.sqlite_rules.proofs.ListLemmas.{all_has, has_filtered, has_kept}
use Rattle.sqlite_rules.proofs.TableLemmas.{int_is, has_put, put_has, put_all_keeps, without_all_has}
use Rattle.sqlite_rules.proofs.PlaceLemmas.{tied_same}
use Rattle.gr_store.specs.Rows.{HasFields}
use Rattle.gr_store.specs.Puts.{have_one_key, Replaces}

pub equal_is : (o : Ordering) → is_eq o ≡ true → o ≡ Equal
equal_is Less h = absurd (cc)
equal_is Equal h = refl
equal_is Greater h = absurd (cc)

-- the rowids of the rows that are left are whole numbers that rise
shaped_left : (rows : List Row) (ids : List ℤ) → IsShaped shape.Table rows
    → IsShaped shape.Table (without_all rows ids)
shaped_left rows [] h = h
shaped_left rows (i ∷ ids) h =
    shaped_left (without_rowid i rows) ids (IsShaped-filter shape.Table (λ r. not (has_rowid i r)) rows h)

-- a row whose rowid is taken out is gone
pub removed : (rows : List Row) (ids : List ℤ) (x : Row) (id : ℤ) → Has ids id → rowid x ≡ Int id
    → Has (without_all rows ids) x → ⊥
removed rows [] x id h e there = h
removed rows (i ∷ ids) x id (inl same) e there =
    let was = has_filtered (λ r. not (has_rowid i r)) rows x (without_all_has ids (without_rowid i rows) x there) in
    let left : not (has_rowid i x) ≡ true = was.1 in
    let tie : value_cmp (rowid x) (Int i) ≡ Equal
    = ap (λ v. value_cmp v (Int i)) (e ∙ ap Int same) ∙ tied_itself value_cmp_total (Int i) in
    true≢false (sym left ∙ ap (λ o. not (is_eq o)) tie)
removed rows (i ∷ ids) x id (inr later) e there = removed (without_rowid i rows) ids x id later e there

-- a row whose rowid is not taken out stays
pub spared : (rows : List Row) (ids : List ℤ) (x : Row) → Has rows x
    → ((id : ℤ) → Has ids id → rowid x ≡ Int id → ⊥) → IsTrue (is_int (rowid x)) → Has (without_all rows ids) x
spared rows [] x h none keyed = h
spared rows (i ∷ ids) x h none keyed =
    let kept = has_kept (λ r. not (has_rowid i r)) rows x h (go (is_eq (value_cmp (rowid x) (Int i))) refl) in
    spared (without_rowid i rows) ids x kept (λ id later. none id (inr later)) keyed
  where
    go : (b : Bool) → is_eq (value_cmp (rowid x) (Int i)) ≡ b → not (is_eq (value_cmp (rowid x) (Int i))) ≡ true
    go false e = ap not e
    go true e =
        let is = int_is (rowid x) keyed in
        let tie : value_cmp (Int (id_in (rowid x))) (Int i) ≡ Equal
        = ap (λ v. value_cmp v (Int i)) (sym is) ∙ equal_is _ e in
        let same = int_cmp-IsAntisymmetric (id_in (rowid x)) i (sym (value_cmp-Int (id_in (rowid x)) i) ∙ tie) in
        absurd (none i (inl refl) (is ∙ ap Int same))

-- rows of a tree that have one rowid are one
pub one_row : (rows : List Row) (a b : Row) → IsShaped shape.Table rows → Has rows a → Has rows b
    → id_in (rowid a) ≡ id_in (rowid b) → a ≡ b
one_row rows a b shaped first second same =
    let int : (row : Row) → Has rows row → rowid row ≡ Int (id_in (rowid row))
    = λ row there. int_is (rowid row) (all_has _ rows row shaped.1 there) in
    let tie : rowid a ≡ rowid b = int a first ∙ ap Int same ∙ sym (int b second) in
    tied_same rows a b shaped.0 first second
    (ap (λ v. value_cmp v (rowid b)) tie ∙ tied_itself value_cmp_total (rowid b))

-- the rows with these rowids are those that have the key of a new row, and its own rowid is free beside the others
pub record MakesRoom (table : Table) (rows : List Row) (new : Row) (ids : List ℤ) : Type 0 where
  pub only : (row : Row) → Has rows row → Has ids (id_in (rowid row)) → have_one_key table row new ≡ true
  pub all : (row : Row) → Has rows row → have_one_key table row new ≡ true → Has ids (id_in (rowid row))
  pub free : is_taken (without_all rows ids) new ≡ false

-- the row replaces them
pub replaced : (table : Table) (fields : List Field) (rows : List Row) (new : Row) (ids : List ℤ)
    → IsShaped shape.Table rows → IsTrue (is_int (rowid new)) → HasFields table new fields
    → MakesRoom table rows new ids → Replaces table fields rows (put_row new (without_all rows ids))
replaced table fields rows new ids shaped number has room = record {
  row = new;
  has = has;
  there = has_put new left;
  stays = λ other was apart. put_all_keeps (new ∷ []) left other (ap (λ b. not b && true) room.free)
      (spared rows ids other was (λ id among e. true≢false (sym (room.only other was
      (subst (Has ids) (ap id_in (sym e)) among)) ∙ apart)) (keyed other was));
  known = λ other there. elim (put_has new left other there) [
    | inl e ↦ inl e
    | inr kept ↦ inr (
      without_all_has ids rows other kept,
      not_true _ (λ same. removed rows ids other (id_in (rowid other)) (room.all other (was other kept) same)
          (int_is (rowid other) (keyed other (was other kept))) kept),
    )
  ];
  shaped = IsShaped-put_row new left number (shaped_left rows ids shaped);
}
  where
    left : List Row
    left = without_all rows ids

    was : (row : Row) → Has left row → Has rows row
    was row kept = without_all_has ids rows row kept

    keyed : (row : Row) → Has rows row → IsTrue (is_int (rowid row))
    keyed row there = all_has _ rows row shaped.1 there
