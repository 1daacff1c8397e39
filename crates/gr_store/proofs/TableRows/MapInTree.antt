-- A tree that holds a map holds it with one entry put, once the row of that entry is put into the tree.
use Rattle.std.proofs.Common.{◌≡◌, List, map, Bool, true, false, Some, refl, sym, ap, subst, ◌∙◌, inl, inr, Ordering, true≢false, cond}
use Rattle.std.specs.Cmp.{IsTotalOrder}
use Rattle.std.specs.Ordering.{is_eq}
use Rattle.std.specs.FinMap.{FinMap, get, insert, get-insert, IsAntisymmetric}
use Rattle.std.proofs.lemmas.Cmp.{tied_itself}
use Rattle.sqlite_value.specs.Order.{Row, column}
use Rattle.sqlite_trees.proofs.TreeLemmas.{not_true}
use Rattle.sqlite_schema.specs.declared.schema.Table.{Table}
use Rattle.sqlite_rules.specs.Lists.{Has}
use Rattle.gr_core.specs.Columns.Fields.{Field}
use Rattle.gr_store.specs.Rows.{value_of, columns_of, HasFields}
use Rattle.gr_store.specs.Puts.{have_one_key, IsInOrder, Replaces}
use Rattle.gr_store.proofs.TableRows.StateInTrees.{HoldsMap}
use Rattle.gr_store.proofs.TableRows.ReplacedRows.{equal_is}
use Rattle.gr_store.proofs.TableRows.AgreeingRows.{fields_agree, agree_fields}
use Rattle.gr_store.proofs.TableRows.TableKeys.{HasKeyAt}

-- a tree that holds a map is in order
pub in_order : {K V : Type 0} {cmp : K → K → Ordering} (table : Table) (fields : K × V → List Field) (m : FinMap cmp V)
    (rows : List Row) → HoldsMap table fields m rows → IsInOrder table rows
in_order table fields m rows held = record {
  shaped = (held.ordered, held.numbered);
  known = λ row there. let it = held.known row there in (fields (it.0, it.1), it.3);
}

module _ {K V : Type 0} {cmp : K → K → Ordering} (total : IsTotalOrder cmp) (same : IsAntisymmetric cmp) (table : Table)
    (fields : K × V → List Field) (key_fields : K → List Field) (keyed : HasKeyAt table fields key_fields)
    (m : FinMap cmp V) (key : K) (value : V) (old new : List Row) where
  pub holds_put : HoldsMap table fields m old → (IsInOrder table old → Replaces table (fields (key, value)) old new)
      → HoldsMap table fields (insert m key value) new
  holds_put held replaces = record {
    ordered = put.shaped.0;
    numbered = put.shaped.1;
    known = λ row there. elim (put.known row there) [
      | inl e ↦ (key, value, got_key, ap (columns_of table) e ∙ put.has)
      | inr kept ↦ known_of row kept.0 kept.1
    ];
    whole = λ other later got. whole_at other later got (is_eq (cmp other key)) refl;
    once = λ a b one two e. elim (put.known a one) [
      | inl first ↦ elim (put.known b two) [
        | inl second ↦ first ∙ sym second
        | inr second ↦ absurd (differs b second (sym e ∙ ap (columns_of table) first))
      ]
      | inr first ↦ elim (put.known b two) [
        | inl second ↦ absurd (differs a first (e ∙ ap (columns_of table) second))
        | inr second ↦ held.once a b first.0 second.0 e
      ]
    ];
  }
    where
      put : Replaces table (fields (key, value)) old new
      put = replaces (in_order table fields m old held)

      stand : map (column put.row) table.primary ≡ map value_of (key_fields key)
      stand = keyed.stand put.row key value put.has

      -- a row has the key of the new one exactly if it is that of the entry
      alike : (row : Row) (later : V) → HasFields table row (fields (key, later)) → have_one_key table row put.row ≡ true
      alike row later f = agree_fields table.primary (key_fields key) row put.row (keyed.stand row key later f) stand

      known_key : (row : Row) (other : K) (later : V) → HasFields table row (fields (other, later))
          → have_one_key table row put.row ≡ true → other ≡ key
      known_key row other later f h = keyed.tell other key (fields_agree table.primary (key_fields other)
          (key_fields key) row put.row (keyed.stand row other later f) stand h)

      ties : (other : K) → other ≡ key → is_eq (cmp other key) ≡ true
      ties other e = ap (λ k. is_eq (cmp k key)) e ∙ ap is_eq (tied_itself total key)

      got_key : get (insert m key value) key ≡ Some value
      got_key = get-insert total m key value key ∙ ap (λ b. cond b (Some value) (get m key)) (ties key refl)

      got_other : (other : K) → is_eq (cmp other key) ≡ false → get (insert m key value) other ≡ get m other
      got_other other e = get-insert total m key value other ∙ ap (λ b. cond b (Some value) (get m other)) e

      differs : (row : Row) → Has old row × (have_one_key table row put.row ≡ false)
          → columns_of table row ≡ columns_of table put.row → ⊥
      differs row kept e = true≢false (sym (alike row value (e ∙ put.has)) ∙ kept.1)

      known_of : (row : Row) → Has old row → have_one_key table row put.row ≡ false
          → (other : K) × (later : V) × (get (insert m key value) other ≡ Some later)
          × HasFields table row (fields (other, later))
      known_of row was apart =
          let it = held.known row was in
          let other : is_eq (cmp it.0 key) ≡ false
          = not_true _ (λ tie. true≢false (sym (alike row it.1 (subst (λ k. HasFields table row (fields (k, it.1)))
          (same it.0 key (equal_is _ tie)) it.3)) ∙ apart)) in
          (it.0, it.1, got_other it.0 other ∙ it.2, it.3)

      whole_at : (other : K) (later : V) → get (insert m key value) other ≡ Some later → (b : Bool)
          → is_eq (cmp other key) ≡ b → (row : Row) × Has new row × HasFields table row (fields (other, later))
      whole_at other later got true e =
          let tied = same other key (equal_is _ e) in
          let both : Some value ≡ Some later
          = sym got_key ∙ ap (get (insert m key value)) (sym tied) ∙ got in
          let values : value ≡ later = cc in (
            put.row,
            put.there,
            put.has ∙ ap (λ v. map value_of (fields (key, v))) values
                ∙ ap (λ k. map value_of (fields (k, later))) (sym tied),
          )
      whole_at other later got false e =
          let it = held.whole other later (sym (got_other other e) ∙ got) in
          let apart : have_one_key table it.0 put.row ≡ false
          = not_true _ (λ h. true≢false (sym (ties other (known_key it.0 other later it.2 h)) ∙ e)) in
          (it.0, put.stays it.0 it.1 apart, it.2)
