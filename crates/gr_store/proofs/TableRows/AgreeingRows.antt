-- Two rows agree at some places, as SQL compares them, exactly if they have the same fields there.
use Rattle.std.proofs.Common.{◌≡◌, ℕ, List, [], ◌∷◌, map, Bool, true, false, refl, sym, ap}
use Rattle.std.proofs.Common.{ap₂, ◌∙◌, Some, arith, Equal, is_eq}
use Rattle.std.proofs.lemmas.Bool.{and_parts, and_from}
use Rattle.std.specs.FinMap.{int_cmp-IsAntisymmetric, nat_cmp-IsAntisymmetric, slice_cmp-IsAntisymmetric}
use Rattle.std.proofs.lemmas.Cmp.{tied_itself}
use Rattle.sqlite_value.specs.declared.value.Value.TheVariants as value
use Rattle.sqlite_value.specs.declared.keys.Collation.TheVariants.{Binary}
use Rattle.sqlite_value.specs.Order.{Row, column, value_cmp}
use Rattle.sqlite_value.specs.Keys.{plain, first_key}
use Rattle.sqlite_value.proofs.OrderLemmas.{value_cmp_total, value_cmp-Int, value_cmp-Text, value_cmp-apart}
use Rattle.sqlite_sql.specs.Ops.{binary, is_true, from_truth}
use Rattle.sqlite_schema.specs.Rules.{equal, agree}
use Rattle.gr_core.specs.Columns.Fields.{Field, Number, Text}
use Rattle.gr_store.specs.Rows.{value_of}
use Rattle.gr_store.proofs.TableRows.ReplacedRows.{equal_is}

test_of : (b : Bool) → is_true (from_truth (Some b)) ≡ b
test_of true = refl
test_of false = refl

-- fields are never NULL, so they are compared by their order
pub equal_fields : (f g : Field) → equal Binary (value_of f) (value_of g) ≡ is_eq (value_cmp (value_of f) (value_of g))
unfolding binary
equal_fields (Number m) (Number n) = test_of _
equal_fields (Number m) (Text t) = test_of _
equal_fields (Text s) (Number n) = test_of _
equal_fields (Text s) (Text t) = test_of _

-- only fields that are the same tie
tied_fields : (f g : Field) → value_cmp (value_of f) (value_of g) ≡ Equal → value_of f ≡ value_of g
tied_fields (Number m) (Number n) h = ap value.Int (int_cmp-IsAntisymmetric m n (sym (value_cmp-Int m n) ∙ h))
tied_fields (Number m) (Text t) h =
    absurd (let less = value_cmp-apart (value.Int m) (value.Text t) (λ e. omega (arith, e)) in cc)
tied_fields (Text s) (Number n) h =
    absurd (let more = value_cmp-apart (value.Text s) (value.Int n) (λ e. omega (arith, e)) in cc)
tied_fields (Text s) (Text t) h =
    ap value.Text (slice_cmp-IsAntisymmetric nat_cmp-IsAntisymmetric s t (sym (value_cmp-Text s t) ∙ h))

-- rows that agree have the same fields
pub fields_agree : (places : List ℕ) (fs gs : List Field) (a b : Row) → map (column a) places ≡ map value_of fs
    → map (column b) places ≡ map value_of gs → agree plain places a places b ≡ true → map value_of fs ≡ map value_of gs
unfolding first_key
fields_agree [] [] [] a b ours theirs h = refl
fields_agree [] [] (g ∷ gs) a b ours theirs h = absurd (cc)
fields_agree [] (f ∷ fs) gs a b ours theirs h = absurd (cc)
fields_agree (p ∷ places) [] gs a b ours theirs h = absurd (cc)
fields_agree (p ∷ places) (f ∷ fs) [] a b ours theirs h = absurd (cc)
fields_agree (p ∷ places) (f ∷ fs) (g ∷ gs) a b ours theirs h =
    let parts = and_parts (equal Binary (column a p) (column b p)) (agree plain places a places b) h in
    let one : column a p ≡ value_of f = cc in
    let two : column b p ≡ value_of g = cc in
    let tie : is_eq (value_cmp (value_of f) (value_of g)) ≡ true
    = sym (equal_fields f g) ∙ ap₂ (equal Binary) (sym one) (sym two) ∙ parts.0 in
    let more : map (column a) places ≡ map value_of fs = cc in
    let also : map (column b) places ≡ map value_of gs = cc in
    ap₂ ◌∷◌ (tied_fields f g (equal_is _ tie)) (fields_agree places fs gs a b more also parts.1)

-- and rows with the same fields agree
pub agree_fields : (places : List ℕ) (fs : List Field) (a b : Row) → map (column a) places ≡ map value_of fs
    → map (column b) places ≡ map value_of fs → agree plain places a places b ≡ true
unfolding first_key
agree_fields [] fs a b ours theirs = refl
agree_fields (p ∷ places) [] a b ours theirs = absurd (cc)
agree_fields (p ∷ places) (f ∷ fs) a b ours theirs =
    let one : column a p ≡ value_of f = cc in
    let two : column b p ≡ value_of f = cc in
    let more : map (column a) places ≡ map value_of fs = cc in
    let also : map (column b) places ≡ map value_of fs = cc in
    and_from _ _ (ap₂ (equal Binary) one two ∙ equal_fields f f ∙ ap is_eq (tied_itself value_cmp_total (value_of f)))
    (agree_fields places fs a b more also)
