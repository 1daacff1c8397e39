-- Fields are read back from their values, so rows with the same values in another order have the same fields.
use Rattle.std.proofs.Common.{◌≡◌, List, [], ◌∷◌, map, pos, refl, ap₂}
use Rattle.std.proofs.Common.{subst₂}
use Rattle.std.proofs.Common.{IsPermutation}
use Rattle.std.specs.List.{AllByRecursion}
use Rattle.std.proofs.lemmas.List.Sorted.{IsPermutation-map}
use Rattle.sqlite_value.specs.declared.value.Value.{Value}
use Rattle.sqlite_value.specs.declared.value.Value.TheVariants as value
use Rattle.gr_core.specs.Columns.Fields.{Field, Number, Text}
use Rattle.gr_store.specs.Rows.{value_of}

-- the field with this value; what no field has is read as 0
abbrev pub field_of : Value → Field
field_of value.Null = Number (pos 0)
field_of (value.Int n) = Number n
field_of (value.Real x) = Number (pos 0)
field_of (value.Text t) = Text t
field_of (value.Blob b) = Number (pos 0)

-- the fields whose values these are
abbrev pub fields_in : List Value → List Field
fields_in values = map field_of values

-- fields are read back from their values
field_back : (field : Field) → field_of (value_of field) ≡ field
field_back (Number n) = refl
field_back (Text t) = refl

pub fields_back : (fields : List Field) → fields_in (map value_of fields) ≡ fields
fields_back [] = refl
fields_back (field ∷ fields) = ap₂ ◌∷◌ (field_back field) (fields_back fields)

pub rows_back : (rows : List (List Field)) → map fields_in (map (map value_of) rows) ≡ rows
rows_back [] = refl
rows_back (fields ∷ rows) = ap₂ ◌∷◌ (fields_back fields) (rows_back rows)

-- the values are those of some fields
abbrev pub HasValues : List Value → Type 0
HasValues values = values ≡ map value_of (fields_in values)

-- the values of fields are those of the fields read back
pub values_back : (rows : List (List Value)) → AllByRecursion HasValues rows
    → rows ≡ map (map value_of) (map fields_in rows)
values_back [] all = refl
values_back (values ∷ rows) all = ap₂ ◌∷◌ all.0 (values_back rows all.1)

-- rows whose values come in another order do so too
pub same_fields : (rows others : List (List Field))
    → IsPermutation (map (map value_of) rows) (map (map value_of) others) → IsPermutation rows others
same_fields rows others same =
    subst₂ IsPermutation (rows_back rows) (rows_back others) (IsPermutation-map fields_in _ _ same)
