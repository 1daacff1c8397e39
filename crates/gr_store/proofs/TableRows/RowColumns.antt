-- Rows by their columns: which row has these values, and which rows are none of fields of these kinds.
use Rattle.std.proofs.Common.{◌≡◌, ◌≢◌, ℕ, zero, suc, ◌<◌, ℤ, List, [], ◌∷◌, map, length, Some, slice_get, IsTrue, IsUtf8, refl, sym, ap, ap₂, subst, ◌∙◌, true≢false, arith, All, get_or, IsPermutation}
use Rattle.std.specs.Prelude.{⊤}
use Rattle.std.proofs.lemmas.List.Elements.{All-map, All-get_or, All-weaker}
use Rattle.std.proofs.lemmas.List.Sorted.{All-permutation}
use Rattle.gr_core.specs.Columns.Fields.{Field, Number, Text}
use Rattle.sqlite_value.specs.declared.value.Value.{Value}
use Rattle.sqlite_value.specs.declared.value.Value.TheVariants as value
use Rattle.sqlite_value.specs.Order.{Row, column}
use Rattle.sqlite.specs.declared.error.ErrorCode.TheVariants.{OutOfMemory}
use Rattle.sqlite.specs.declared.error.Error.{Error}
use Rattle.sqlite.specs.declared.error.Error.TheVariants.{SqliteFailure}
use Rattle.gr_store.specs.Columns.{Kind, IsNumber, IsText, AreOfKinds}
use Rattle.gr_store.specs.Faults.{is_unreadable}
use Rattle.gr_store.specs.Rows.{value_of}

-- these values stand in the columns, from the first on
abbrev pub AreAt : Row → (ℕ → Value) → Type 0
AreAt [] at = ⊤
AreAt (v ∷ vs) at = (at 0 ≡ v) × AreAt vs (λ i. at (suc i))

pub row_is : (vs row : Row) → length row ≡ length vs → AreAt vs (column row) → vs ≡ row
row_is [] [] same at = refl
row_is [] (x ∷ row) same at = absurd (cc)
row_is (v ∷ vs) [] same at = absurd (cc)
row_is (v ∷ vs) (x ∷ row) same at =
    let rest : length row ≡ length vs = cc in
    ap₂ ◌∷◌ (sym at.0) (row_is vs row rest at.1)

-- the field at a place has the kind of that place
field_at : (kinds : List Kind) (kept : List Field) (at : ℕ) (kind : Kind) → AreOfKinds kinds kept → slice_get kinds at ≡ Some kind
    → (field : Field) × (at < length (map value_of kept)) × (column (map value_of kept) at ≡ value_of field) × AreOfKinds (kind ∷ []) (field ∷ [])
field_at [] kept at kind are found = absurd (cc)
field_at (IsNumber ∷ kinds) (Number n ∷ kept) zero kind are found = let is : IsNumber ≡ kind = cc in (
  Number n,
  omega
      arith,
  refl,
  subst (λ k. AreOfKinds (k ∷ []) (Number n ∷ [])) is tt,
)
field_at (IsText ∷ kinds) (Text t ∷ kept) zero kind are found = let is : IsText ≡ kind = cc in (
  Text t,
  omega arith,
  refl,
  subst (λ k. AreOfKinds (k ∷ []) (Text t ∷ [])) is (are.0, tt),
)
field_at (IsNumber ∷ kinds) (Number n ∷ kept) (suc at) kind are found = let it = field_at kinds kept at kind are
    found in (it.0, omega (arith, it.1), it.2, it.3)
field_at (IsText ∷ kinds) (Text t ∷ kept) (suc at) kind are found = let it = field_at kinds kept at kind are.1 found in (it.0, omega (arith, it.1), it.2, it.3)
field_at (IsNumber ∷ kinds) [] at kind are found = absurd are
field_at (IsText ∷ kinds) [] at kind are found = absurd are
field_at (IsNumber ∷ kinds) (Text t ∷ kept) at kind are found = absurd are
field_at (IsText ∷ kinds) (Number n ∷ kept) at kind are found = absurd are

no_memory : (e : Error) → IsTrue (is_unreadable e) → e ≢ SqliteFailure OutOfMemory
no_memory e bad is = true≢false (sym bad ∙ ap is_unreadable is)

-- A column that is no whole number is none of fields that have one there.
pub unread_number : (kinds : List Kind) (row : Row) (at : ℕ) (e : Error) → slice_get kinds at ≡ Some IsNumber
    → (e ≢ SqliteFailure OutOfMemory → at < length row → ¬ ((n : ℤ) × (column row at ≡ value.Int n)))
    → IsTrue (is_unreadable e) → (kept : List Field) → AreOfKinds kinds kept → map value_of kept ≢ row
unread_number kinds row at e found none bad kept are same =
    let it = field_at kinds kept at IsNumber are found in
    go it.0 it.3 (ap (λ r. column r at) (sym same) ∙ it.2) (subst (λ r. at < length r) same it.1)
  where
    go : (field : Field) → AreOfKinds (IsNumber ∷ []) (field ∷ []) → column row at ≡ value_of field → at < length row → ⊥
    go (Number n) is e within = none (no_memory _ bad) within (n, e)
    go (Text t) is e within = is

-- A column that is no text is none of fields that have one there.
pub unread_text : (kinds : List Kind) (row : Row) (at : ℕ) (e : Error) → slice_get kinds at ≡ Some IsText
    → (e ≢ SqliteFailure OutOfMemory → at < length row → ¬ ((t : List ℕ) × (column row at ≡ value.Text t) × IsUtf8 t))
    → IsTrue (is_unreadable e) → (kept : List Field) → AreOfKinds kinds kept → map value_of kept ≢ row
unread_text kinds row at e found none bad kept are same =
    let it = field_at kinds kept at IsText are found in
    go it.0 it.3 (ap (λ r. column r at) (sym same) ∙ it.2) (subst (λ r. at < length r) same it.1)
  where
    go : (field : Field) → AreOfKinds (IsText ∷ []) (field ∷ []) → column row at ≡ value_of field → at < length row → ⊥
    go (Text t) is e within = none (no_memory _ bad) within (t, e, is.0)
    go (Number n) is e within = is

-- rows of these kinds, in any order, have no row that is none of them
pub unread_rows : (kinds : List Kind) (rows : List Row) (at : ℕ) (row : Row) → at < length rows → row ≡ get_or rows at row
    → ((kept : List Field) → AreOfKinds kinds kept → map value_of kept ≢ row)
    → (kept : List (List Field)) → All (AreOfKinds kinds) kept → ¬ (IsPermutation (map (map value_of) kept) rows)
unread_rows kinds rows at row within is none kept are same =
    let Readable : Row → Type 0 = λ r. (k : List Field) × AreOfKinds kinds k × (map value_of k ≡ r) in
    let each : All Readable (map (map value_of) kept) = All-map Readable (map value_of) kept (All-weaker (AreOfKinds
    kinds) (λ k. Readable (map value_of k)) (λ k of. (k, of, refl)) kept are) in
    let it = All-get_or Readable rows at row within (All-permutation Readable (map (map value_of) kept) rows same each) in
    none it.0 it.1 (it.2 ∙ sym is)
