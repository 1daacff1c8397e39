-- The fields of a form whose names were read.
use Rattle.std.proofs.Common.{◌≡◌, ◌≢◌, ℕ, ◌++◌, Bool, true, false, cond, List, [], ◌∷◌, map, Option, Some, None, Bor, refl, sym, ap, ◌∙◌, codes}
use Rattle.std.specs.Prelude.{filter, if◌then◌else◌}
use Rattle.std.specs.Str.{bytes_eq}
use Rattle.std.proofs.lemmas.List.{append_assoc, map-append}
use Rattle.std.proofs.lemmas.List.Elements.{filter-append}
use Rattle.std.proofs.lemmas.Slice.Eq.{bytes_eq-Decides}
use denote.Enum.Bare.{sameb, same_true, true_same, Bare}
use Rattle.gr_http.specs.contracts.field.Field.{the_type}
use Rattle.gr_http.specs.declared.field.Field.{Field}
use Rattle.gr_http.specs.declared.field.Field.TheVariants as field
use Rattle.gr_http.specs.Field.{field_name}
use Rattle.gr_http.specs.declared.form.SentField.{SentField}
use Rattle.gr_http.specs.SentField.{found_values, sent}
use Rattle.gr_http.specs.Form.{text_of, values_of, values_in}

-- ==== names

-- the field with a name, as one looks for it
abbrev named : List ℕ → Option Field
named name =
    if bytes_eq name (codes "author") then Some field.Author else
    if bytes_eq name (codes "choice") then Some field.Choice else
    if bytes_eq name (codes "days") then Some field.Days else
    if bytes_eq name (codes "login") then Some field.Login else
    if bytes_eq name (codes "minor") then Some field.Minor else
    if bytes_eq name (codes "name") then Some field.Name else
    if bytes_eq name (codes "place") then Some field.Place else
    if bytes_eq name (codes "ranks") then Some field.Ranks else
    if bytes_eq name (codes "ratio") then Some field.Ratio else
    if bytes_eq name (codes "status") then Some field.Status else
    if bytes_eq name (codes "summary") then Some field.Summary else
    if bytes_eq name (codes "text") then Some field.Text else
    if bytes_eq name (codes "token") then Some field.Token else
    None

named_again : (known : Field) → named (field_name known) ≡ Some known
named_again field.Author = refl
named_again field.Choice = refl
named_again field.Days = refl
named_again field.Login = refl
named_again field.Minor = refl
named_again field.Name = refl
named_again field.Place = refl
named_again field.Ranks = refl
named_again field.Ratio = refl
named_again field.Status = refl
named_again field.Summary = refl
named_again field.Text = refl
named_again field.Token = refl

-- no two fields have one name
one_name : (a b : Field) → field_name a ≡ field_name b → a ≡ b
one_name a b same = let both : Some a ≡ Some b = sym (named_again a) ∙ ap named same ∙ named_again b in cc

same_bool : (a b : Bool) → (a ≡ true → b ≡ true) → (b ≡ true → a ≡ true) → a ≡ b
same_bool true b to from = sym (to refl)
same_bool false true to from = from refl
same_bool false false to from = refl

-- the test for a field is that for its name
pub same_name : Bare the_type.parts → (a b : Field) → sameb the_type a b ≡ bytes_eq (field_name a) (field_name b)
same_name bare a b =
    let names = bytes_eq-Decides (field_name a) (field_name b) in
    same_bool (sameb the_type a b) (bytes_eq (field_name a) (field_name b))
    (λ same. names.1 (ap field_name (same_true the_type bare a b same)))
    (λ same. true_same the_type a b (one_name a b (names.0 same)))

-- ==== the fields of a form

not_true : (b : Bool) → ¬ (b ≡ true) → b ≡ false
not_true true never = absurd (never refl)
not_true false never = refl

one_more : (b : Bool) (known : Field) (name value : List ℕ) (left : List (List ℕ × List ℕ))
    → map (λ (entry : Field × List ℕ). text_of entry.1) (cond b ((known, value) ∷ []) []) ++ map (λ (pair : List ℕ × List ℕ). text_of pair.1) left
    ≡ map (λ (pair : List ℕ × List ℕ). text_of pair.1) (cond b ((name, value) ∷ left) left)
one_more true known name value left = refl
one_more false known name value left = refl

-- a field whose name was read is one of the form
pub field_read : (fields : List (Field × List ℕ)) (known : Field) (name value : List ℕ) (left : List (List ℕ × List ℕ))
    → text_of name ≡ field_name known → (which : Field)
    → values_in (fields ++ (known, value) ∷ []) which ++ values_of (field_name which) left
    ≡ values_in fields which ++ values_of (field_name which) ((name, value) ∷ left)
field_read fields known name value left same which =
    let is_it : Field × List ℕ → Bool = λ entry. bytes_eq (field_name entry.0) (field_name which) in
    let has_name : List ℕ × List ℕ → Bool = λ pair. bytes_eq (text_of pair.0) (field_name which) in
    let text : Field × List ℕ → List ℕ = λ entry. text_of entry.1 in
    let last = map text (filter is_it ((known, value) ∷ [])) in
    let later = values_of (field_name which) left in
    ap (λ found. map text found ++ later) (filter-append is_it fields ((known, value) ∷ []))
    ∙ ap (λ found. found ++ later) (map-append text (filter is_it fields) (filter is_it ((known, value) ∷ [])))
    ∙ append_assoc (values_in fields which) last later
    ∙ ap (λ found. values_in fields which ++ found)
    (one_more (bytes_eq (field_name known) (field_name which)) known name value (filter has_name left)
    ∙ ap (λ name_read. map (λ (pair : List ℕ × List ℕ). text_of pair.1)
    (cond (bytes_eq name_read (field_name which)) ((name, value) ∷ filter has_name left) (filter has_name left)))
    (sym same))

-- one that the desk does not know is none of its fields
pub field_passed : (name value : List ℕ) (left : List (List ℕ × List ℕ)) → ((known : Field) → text_of name ≢ field_name known)
    → (which : Field) → values_of (field_name which) left ≡ values_of (field_name which) ((name, value) ∷ left)
field_passed name value left unknown which =
    let has_name : List ℕ × List ℕ → Bool = λ pair. bytes_eq (text_of pair.0) (field_name which) in
    let other = not_true (bytes_eq (text_of name) (field_name which))
    (λ same. unknown which ((bytes_eq-Decides (text_of name) (field_name which)).0 same)) in
    ap (λ b. map (λ (pair : List ℕ × List ℕ). text_of pair.1) (cond b ((name, value) ∷ filter has_name left) (filter has_name left))) (sym other)

-- ==== the fields as they lie in memory

-- after a pair whose field the desk knows
pub one_read : (before after : List SentField) (known : Field) (name : List ℕ) (value : Bor (List ℕ)) (left rest : List (List ℕ × List ℕ))
    → after ≡ before ++ record { field = known; value = value } ∷ [] → text_of name ≡ field_name known → left ≡ (name, value.now) ∷ rest
    → (which : Field) (all : List (List ℕ)) → values_in (map sent before) which ++ values_of (field_name which) left ≡ all
    → values_in (map sent after) which ++ values_of (field_name which) rest ≡ all
one_read before after known name value left rest now same steps which all was =
    ap (λ fields. values_in (map sent fields) which ++ values_of (field_name which) rest) now
    ∙ ap (λ fields. values_in fields which ++ values_of (field_name which) rest) (map-append sent before (record { field = known; value = value } ∷ []))
    ∙ field_read (map sent before) known name value.now rest same which
    ∙ ap (λ pairs. values_in (map sent before) which ++ values_of (field_name which) pairs) (sym steps)
    ∙ was

-- after another pair
pub none_read : (before after : List SentField) (name value : List ℕ) (left rest : List (List ℕ × List ℕ))
    → after ≡ before → ((known : Field) → text_of name ≢ field_name known) → left ≡ (name, value) ∷ rest
    → (which : Field) (all : List (List ℕ)) → values_in (map sent before) which ++ values_of (field_name which) left ≡ all
    → values_in (map sent after) which ++ values_of (field_name which) rest ≡ all
none_read before after name value left rest now unknown steps which all was =
    ap (λ fields. values_in (map sent fields) which ++ values_of (field_name which) rest) now
    ∙ ap (λ found. values_in (map sent before) which ++ found) (field_passed name value rest unknown which)
    ∙ ap (λ pairs. values_in (map sent before) which ++ values_of (field_name which) pairs) (sym steps)
    ∙ was

-- ==== the value of a field

pub value_found : Bare the_type.parts → (it : SentField) (which : Field) (b : Bool) (found : Option (Bor (List ℕ)))
    → b ≡ sameb the_type it.field which → found ≡ (if b then Some it.value else None) → found_values found ≡ values_in (sent it ∷ []) which
value_found bare it which b found tested is =
    ap found_values is ∙ of_test b
    ∙ ap (λ b. map (λ (entry : Field × List ℕ). text_of entry.1) (cond b (sent it ∷ []) [])) (tested ∙ same_name bare it.field which)
  where
    of_test : (b : Bool) → found_values (if b then Some it.value else None)
        ≡ map (λ (entry : Field × List ℕ). text_of entry.1) (cond b (sent it ∷ []) [])
    of_test true = refl
    of_test false = refl
