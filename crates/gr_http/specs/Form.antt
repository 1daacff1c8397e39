-- The fields of a form (URL Standard, section 5, as form_urlencoded reads it), and what their texts say (this project's
-- profile).
use Rattle.std.specs.Prelude.{◌≡◌, ℕ, ℤ, List, [], ◌∷◌, map, filter, Option, Some, None, Result, Ok, codes, if◌then◌else◌}
use Rattle.std.specs.Option.{ok_or}
use Rattle.std.specs.Str.{bytes_eq}
use Rattle.std.specs.Str.Lossy.{utf8_lossy}
use Rattle.form_urlencoded.specs.Form.{raw_pairs, decode}
use Rattle.gr_core.specs.declared.developer.Standing.{Standing}
use Rattle.gr_core.specs.declared.command.Amendment.{Amendment}
use Rattle.gr_core.specs.declared.command.Amendment.TheVariants.{Minor, Substantial}
use Rattle.gr_core.specs.Parts.Choice.{Proposer, Developer, Leader, Committee}
use Rattle.gr_core.specs.Parts.Developer.{standing_of}
use Rattle.gr_http.specs.declared.field.Field.{Field}
use Rattle.gr_http.specs.declared.problem.Problem.{Problem}
use Rattle.gr_http.specs.declared.problem.Problem.TheVariants.{BadField}
use Rattle.gr_http.specs.Field.{field_name}
use Rattle.gr_http.specs.Number.{number_said, signed_number_said}
use Rattle.gr_http.specs.Problem.{◌>>=◌}

-- the text that the bytes of a name or a value stand for; what is no UTF-8 becomes U+FFFD
abbrev pub text_of : List ℕ → List ℕ
text_of bytes = utf8_lossy (decode bytes)

-- the values of the fields with this name, in their order
abbrev pub values_of : List ℕ → List (List ℕ × List ℕ) → List (List ℕ)
values_of name pairs = map (λ pair. text_of pair.1) (filter (λ pair. bytes_eq (text_of pair.0) name) pairs)

-- the one value, where there is just one
abbrev pub only : List (List ℕ) → Option (List ℕ)
only [] = None
only (value ∷ []) = Some value
only (value ∷ other ∷ others) = None

-- the value of the field that stands just once in the form
abbrev pub field_of : List ℕ → List ℕ → Option (List ℕ)
field_of name form = only (values_of name (raw_pairs form))

-- the values of this field among the fields of a form whose names were read, in their order
abbrev pub values_in : List (Field × List ℕ) → Field → List (List ℕ)
values_in fields field =
    map (λ entry. text_of entry.1) (filter (λ entry. bytes_eq (field_name entry.0) (field_name field)) fields)

-- they are the fields of the form that the desk knows, each with its value as it was sent
abbrev pub AreFieldsOf : List (Field × List ℕ) → List ℕ → Type 0
AreFieldsOf fields form = (field : Field) → values_in fields field ≡ values_of (field_name field) (raw_pairs form)

-- what a field of the form says, whose problem it is that it is missing or doubled
abbrev pub text_in : List ℕ → Field → Result (List ℕ) Problem
text_in form field = ok_or (field_of (field_name field) form) (BadField field)

-- the same where the text is to have a form of its own, which this reads
abbrev pub formed_in : {A : Type 0} → (List ℕ → Option A) → List ℕ → Field → Result A Problem
formed_in said form field = do
  text ← text_in form field
  ok_or (said text) (BadField field)

-- whether an amendment is minor
abbrev pub amendment_said : List ℕ → Option Amendment
amendment_said text =
    if bytes_eq text (codes "0") then Some Substantial
    else if bytes_eq text (codes "1") then Some Minor else None

-- a proposer: every text but two is a login, which the desk judges
abbrev pub proposer_said : List ℕ → Proposer
proposer_said text =
    if bytes_eq text (codes "@leader") then Leader
    else if bytes_eq text (codes "@committee") then Committee else Developer text

-- the forms that a field may have
abbrev pub standing_in : List ℕ → Field → Result Standing Problem
standing_in = formed_in standing_of

abbrev pub number_in : List ℕ → Field → Result ℕ Problem
number_in = formed_in number_said

abbrev pub signed_number_in : List ℕ → Field → Result ℤ Problem
signed_number_in = formed_in signed_number_said

abbrev pub amendment_in : List ℕ → Field → Result Amendment Problem
amendment_in = formed_in amendment_said

abbrev pub proposer_in : List ℕ → Field → Result Proposer Problem
proposer_in form field = do
  text ← text_in form field
  Ok (proposer_said text)
