-- A field of a form, without where its value lies in memory.
use Rattle.std.specs.Prelude.{ℕ, List, [], ◌∷◌, Option, Some, None}
use Rattle.std.specs.Borrow.{Bor}
use Rattle.gr_http.specs.declared.form.SentField.{SentField}
use Rattle.gr_http.specs.declared.field.Field.{Field}
use Rattle.gr_http.specs.Form.{text_of}

abbrev pub sent : SentField → Field × List ℕ
sent it = (it.field, it.value.now)

-- the text of a value that was found, if one was
abbrev pub found_values : Option (Bor (List ℕ)) → List (List ℕ)
found_values None = []
found_values (Some value) = text_of value.now ∷ []
