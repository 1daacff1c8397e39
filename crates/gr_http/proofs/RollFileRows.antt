-- Rows of a roll file, and the fields of their records.
use Rattle.std.proofs.Common.{◌≡◌, ◌≢◌, ℕ, ◌+◌, ◌<◌, Bool, true, false, List, [], ◌∷◌, ◌++◌, length, Option, Some, None, Result, Ok, Err, IfNone, IsUtf8, refl, arith, append_assoc, ap, sym, ◌∙◌}
use Rattle.std.specs.Str.{is_utf8}
use Rattle.std.proofs.lemmas.Str.{IsUtf8-from_is_utf8, is_utf8-from_IsUtf8}
use Rattle.csv.specs.Records.{field_at}
use Rattle.csv.proofs.RecordFacts.{field-there}
use Rattle.gr_core.specs.Machine.Import.{RollRow}
use Rattle.gr_http.specs.RollFile.{row_before, row_in, rows_from}

-- the fields of a record that has three
pub three-fields : (fields : List (List ℕ)) (login name status : List ℕ) → length fields ≡ 3
    → field_at fields 0 ≡ Some login → field_at fields 1 ≡ Some name → field_at fields 2 ≡ Some status
    → fields ≡ login ∷ name ∷ status ∷ []
unfolding field_at
three-fields [] login name status three first second third = cc
three-fields (a ∷ []) login name status three first second third = cc second
three-fields (a ∷ b ∷ []) login name status three first second third = cc third
three-fields (a ∷ b ∷ c ∷ []) login name status three first second third = cc
three-fields (a ∷ b ∷ c ∷ d ∷ more) login name status three first second third = absurd (omega arith)

-- what holds whether there is a value or not
pub if-none : {T : Type 0} {P : Type 0} (answer : Option T) → P → IfNone answer P
if-none None holds = holds
if-none (Some x) holds = tt

-- a field that is not there is none of three
pub no-field : (fields : List (List ℕ)) (place : ℕ) → place < 3 → field_at fields place ≡ None → length fields ≢ 3
no-field fields place below none three = field-there fields place (omega arith) none

not-utf8 : (b : Bool) (bytes : List ℕ) → is_utf8 bytes ≡ b → ¬ (IsUtf8 bytes) → is_utf8 bytes ≡ false
not-utf8 true bytes is wrong = absurd (wrong (IsUtf8-from_is_utf8 bytes is))
not-utf8 false bytes is wrong = is

pub is_utf8-not : (bytes : List ℕ) → ¬ (IsUtf8 bytes) → is_utf8 bytes ≡ false
is_utf8-not bytes wrong = not-utf8 (is_utf8 bytes) bytes refl wrong

-- a record of three fields is a row where each is UTF-8
pub row-of : (fields : List (List ℕ)) (login name status : List ℕ) → fields ≡ login ∷ name ∷ status ∷ []
    → IsUtf8 login → IsUtf8 name → IsUtf8 status
    → row_in fields ≡ Some (record { login = login; name = name; status = status })
row-of fields login name status three first second third =
    rw (three, is_utf8-from_IsUtf8 login first, is_utf8-from_IsUtf8 name second, is_utf8-from_IsUtf8 status third) refl

-- and the row of texts that are its fields is that row
pub row-texts : (answer : Option RollRow) (login name status first second third : List ℕ)
    → first ≡ login → second ≡ name → third ≡ status
    → answer ≡ Some (record { login = login; name = name; status = status })
    → Some (record { login = first; name = second; status = third }) ≡ answer
row-texts answer login name status first second third same_login same_name same_status is =
    rw (is, same_login, same_name, same_status) refl

-- and where one is not, it is none
pub no-login : (fields : List (List ℕ)) (login name status : List ℕ) → fields ≡ login ∷ name ∷ status ∷ []
    → ¬ (IsUtf8 login) → None ≡ row_in fields
no-login fields login name status three wrong = rw (three, is_utf8-not login wrong) refl

pub no-name : (fields : List (List ℕ)) (login name status : List ℕ) → fields ≡ login ∷ name ∷ status ∷ []
    → IsUtf8 login → ¬ (IsUtf8 name) → None ≡ row_in fields
no-name fields login name status three first wrong = rw (three, is_utf8-from_IsUtf8 login first, is_utf8-not name wrong) refl

pub no-status : (fields : List (List ℕ)) (login name status : List ℕ) → fields ≡ login ∷ name ∷ status ∷ []
    → IsUtf8 login → IsUtf8 name → ¬ (IsUtf8 status) → None ≡ row_in fields
no-status fields login name status three first second wrong =
    rw (three, is_utf8-from_IsUtf8 login first, is_utf8-from_IsUtf8 name second, is_utf8-not status wrong) refl

-- the rows so far, and what the later records say
abbrev pub behind : List RollRow → Result (List RollRow) ℕ → Result (List RollRow) ℕ
behind rows (Ok later) = Ok (rows ++ later)
behind rows (Err bad) = Err bad

pub behind-row : (rows : List RollRow) (number : ℕ) (row : RollRow) (later : Result (List RollRow) ℕ)
    → behind rows (row_before number (Some row) later) ≡ behind (rows ++ row ∷ []) later
behind-row rows number row (Ok later) = ap Ok (sym (append_assoc rows (row ∷ []) later))
behind-row rows number row (Err bad) = refl

-- one more record is read, which is a row
pub behind-next : (all : Result (List RollRow) ℕ) (rows rows2 : List RollRow) (number number2 : ℕ)
    (left left2 : List (List (List ℕ))) (fields : List (List ℕ)) (row : RollRow)
    → all ≡ behind rows (rows_from number left) → left ≡ fields ∷ left2 → Some row ≡ row_in fields
    → rows2 ≡ rows ++ row ∷ [] → number2 ≡ number + 1 → all ≡ behind rows2 (rows_from number2 left2)
behind-next all rows rows2 number number2 left left2 fields row so_far takes reads adds counts =
    rw (adds, counts) (so_far ∙ rw (takes, ← reads) (behind-row rows number row (rows_from (number + 1) left2)))
