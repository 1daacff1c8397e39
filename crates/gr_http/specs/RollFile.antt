-- Roll files (this project's profile): records of comma-separated fields, of which the first names the columns and each
-- further one is a row.
use Rattle.std.specs.Prelude.{◌≡◌, ℕ, ◌+◌, ◌++◌, Bool, false, ◌&&◌, if◌then◌else◌, List, [], ◌∷◌, map, Option, Some, None, Result, Ok, Err, Vec, codes, decimal, ⊤}
use Rattle.std.specs.Str.{bytes_eq, is_utf8}
use Rattle.std.specs.declared.alloc.Global.{Global}
use Rattle.csv.specs.Reading.{default_config, records, strip_bom}
use Rattle.gr_core.specs.Machine.Import.{RollRow, roll_row}
use Rattle.gr_core.specs.declared.import.RollRow as rust
use Rattle.gr_http.specs.declared.roll_file.NoRoll.{NoRoll}
use Rattle.gr_http.specs.declared.roll_file.NoRoll.TheVariants.{BadLine, Memory}

-- the record names the columns
abbrev pub is_column_names : List (List ℕ) → Bool
is_column_names (login ∷ name ∷ status ∷ []) =
    bytes_eq login (codes "login") && bytes_eq name (codes "name") && bytes_eq status (codes "status")
is_column_names _ = false

-- the row of a record, which has three fields, each UTF-8
abbrev pub row_in : List (List ℕ) → Option RollRow
row_in (login ∷ name ∷ status ∷ []) =
    if is_utf8 login && is_utf8 name && is_utf8 status then
    Some (record { login = login; name = name; status = status })
    else None
row_in _ = None

-- a row and the later rows; or the number of its record, where that is no row; or what the later records say
abbrev pub row_before : ℕ → Option RollRow → Result (List RollRow) ℕ → Result (List RollRow) ℕ
row_before number None later = Err number
row_before number (Some row) (Ok rows) = Ok (row ∷ rows)
row_before number (Some row) (Err bad) = Err bad

-- the rows of records that are numbered from this number on, or the number of the first that is no row
abbrev pub rows_from : ℕ → List (List (List ℕ)) → Result (List RollRow) ℕ
rows_from number [] = Ok []
rows_from number (fields ∷ later) = row_before number (row_in fields) (rows_from (number + 1) later)

-- the rows under the names of the columns, whose record has number 1
abbrev pub rows_under_column_names : List (List (List ℕ)) → Result (List RollRow) ℕ
rows_under_column_names [] = Err 1
rows_under_column_names (fields ∷ later) = if is_column_names fields then rows_from 2 later else Err 1

-- the rows of a file, after a byte order mark at its start, or the number of its first bad record
unfoldable pub roll_in : List ℕ → Result (List RollRow) ℕ
roll_in bytes = rows_under_column_names (records default_config (strip_bom bytes))

-- The answer is the rows of the file, or the number of its first bad record. Running out of memory says nothing of it.
abbrev pub ReadsRoll : List ℕ → Result (Vec rust.RollRow Global) NoRoll → Type 0
ReadsRoll bytes (Ok rows) = roll_in bytes ≡ Ok (map roll_row rows.items)
ReadsRoll bytes (Err (BadLine line)) = roll_in bytes ≡ Err line
ReadsRoll bytes (Err Memory) = ⊤

-- what is printed of why bytes are not read as a roll
abbrev pub no_roll_text : NoRoll → List ℕ
no_roll_text (BadLine line) = codes "bad roll " ++ decimal line
no_roll_text Memory = codes "out of memory"
