-- The records that a reader of bytes has left.
use Rattle.std.specs.Prelude.{◌≡◌, ℕ, ◌+◌, ◌<◌, Bool, true, false, if◌then◌else◌, List, [], ◌∷◌, length, Option, Some, unwrap_or}
use Rattle.std.specs.Borrow.{Bor}
use Rattle.csv.specs.Machine.{ends_at_end}
use Rattle.csv.specs.Reading.{Ready, default_config, is_flexible, reader_config, reader_state, reader_trim, records_from, source_of}
use Rattle.csv.specs.declared.reader.Reader.{Reader}
use Rattle.csv.specs.declared.reader.Trim.TheVariants as trim

-- the bytes that the next read reads from, after a byte order mark at their start
abbrev pub unread_of : Reader (Bor (List ℕ)) → Option (List ℕ)
unread_of reader = source_of (λ bytes. Some bytes.now) reader

abbrev pub unread : Reader (Bor (List ℕ)) → List ℕ
unread reader = unwrap_or (unread_of reader) []

-- The reader has not failed and is inside no record. It reads commas and quotes as csv does by default, takes a record
-- of any number of fields, the first as well, and trims none.
pub record IsBetweenRecords (reader : Reader (Bor (List ℕ))) : Type 0 where
  pub config : reader_config reader ≡ default_config
  pub flexible : is_flexible reader ≡ true
  pub trim : reader_trim reader ≡ trim.None
  pub ready : Ready reader
  pub between : ends_at_end (reader_state reader) ≡ false
  pub going : unread_of reader ≡ Some (unread reader)

-- the records that it has left
abbrev pub records_left : Reader (Bor (List ℕ)) → List (List (List ℕ))
records_left reader = records_from default_config (length (unread reader) + 1) (reader_state reader) (unread reader)

-- What a read does. If it found a record, that has these fields and was the first of those that were left, and the
-- reader goes on after it. If it found none, none was left.
pub record ReadsRecord (before after : Reader (Bor (List ℕ))) (found : Bool) (fields : List (List ℕ)) : Type 0 where
  pub takes : records_left before ≡ (if found then fields ∷ records_left after else [])
  pub between : found ≡ true → IsBetweenRecords after
  pub shorter : found ≡ true → length (unread after) < length (unread before)
