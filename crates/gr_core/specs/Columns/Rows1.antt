-- The rows of a desk of version 1: those of this version, but that a ballot does not say how often its voter voted
-- (this project's profile).
use Rattle.std.specs.Prelude.{◌≡◌, List, [], ◌∷◌, ◌++◌, map, string_bytes}
use Rattle.hex.specs.Hex.{encode_lower}
use Rattle.gr_core.specs.declared.rows.BallotRow1.{BallotRow1}
use Rattle.gr_core.specs.declared.rows.Rows1.{Rows1}
use Rattle.gr_core.specs.Parts.Key.{BallotKey}
use Rattle.gr_core.specs.Parts.Ballot.{BallotModel}
use Rattle.gr_core.specs.Desks.State.{State}
use Rattle.gr_core.specs.Desks.Version1.{IsValid1, lifted}
use Rattle.gr_core.specs.Columns.Fields.{Field, Number, Text, natural, ranks_text}
use Rattle.gr_core.specs.Columns.Stored.{Stored, HasRowsBy, fields_of_header, fields_of_developer, fields_of_resolution}
use Rattle.gr_core.specs.Columns.Stored.{fields_of_choice, fields_of_sponsor}

-- ballot: resolution, login, ranks, receipt
abbrev pub ballot_fields1 : BallotKey × BallotModel → List Field
ballot_fields1 ((resolution, login), row) =
    natural resolution ∷ Text login ∷ Text (ranks_text row.ranks) ∷ Text (encode_lower row.receipt.digest) ∷ []

-- a row as it came, without where it lies in memory
abbrev pub fields_of_ballot1 : BallotRow1 → List Field
fields_of_ballot1 row =
    Number row.resolution ∷ Text (string_bytes row.login) ∷ Text (string_bytes row.ranks)
    ∷ Text (string_bytes row.receipt) ∷ []

abbrev pub stored1 : Rows1 → Stored
stored1 rows = record {
  desk = map fields_of_header rows.desk.items;
  developers = map fields_of_developer rows.developers.items;
  resolutions = map fields_of_resolution rows.resolutions.items;
  choices = map fields_of_choice rows.choices.items;
  sponsors = map fields_of_sponsor rows.sponsors.items;
  ballots = map fields_of_ballot1 rows.ballots.items;
}

-- the rows of this state in version 1, and no others
abbrev pub HasRows1 : State → Stored → Type 0
HasRows1 = HasRowsBy ballot_fields1

-- ==== in this version

-- the row of a ballot in this version: one vote was received
abbrev pub lifted_fields : List Field → List Field
lifted_fields fields = fields ++ natural 1 ∷ []

-- the rows with those of the ballots in this version, as an intake takes them
abbrev pub lifted_rows : Stored → Stored
lifted_rows rows = record rows { ballots = map lifted_fields rows.ballots }

-- a valid desk of version 1 had the rows, and this is what becomes of it
pub record IsLiftedOf (rows : Stored) (desk : State) : Type 0 where
  pub desk1 : State
  pub valid : IsValid1 desk1
  pub rows_of : HasRows1 desk1 rows
  pub lifts : desk ≡ lifted desk1
