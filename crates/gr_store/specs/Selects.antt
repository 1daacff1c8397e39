-- What a select of a table's columns answers, in the order of its key.
use Rattle.std.specs.Prelude.{◌≡◌, ℕ, List, [], ◌++◌, map, Ok, codes, IsPermutation}
use Rattle.gr_core.specs.Columns.Fields.{Field}
use Rattle.gr_core.specs.Columns.Stored.{TableName, DeskTable, DeveloperTable, ResolutionTable, ChoiceTable}
use Rattle.gr_core.specs.Columns.Stored.{SponsorTable, BallotTable}
use Rattle.sqlite_value.specs.Order.{Row}
use Rattle.sqlite_resolve.specs.declared.compiled.Compiled.{Compiled}
use Rattle.sqlite.specs.Effect.{Database, Reads}
use Rattle.sqlite.specs.Clock.{timed}
use Rattle.sqlite.specs.Listing.{reads_listing, understood, IsSourceOf}
use Rattle.gr_store.specs.Rows.{value_of}

abbrev pub ballot_select : List ℕ
ballot_select =
    codes "SELECT resolution, login, ranks, receipt, received FROM ballot2 ORDER BY resolution, login"

-- the ballots of version 1
abbrev pub ballot1_select : List ℕ
ballot1_select =
    codes "SELECT resolution, login, ranks, receipt FROM ballot ORDER BY resolution, login"

-- the selects of the six tables, with this one for the ballots
abbrev pub selects_with : List ℕ → TableName → List ℕ
selects_with ballots DeskTable = codes "SELECT id, version, accepted, clock FROM desk ORDER BY id"
selects_with ballots DeveloperTable = codes "SELECT login, name, active FROM developer ORDER BY login"
selects_with ballots ResolutionTable =
    codes "SELECT number, stage, start, changed, shift, called, days, devs, chosen FROM resolution "
    ++ codes "ORDER BY number"
selects_with ballots ChoiceTable =
    codes "SELECT resolution, number, kind, proposer, summary, body, ratio, introduced, short, place "
    ++ codes "FROM choice ORDER BY resolution, number"
selects_with ballots SponsorTable =
    codes "SELECT resolution, choice, login, active FROM sponsor ORDER BY resolution, choice, login"
selects_with ballots BallotTable = ballots

abbrev pub desk_select : List ℕ
desk_select = selects_with ballot_select DeskTable

abbrev pub developer_select : List ℕ
developer_select = selects_with ballot_select DeveloperTable

abbrev pub resolution_select : List ℕ
resolution_select = selects_with ballot_select ResolutionTable

abbrev pub choice_select : List ℕ
choice_select = selects_with ballot_select ChoiceTable

abbrev pub sponsor_select : List ℕ
sponsor_select = selects_with ballot_select SponsorTable

-- the text is a query under the database's schema, and these rows are an answer to it
pub record Selects (text : List ℕ) (db : Database) (rows : List Row) : Type 0 where
  pub statement : Compiled
  pub is : understood db.schema text ≡ Ok statement
  -- what it reads, and the time, if it asks for that
  pub source : Database
  pub read : IsSourceOf (reads_listing db.schema text) db source
  pub now : ℕ
  pub answer : Reads statement.command source (timed [] statement.formats now) rows

-- the answer is the rows with these fields
abbrev pub SelectsFields : List ℕ → Database → List (List Field) → Type 0
SelectsFields text db fields = Selects text db (map (map value_of) fields)

-- its answers differ in the order of their rows alone
abbrev pub HasOneAnswer : List ℕ → Database → Type 0
HasOneAnswer text db = (rows others : List Row) → Selects text db rows → Selects text db others → IsPermutation rows
    others
