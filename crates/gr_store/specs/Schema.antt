-- The six tables of a desk, as their texts define them.
use Rattle.std.specs.Prelude.{ℕ, Bool, true, false, List, [], ◌∷◌, ◌++◌, codes, Option, Some, None, IsSome, ◌||◌}
use Rattle.gr_core.specs.Columns.Stored.{TableName, DeskTable, DeveloperTable, ResolutionTable, ChoiceTable}
use Rattle.gr_core.specs.Columns.Stored.{SponsorTable, BallotTable}
use Rattle.sqlite_value.specs.declared.value.Value.TheVariants.{Null}
use Rattle.sqlite_value.specs.declared.keys.Collation.TheVariants.{Binary}
use Rattle.sqlite_value.specs.declared.keys.Order.{Order}
use Rattle.sqlite_value.specs.Keys.{plain}
use Rattle.sqlite_schema.specs.declared.schema.Kind.{Kind}
use Rattle.sqlite_schema.specs.declared.schema.Kind.TheVariants.{Integer, Text}
use Rattle.sqlite_schema.specs.declared.schema.Column.{Column}
use Rattle.sqlite_schema.specs.declared.schema.Table.{Table}
use Rattle.sqlite_schema.specs.declared.schema.Schema.{Schema}
use Rattle.sqlite_schema.specs.Names.{table_named}
use Rattle.sqlite_catalog.specs.Change.{is_used}

abbrev pub desk_text : List ℕ
desk_text =
    codes "CREATE TABLE desk (id INTEGER PRIMARY KEY, version INTEGER NOT NULL,\n"
    ++ codes "  accepted INTEGER NOT NULL, clock INTEGER NOT NULL) STRICT"

abbrev pub developer_text : List ℕ
developer_text =
    codes "CREATE TABLE developer (login TEXT PRIMARY KEY NOT NULL, name TEXT NOT NULL,\n"
    ++ codes "  active INTEGER NOT NULL) STRICT"

abbrev pub resolution_text : List ℕ
resolution_text =
    codes "CREATE TABLE resolution (number INTEGER PRIMARY KEY, stage INTEGER NOT NULL,\n"
    ++ codes "  start INTEGER NOT NULL, changed INTEGER NOT NULL, shift INTEGER NOT NULL,\n"
    ++ codes "  called INTEGER NOT NULL, days INTEGER NOT NULL, devs INTEGER NOT NULL,\n"
    ++ codes "  chosen INTEGER NOT NULL) STRICT"

abbrev pub choice_text : List ℕ
choice_text =
    codes "CREATE TABLE choice (resolution INTEGER NOT NULL, number INTEGER NOT NULL,\n"
    ++ codes "  kind INTEGER NOT NULL, proposer TEXT NOT NULL, summary TEXT NOT NULL,\n"
    ++ codes "  body TEXT NOT NULL, ratio INTEGER NOT NULL, introduced INTEGER NOT NULL,\n"
    ++ codes "  short INTEGER NOT NULL, place INTEGER NOT NULL,\n"
    ++ codes "  PRIMARY KEY (resolution, number)) STRICT"

abbrev pub sponsor_text : List ℕ
sponsor_text =
    codes "CREATE TABLE sponsor (resolution INTEGER NOT NULL, choice INTEGER NOT NULL,\n"
    ++ codes "  login TEXT NOT NULL, active INTEGER NOT NULL,\n"
    ++ codes "  PRIMARY KEY (resolution, choice, login)) STRICT"

abbrev pub ballot_text : List ℕ
ballot_text =
    codes "CREATE TABLE ballot2 (resolution INTEGER NOT NULL, login TEXT NOT NULL,\n"
    ++ codes "  ranks TEXT NOT NULL, receipt TEXT NOT NULL, received INTEGER NOT NULL,\n"
    ++ codes "  PRIMARY KEY (resolution, login)) STRICT"

-- a column of a STRICT table with no default
abbrev pub column_of : List ℕ → Kind → Bool → Column
column_of name kind not_null =
    record { name = name; kind = kind; is_strict = true; not_null = not_null; default = Null; collation = Binary }

abbrev pub whole : List ℕ → Column
whole name = column_of name Integer true

abbrev pub text : List ℕ → Column
text name = column_of name Text true

-- a table whose rows go by the rowid, and one that has an index for its key
abbrev pub plain_table : List ℕ → List Column → Option ℕ → List ℕ → List (List ℕ) → List Order → Table
plain_table name columns key primary uniques orders = record {
  name = name;
  tree = 0;
  columns = columns;
  key = key;
  primary = primary;
  uniques = uniques;
  orders = orders;
  checks = [];
  references = [];
  computed = [];
  stamps = record { places = []; terms = []; formats = [] };
  is_counted = false;
}

abbrev pub ballot_table : Table
ballot_table = plain_table (codes "ballot2")
    (whole (codes "resolution") ∷ text (codes "login") ∷ text (codes "ranks") ∷ text (codes "receipt")
    ∷ whole (codes "received") ∷ [])
    None (1 ∷ 2 ∷ []) ((1 ∷ 2 ∷ []) ∷ []) (plain ∷ [])

-- the table of ballots in version 1, as the program of that version made it
abbrev pub ballot1_table : Table
ballot1_table = plain_table (codes "ballot")
    (whole (codes "resolution") ∷ text (codes "login") ∷ text (codes "ranks") ∷ text (codes "receipt") ∷ [])
    None (1 ∷ 2 ∷ []) ((1 ∷ 2 ∷ []) ∷ []) (plain ∷ [])

-- the six tables of a desk, with this one for its ballots
abbrev pub tables_with : Table → TableName → Table
tables_with ballots DeskTable = plain_table (codes "desk")
    (column_of (codes "id") Integer false ∷ whole (codes "version") ∷ whole (codes "accepted") ∷ whole
    (codes "clock") ∷ [])
    (Some 0) (0 ∷ []) [] []
tables_with ballots DeveloperTable = plain_table (codes "developer") (text (codes "login") ∷ text (codes "name") ∷ whole
    (codes "active") ∷ [])
    None (1 ∷ []) ((1 ∷ []) ∷ []) (plain ∷ [])
tables_with ballots ResolutionTable = plain_table (codes "resolution")
    (column_of (codes "number") Integer false ∷ whole (codes "stage") ∷ whole (codes "start") ∷ whole (codes "changed")
    ∷ whole (codes "shift") ∷ whole (codes "called") ∷ whole (codes "days") ∷ whole (codes "devs") ∷ whole
    (codes "chosen") ∷ [])
    (Some 0) (0 ∷ []) [] []
tables_with ballots ChoiceTable = plain_table (codes "choice")
    (whole (codes "resolution") ∷ whole (codes "number") ∷ whole (codes "kind") ∷ text (codes "proposer")
    ∷ text (codes "summary") ∷ text (codes "body") ∷ whole (codes "ratio") ∷ whole (codes "introduced")
    ∷ whole (codes "short") ∷ whole (codes "place") ∷ [])
    None (1 ∷ 2 ∷ []) ((1 ∷ 2 ∷ []) ∷ []) (plain ∷ [])
tables_with ballots SponsorTable = plain_table (codes "sponsor")
    (whole (codes "resolution") ∷ whole (codes "choice") ∷ text (codes "login") ∷ whole (codes "active") ∷ [])
    None (1 ∷ 2 ∷ 3 ∷ []) ((1 ∷ 2 ∷ 3 ∷ []) ∷ []) (plain ∷ [])
tables_with ballots BallotTable = ballots

abbrev pub desk_table : Table
desk_table = tables_with ballot_table DeskTable

abbrev pub developer_table : Table
developer_table = tables_with ballot_table DeveloperTable

abbrev pub resolution_table : Table
resolution_table = tables_with ballot_table ResolutionTable

abbrev pub choice_table : Table
choice_table = tables_with ballot_table ChoiceTable

abbrev pub sponsor_table : Table
sponsor_table = tables_with ballot_table SponsorTable

-- There are tables with the names of the six, with no regard to the case of ASCII letters; that of ballots has this
-- one. A field for each is what one function answers that asks for the six names in turn.
pub record HasSixTablesWith (ballots : List ℕ) (schema : Schema) : Type 0 where
  pub desk : IsSome (table_named schema (codes "desk"))
  pub developer : IsSome (table_named schema (codes "developer"))
  pub resolution : IsSome (table_named schema (codes "resolution"))
  pub choice : IsSome (table_named schema (codes "choice"))
  pub sponsor : IsSome (table_named schema (codes "sponsor"))
  pub ballot : IsSome (table_named schema ballots)

-- one of the six names is taken, by a table, an index or a view
abbrev pub is_occupied : Schema → Bool
is_occupied schema =
    is_used schema (codes "desk") || is_used schema (codes "developer") || is_used schema (codes "resolution")
    || is_used schema (codes "choice") || is_used schema (codes "sponsor") || is_used schema (codes "ballot2")
