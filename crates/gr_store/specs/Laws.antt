-- What the definitions say of one another.
use Rattle.std.specs.Prelude.{◌≡◌, ◌++◌, List, None}
use Rattle.sqlite.specs.Effect.{Database}
use Rattle.gr_store.specs.Causes.{CannotSelect}
use Rattle.gr_core.specs.Desks.State.{State}
use Rattle.gr_core.specs.Desks.Valid.{IsValid}
use Rattle.gr_core.specs.Desks.Version1.{IsValid1, lifted}
use Rattle.gr_store.specs.Holds.{Holds, HasDeskTables}
use Rattle.gr_store.specs.Schema.{desk_table, ballot1_table}
use Rattle.gr_store.specs.SelectedTables.{HasPlainAnswer}
use Rattle.gr_store.specs.Selects.{desk_select}
use Rattle.gr_store.specs.Tabled.{HasTable, HasColumnsOf, HasTables, HasColumns1}
use Rattle.sqlite_schema.specs.declared.schema.Column.{Column}
use Rattle.sqlite_schema.specs.declared.schema.Schema.{Schema}
use Rattle.sqlite_schema.specs.declared.schema.Table.{Table}
use Rattle.gr_store.specs.Own.{IsBallotTable1}
use Rattle.gr_store.specs.Version1.{Holds1}

-- a database with a desk's tables has them right
abbrev pub TablesMadeAreRight : Type 0
TablesMadeAreRight = (db : Database) → HasDeskTables db → HasTables db.schema

-- where the table `desk` has columns of the names that its text defines, whatever else it has, their select has a plain
-- answer
abbrev pub DesksAnswerPlainly : Type 0
DesksAnswerPlainly = (db : Database) → HasColumnsOf db.schema desk_table → HasPlainAnswer desk_select db

-- a table that is as its text defines it has those columns
abbrev pub TablesHaveTheirColumns : Type 0
TablesHaveTheirColumns = (schema : Schema) (table : Table) → HasTable schema table → HasColumnsOf schema table

-- where the tables are right, only a limit on steps stops a select of theirs
abbrev pub RightTablesAreSelected : Type 0
RightTablesAreSelected = (db : Database) → HasTables db.schema → ¬ (CannotSelect None db)

-- where the tables are right, a database holds at most one valid desk
abbrev pub OneDeskIsHeld : Type 0
OneDeskIsHeld = (db : Database) → HasTables db.schema → (s t : State) → IsValid s → IsValid t → Holds s db → Holds t db
    → s ≡ t

-- where the tables have the columns of version 1, all valid desks of that version that a database holds become one
abbrev pub OneDeskOfVersion1IsHeld : Type 0
OneDeskOfVersion1IsHeld = (db : Database) → HasColumns1 db.schema → (s t : State) → IsValid1 s → IsValid1 t
    → Holds1 s db → Holds1 t db → lifted s ≡ lifted t

-- further columns in front of those that version 1 made, and after them, leave a table of ballots of that version
abbrev pub BallotTablesMayBeWider : Type 0
BallotTablesMayBeWider = (front more : List Column)
    → IsBallotTable1 (record ballot1_table { columns = front ++ (ballot1_table.columns ++ more) })
