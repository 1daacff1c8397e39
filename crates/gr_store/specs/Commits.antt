-- What a commit makes of a database: the rows of its changes are put one after the other, all in one transaction.
use Rattle.std.specs.Prelude.{◌≡◌, List, [], ◌∷◌}
use Rattle.sqlite_trees.specs.Tree.{Trees}
use Rattle.sqlite_schema.specs.declared.schema.Schema.{Schema}
use Rattle.sqlite_schema.specs.declared.schema.Table.{Table}
use Rattle.sqlite.specs.Effect.{Database, IsDatabase}
use Rattle.gr_core.specs.Machine.Row as core
use Rattle.gr_core.specs.Columns.Fields.{row_fields}
use Rattle.gr_core.specs.Columns.Stored.{DeskTable, DeveloperTable, ResolutionTable, ChoiceTable}
use Rattle.gr_core.specs.Columns.Stored.{SponsorTable, BallotTable}
use Rattle.gr_core.specs.Desks.State.{State, new_state}
use Rattle.gr_store.specs.Own.{HasOwnTables, IsLone, IsBeside, in_its_tree}
use Rattle.gr_store.specs.Makes.{AddsDesk, MakesDesk}
use Rattle.gr_store.specs.Puts.{Puts}
use Rattle.gr_store.specs.Holds.{Holds, HasDeskTables}

-- the table that a row belongs to
abbrev pub table_for : {schema : Schema} → HasOwnTables schema → core.RowModel → Table
table_for own (core.HeaderOf header) = in_its_tree (own DeskTable)
table_for own (core.DeveloperOf login row) = in_its_tree (own DeveloperTable)
table_for own (core.ResolutionOf number resolution) = in_its_tree (own ResolutionTable)
table_for own (core.ChoiceOf key row) = in_its_tree (own ChoiceTable)
table_for own (core.SponsorOf key sponsorship) = in_its_tree (own SponsorTable)
table_for own (core.BallotOf key row) = in_its_tree (own BallotTable)

-- the row is put into its table
abbrev pub PutsRow : {schema : Schema} → HasOwnTables schema → core.RowModel → Database → Database → Type 0
PutsRow own row old new = Puts (table_for own row) (row_fields row) old new

-- these rows are put, the first of them first
abbrev pub PutsAll : {schema : Schema} → HasOwnTables schema → List core.RowModel → Database → Database → Type 0
PutsAll own [] old new = new ≡ old
PutsAll own (row ∷ rows) old new = (between : Database) × PutsRow own row old between × PutsAll own rows between new

-- what stands after all of them
abbrev pub HasPut : {schema : Schema} → HasOwnTables schema → List core.RowModel → Database → Trees → Type 0
HasPut own rows old trees = (after : Database) × PutsAll own rows old after × (trees ≡ after.trees)

-- the six tables are added, with the header of a new desk and no other row
pub record IsNewDesk (old db : Database) : Type 0 where
  pub made : Database
  pub is : MakesDesk old made
  pub header : PutsRow is.own (core.HeaderOf new_state.header) made db

-- the trees of such a database
abbrev pub HasNewDesk : Database → Trees → Type 0
HasNewDesk old trees = (after : Database) × IsNewDesk old after × (trees ≡ after.trees)

-- the trees of a database that has a desk's tables and holds the state
abbrev pub LeavesDesk : State → Trees → Type 0
LeavesDesk s trees = (db : Database) × HasDeskTables db × Holds s db × (trees ≡ db.trees)

-- the trees of a database to which the six tables were added, with a new desk
abbrev pub LeavesNewDesk : Database → Trees → Type 0
LeavesNewDesk old trees =
    (db : Database) × HasDeskTables db × Holds new_state db × AddsDesk old db × (trees ≡ db.trees)

-- the schema is as it was, and each table beside the six that has no foreign key has its rows
pub record KeepsBeside {schema : Schema} (own : HasOwnTables schema) (old new : Database) : Type 0 where
  pub schema_is : new.schema ≡ old.schema
  pub rows : (other : Table) → IsLone old.schema other → IsBeside own other
      → new.trees other.tree ≡ old.trees other.tree

-- the trees of such a database, which obey its schema
abbrev pub LeavesBeside : {schema : Schema} → HasOwnTables schema → Database → Trees → Type 0
LeavesBeside own old trees = (db : Database) × IsDatabase db × KeepsBeside own old db × (trees ≡ db.trees)
