-- What a migration makes of a database: of one that has the tables of version 1, and of one of this version.
use Rattle.std.specs.Prelude.{◌≡◌, List, [], ◌∷◌}
use Rattle.std.specs.FinMap.{empty}
use Rattle.sqlite_trees.specs.Tree.{Trees}
use Rattle.sqlite_schema.specs.declared.schema.Schema.{Schema}
use Rattle.sqlite_schema.specs.declared.schema.Table.{Table}
use Rattle.sqlite_catalog.specs.Change.{created}
use Rattle.sqlite.specs.Effect.{Database, IsDatabase}
use Rattle.sqlite.specs.State as shown
use Rattle.gr_core.specs.Machine.Row as core
use Rattle.gr_core.specs.Machine.Row.{put_all}
use Rattle.gr_core.specs.Desks.State.{State}
use Rattle.gr_core.specs.Columns.Stored.{BallotTable}
use Rattle.gr_core.specs.Parts.Ballot.{BallotModel}
use Rattle.gr_core.specs.Parts.Key.{ballot_cmp}
use Rattle.gr_store.specs.Schema.{ballot_table}
use Rattle.gr_store.specs.Own.{HasOwnTables, HasOwnTablesWith, IsBallotTable1, IsLone, IsBeside, in_its_tree}
use Rattle.gr_store.specs.Makes.{MakesTable}
use Rattle.gr_store.specs.Clears.{Clears}
use Rattle.gr_store.specs.Content.{WritesNothing}
use Rattle.gr_store.specs.Holds.{IsCurrent}
use Rattle.gr_store.specs.Commits.{PutsAll}

-- the tables of this version, where its table of ballots was made beside those of version 1
abbrev pub tables_beside : {ballots : Table} {old made : Database} → HasOwnTablesWith ballots old.schema
    → MakesTable ballot_table old made → HasOwnTables made.schema
tables_beside own makes BallotTable = makes.own
tables_beside own makes name = (makes.still _ (own name)).0

-- the state with no ballots
abbrev pub without_ballots : State → State
without_ballots s = record s { ballots = empty {X = BallotModel} {R = ballot_cmp} }

-- the ballots of the state are put
abbrev pub PutsBallots : {schema : Schema} → HasOwnTables schema → State → Database → Database → Type 0
PutsBallots own s old new =
    (rows : List core.RowModel) × (put_all (without_ballots s) rows ≡ s) × PutsAll own rows old new

-- the table of ballots of this version is made, the header and the ballots of the state are put, and the rows of that
-- of version 1 are taken out
pub record Migrates (s : State) (old : Database) {ballots : Table} (own : HasOwnTablesWith ballots old.schema)
    (new : Database) : Type 0 where
  pub made : Database
  pub makes : MakesTable ballot_table old made
  pub header : Database
  pub puts_header : PutsAll (tables_beside own makes) (core.HeaderOf s.header ∷ []) made header
  pub filled : Database
  pub puts_ballots : PutsBallots (tables_beside own makes) s header filled
  pub clears : Clears (in_its_tree (makes.still ballots (own BallotTable)).0) filled new

-- the trees of such a database
abbrev pub HasMigrated : State → (old : Database) {ballots : Table} → HasOwnTablesWith ballots old.schema → Trees
    → Type 0
HasMigrated s old own trees = (after : Database) × Migrates s old own after × (trees ≡ after.trees)

-- the trees of such a database, where there are the tables of version 1
pub record MayMigrate (s : State) (old : Database) (trees : Trees) : Type 0 where
  pub has : (ballots : Table) → IsBallotTable1 ballots → (own : HasOwnTablesWith ballots old.schema) → IsDatabase old
      → HasMigrated s old own trees

-- The table of ballots of this version is added, and nothing else. Each table beside the six of version 1 that has no
-- foreign key has its rows.
pub record AddsBallotTable (old : Database) {ballots : Table} (own : HasOwnTablesWith ballots old.schema)
    (new : Database) : Type 0 where
  pub schema_is : new.schema ≡ created old.schema ballot_table
  pub rows : (other : Table) → IsLone old.schema other → IsBeside own other
      → new.trees other.tree ≡ old.trees other.tree

-- the trees of such a database, which obey its schema
abbrev pub LeavesBallots : (old : Database) {ballots : Table} → HasOwnTablesWith ballots old.schema → Trees → Type 0
LeavesBallots old own trees = (db : Database) × IsDatabase db × AddsBallotTable old own db × (trees ≡ db.trees)

-- a database of this version was there, and is as it was: nothing was written
pub record StaysCurrent (old new : shown.State) : Type 0 where
  pub current : IsCurrent old.now
  pub none : WritesNothing old new
  pub same : new.now ≡ old.now
