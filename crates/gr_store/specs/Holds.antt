-- When a database holds a desk: by what its selects answer, and not by what its trees are.
-- So load promises that a desk which it finds is held, under any schema, and whoever knows SQL can say
-- what the promise means. Which rows are in which tree is for the proofs.
use Rattle.std.specs.Prelude.{◌≡◌, ⊤, ℕ, pos, ◌<ℤ◌, All, List, [], ◌∷◌}
use Rattle.gr_core.specs.declared.rows.HeaderRow.{HeaderRow}
use Rattle.gr_core.specs.declared.limits.TheConstants.{VERSION}
use Rattle.gr_core.specs.Columns.Fields.{Field}
use Rattle.gr_core.specs.Columns.Stored.{TableName, DeskTable}
use Rattle.gr_core.specs.Columns.Stored.{Stored, HasRows, fields_of_header, table_rows}
use Rattle.gr_core.specs.Desks.State.{State}
use Rattle.sqlite_trees.specs.declared.store.Shape.TheVariants as shape
use Rattle.sqlite_trees.specs.View.{IsShaped}
use Rattle.sqlite_schema.specs.declared.schema.Schema.{Schema}
use Rattle.sqlite_schema.specs.declared.schema.Table.{Table}
use Rattle.sqlite.specs.Effect.{Database, IsDatabase}
use Rattle.gr_store.specs.Own.{HasOwnTablesWith, IsBallotTable1}
use Rattle.gr_store.specs.Schema.{ballot_table}
use Rattle.gr_store.specs.Columns.{Kind, AreOfKinds, kinds_with}
use Rattle.gr_store.specs.Selects.{SelectsFields, desk_select, ballot_select, selects_with}

-- it is another table than `desk`
abbrev pub IsOther : TableName → Type 0
IsOther DeskTable = ⊥
IsOther name = ⊤

-- these rows are the answers of the selects of all tables but `desk`, that of ballots by this text
abbrev pub SelectsOthersBy : List ℕ → Stored → Database → Type 0
SelectsOthersBy text rows db =
    (name : TableName) → IsOther name → SelectsFields (selects_with text name) db (table_rows name rows)

-- the answers of the six selects, that of ballots by this text, are the rows of the state
pub record HoldsBy (AreRows : State → Stored → Type 0) (text : List ℕ) (s : State) (db : Database) : Type 0 where
  pub rows : Stored
  pub are : AreRows s rows
  pub selected : (name : TableName) → SelectsFields (selects_with text name) db (table_rows name rows)

-- the database holds the state
abbrev pub Holds : State → Database → Type 0
Holds = HoldsBy HasRows ballot_select

-- a row of the table `desk` with the id 1 and a version above this program's
abbrev pub IsLater : HeaderRow → Type 0
IsLater row = (row.id ≡ pos 1) × (pos VERSION <ℤ row.version)

-- one with a version below it
abbrev pub IsEarlier : HeaderRow → Type 0
IsEarlier row = (row.id ≡ pos 1) × (row.version <ℤ pos VERSION)

-- one with this version
abbrev pub IsOfThisVersion : HeaderRow → Type 0
IsOfThisVersion row = (row.id ≡ pos 1) × (row.version ≡ pos VERSION)

-- such a row stands alone
abbrev pub IsAlone : (HeaderRow → Type 0) → List (List Field) → Type 0
IsAlone IsSuch rows = (row : HeaderRow) × IsSuch row × (rows ≡ fields_of_header row ∷ [])

-- the table `desk` has such a row, and no other
abbrev pub HasHeaderRow : (HeaderRow → Type 0) → Database → Type 0
HasHeaderRow IsSuch db = (rows : List (List Field)) × IsAlone IsSuch rows × SelectsFields desk_select db rows

abbrev pub IsTooNew : Database → Type 0
IsTooNew = HasHeaderRow IsLater

abbrev pub IsTooOld : Database → Type 0
IsTooOld = HasHeaderRow IsEarlier

abbrev pub IsCurrent : Database → Type 0
IsCurrent = HasHeaderRow IsOfThisVersion

-- the rows have the kinds of columns of their tables, those of ballots these kinds
abbrev pub HaveKindsWith : List Kind → Stored → Type 0
HaveKindsWith kinds rows = (name : TableName) → All (AreOfKinds (kinds_with kinds name)) (table_rows name rows)

-- no rows of these kinds are the answers of the selects of all tables but `desk`, that of ballots by this text
abbrev pub CannotHoldOthers : List ℕ → List Kind → Database → Type 0
CannotHoldOthers text kinds db = (rows : Stored) → HaveKindsWith kinds rows → ¬ (SelectsOthersBy text rows db)

-- ==== in a database with the six tables

-- In the tree of each of the six tables the rowids are whole numbers that rise. A store keeps its trees so, and a
-- connection does not tell it.
abbrev pub AreKeyed : {ballots : Table} {schema : Schema} → HasOwnTablesWith ballots schema → Database → Type 0
AreKeyed own db = (name : TableName) → IsShaped shape.Table (db.trees (own name).has.tree)

-- A database with the six tables, each its own, beside whatever else; that of ballots is this one. A
-- connection does not show that no two tables share a tree, nor that rowids are in order. So both are a
-- part of what create gives and each commit keeps. Of a file that is opened anew they must be known in
-- another way.
pub record HasDeskTablesWith (table : Table) (db : Database) : Type 0 where
  pub own : HasOwnTablesWith table db.schema
  -- its trees obey the schema
  pub sound : IsDatabase db
  pub keyed : AreKeyed own db

-- as it is made, and as each commit leaves it
abbrev pub HasDeskTables : Database → Type 0
HasDeskTables = HasDeskTablesWith ballot_table

-- a database with the tables of version 1, of which that of ballots may have further columns
pub record HasDeskTables1 (db : Database) : Type 0 where
  pub ballots : Table
  pub is : IsBallotTable1 ballots
  pub has : HasDeskTablesWith ballots db
