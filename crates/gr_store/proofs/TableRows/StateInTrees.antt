-- When the trees of a database have the rows of a state.
use Rattle.std.specs.Prelude.{◌≡◌, IsTrue, List, [], ◌∷◌, Some}
use Rattle.std.specs.List.{AllByRecursion}
use Rattle.std.specs.declared.cmp.Ordering.{Ordering}
use Rattle.std.specs.FinMap.{FinMap, get}
use Rattle.gr_core.specs.declared.header.Header.{Header}
use Rattle.gr_core.specs.Columns.Fields.{Field, header_fields, developer_fields, resolution_fields, choice_fields}
use Rattle.gr_core.specs.Columns.Fields.{sponsor_fields, ballot_fields}
use Rattle.gr_core.specs.Columns.Stored.{DeskTable, DeveloperTable, ResolutionTable, ChoiceTable, SponsorTable}
use Rattle.gr_core.specs.Columns.Stored.{BallotTable}
use Rattle.gr_core.specs.Desks.State.{State}
use Rattle.gr_core.specs.Parts.Ballot.{BallotModel}
use Rattle.gr_core.specs.Parts.Key.{BallotKey}
use Rattle.sqlite_value.specs.Order.{Row}
use Rattle.sqlite_trees.specs.Tree.{IsTable, rowid}
use Rattle.sqlite_trees.specs.View.{is_int}
use Rattle.sqlite_schema.specs.declared.schema.Schema.{Schema}
use Rattle.sqlite_schema.specs.declared.schema.Table.{Table}
use Rattle.sqlite_rules.specs.Lists.{Has}
use Rattle.sqlite.specs.Effect.{Database}
use Rattle.gr_store.specs.Own.{HasOwnTable, HasOwnTables, HasOwnTablesWith, in_its_tree}
use Rattle.gr_store.specs.Rows.{columns_of, HasFields}

-- a tree has the rows of the map's entries, each once
pub record HoldsMap {K V : Type 0} {cmp : K → K → Ordering} (table : Table) (fields : K × V → List Field)
    (m : FinMap cmp V)
    (rows : List Row) : Type 0 where
  pub ordered : IsTable rows
  pub numbered : AllByRecursion (λ row. IsTrue (is_int (rowid row))) rows
  pub known : (row : Row) → Has rows row → (key : K) × (value : V) × (get m key ≡ Some value) × HasFields table row
      (fields (key, value))
  pub whole : (key : K) (value : V) → get m key ≡ Some value → (row : Row) × Has rows row × HasFields table row
      (fields (key, value))
  pub once : (a b : Row) → Has rows a → Has rows b → columns_of table a ≡ columns_of table b → a ≡ b

-- the table `desk` has one row, that of the header
pub record HoldsHeader (table : Table) (header : Header) (rows : List Row) : Type 0 where
  pub row : Row
  pub alone : rows ≡ row ∷ []
  pub numbered : IsTrue (is_int (rowid row))
  pub fields : HasFields table row (header_fields header)

-- the tree of a table has the rows of the map's entries
abbrev pub HoldsTable : {K V : Type 0} {cmp : K → K → Ordering} {schema : Schema} {table : Table}
    → HasOwnTable schema table → (K × V → List Field) → FinMap cmp V → Database → Type 0
HoldsTable own fields m db = HoldsMap (in_its_tree own) fields m (db.trees own.has.tree)

-- the trees of the tables beside that of ballots have the rows of the state
pub record HasOtherTrees {table : Table} {schema : Schema} (own : HasOwnTablesWith table schema) (s : State)
    (db : Database) : Type 0 where
  pub desk : HoldsHeader (in_its_tree (own DeskTable)) s.header (db.trees (own DeskTable).has.tree)
  pub developers : HoldsTable (own DeveloperTable) developer_fields s.developers db
  pub resolutions : HoldsTable (own ResolutionTable) resolution_fields s.resolutions db
  pub choices : HoldsTable (own ChoiceTable) choice_fields s.choices db
  pub sponsors : HoldsTable (own SponsorTable) sponsor_fields s.sponsors db

-- the trees of the six tables have the rows of the state, those of its ballots with these fields
pub record HasTreesBy (fields : BallotKey × BallotModel → List Field) {table : Table} {schema : Schema}
    (own : HasOwnTablesWith table schema) (s : State) (db : Database) : Type 0 where
  pub desk : HoldsHeader (in_its_tree (own DeskTable)) s.header (db.trees (own DeskTable).has.tree)
  pub developers : HoldsTable (own DeveloperTable) developer_fields s.developers db
  pub resolutions : HoldsTable (own ResolutionTable) resolution_fields s.resolutions db
  pub choices : HoldsTable (own ChoiceTable) choice_fields s.choices db
  pub sponsors : HoldsTable (own SponsorTable) sponsor_fields s.sponsors db
  pub ballots : HoldsTable (own BallotTable) fields s.ballots db

abbrev pub HasTrees : {schema : Schema} → HasOwnTables schema → State → Database → Type 0
HasTrees = HasTreesBy ballot_fields
