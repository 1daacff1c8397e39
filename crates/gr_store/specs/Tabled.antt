-- That a schema has a table, beside whatever else it has.
use Rattle.std.specs.Prelude.{◌≡◌, ◌<◌, ℕ, ◌^◌, ◌==◌, List, map, Some, IsSome, find, slice_get}
use Rattle.std.specs.List.{AllByRecursion}
use Rattle.sqlite_schema.specs.declared.schema.Schema.{Schema}
use Rattle.sqlite_schema.specs.declared.schema.Table.{Table}
use Rattle.gr_core.specs.Columns.Stored.{TableName}
use Rattle.gr_store.specs.Schema.{tables_with, ballot_table, ballot1_table}
use Rattle.sqlite_schema.specs.Names.{table_named, column_named}

-- the table, with its rows in this tree
abbrev pub in_tree : Table → ℕ → Table
in_tree table tree = record table { tree = tree }

-- the schema has this table under its name, wherever its tree is
pub record HasTable (schema : Schema) (table : Table) : Type 0 where
  pub at : ℕ
  pub tree : ℕ
  pub named : table_named schema table.name ≡ Some at
  pub is : slice_get schema.tables at ≡ Some (in_tree table tree)
  -- no table before it has its tree, by which the types of its columns are found
  pub first : find (λ t. t.tree == tree) schema.tables ≡ Some (in_tree table tree)
  -- the trees from here on are those of tables that a statement computes
  pub below : tree < 2 ^ 31

-- the table has a column of each of these names
abbrev pub HasColumns : Table → List (List ℕ) → Type 0
HasColumns table names = AllByRecursion (λ name. IsSome (column_named table name)) names

-- The schema has a table under this one's name, and in it a column of each of this one's names. There may be further
-- columns, before these and after them, and all may be of any kind.
pub record HasColumnsOf (schema : Schema) (table : Table) : Type 0 where
  pub at : ℕ
  pub other : Table
  pub named : table_named schema table.name ≡ Some at
  pub is : slice_get schema.tables at ≡ Some other
  pub columns : HasColumns other (map (λ c. c.name) table.columns)
  -- the same of its tree as above
  pub first : find (λ t. t.tree == other.tree) schema.tables ≡ Some other
  pub below : other.tree < 2 ^ 31

-- the schema has the six tables of a desk, whatever else it has
abbrev pub HasTables : Schema → Type 0
HasTables schema = (name : TableName) → HasTable schema (tables_with ballot_table name)

-- the schema has the six tables of a desk with their columns, whatever else these and it have; that of ballots is this
-- one
abbrev pub HasColumnsWith : Table → Schema → Type 0
HasColumnsWith ballots schema = (name : TableName) → HasColumnsOf schema (tables_with ballots name)

-- those of version 1
abbrev pub HasColumns1 : Schema → Type 0
HasColumns1 = HasColumnsWith ballot1_table
