-- That a schema has a table as one of its own, beside whatever else it has: no other table has its tree, and no unique
-- index stands on it but those of its keys.
use Rattle.std.specs.Prelude.{◌≡◌, ◌≢◌, ℕ, List, [], map, filter}
use Rattle.gr_core.specs.Columns.Stored.{TableName}
use Rattle.sqlite_value.specs.declared.keys.Order.{Order}
use Rattle.sqlite_value.specs.Keys.{plain}
use Rattle.sqlite_schema.specs.declared.schema.Schema.{Schema}
use Rattle.sqlite_schema.specs.declared.schema.Table.{Table}
use Rattle.sqlite_schema.specs.Rules.{guards}
use Rattle.sqlite_rules.specs.Lists.{Has}
use Rattle.gr_store.specs.Schema.{tables_with, ballot_table, ballot1_table}
use Rattle.gr_store.specs.Tabled.{HasColumns, HasTable, in_tree}

-- the columns and the order of each unique index of the table
abbrev pub unique_keys : Schema → Table → List (List ℕ × Order)
unique_keys schema table = map (λ i. (i.columns, i.order)) (filter (λ i. guards i table) schema.indexes)

-- its tree is that of no other table
abbrev pub HasOwnTree : Schema → Table → Type 0
HasOwnTree schema table = (other : Table) → Has schema.tables other → other.tree ≡ table.tree → other ≡ table

-- The schema has the table as its text defines it. Its tree is that of no other table, and its unique indexes are those
-- of its own keys: by a further one, a row that is put could take out a row with another key.
pub record HasOwnTable (schema : Schema) (table : Table) : Type 0 where
  pub has : HasTable schema table
  pub apart : HasOwnTree schema (in_tree table has.tree)
  pub keys : unique_keys schema (in_tree table has.tree) ≡ map (λ key. (key, plain)) table.uniques

-- the table, with its rows where the schema has them
abbrev pub in_its_tree : {schema : Schema} {table : Table} → HasOwnTable schema table → Table
in_its_tree {table = table} own = in_tree table own.has.tree

-- the six tables of a desk, each its own, beside whatever else the schema has; that of ballots is this one
abbrev pub HasOwnTablesWith : Table → Schema → Type 0
HasOwnTablesWith ballots schema = (name : TableName) → HasOwnTable schema (tables_with ballots name)

abbrev pub HasOwnTables : Schema → Type 0
HasOwnTables = HasOwnTablesWith ballot_table

-- A table for the ballots of version 1: it has the name and the columns that this version made, and maybe further
-- columns, which are of any kind and refer to no table.
pub record IsBallotTable1 (table : Table) : Type 0 where
  pub name : table.name ≡ ballot1_table.name
  pub columns : HasColumns table (map (λ c. c.name) ballot1_table.columns)
  pub free : table.references ≡ []

-- a table of whose tree no table has a foreign key
pub record IsLone (schema : Schema) (table : Table) : Type 0 where
  pub listed : Has schema.tables table
  pub free : (other : Table) → Has schema.tables other → other.tree ≡ table.tree → other.references ≡ []

-- a table whose tree is none of those of the six
abbrev pub IsBeside : {ballots : Table} {schema : Schema} → HasOwnTablesWith ballots schema → Table → Type 0
IsBeside own table = (name : TableName) → table.tree ≢ (own name).has.tree
