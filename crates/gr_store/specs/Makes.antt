-- What a text that makes a table makes of a database, whatever else it has.
use Rattle.std.specs.Prelude.{◌≡◌, ◌≢◌, ℕ, false, [], Some, slice_get}
use Rattle.gr_core.specs.Columns.Stored.{TableName}
use Rattle.sqlite_schema.specs.declared.schema.Schema.{Schema}
use Rattle.sqlite_schema.specs.declared.schema.Table.{Table}
use Rattle.sqlite_catalog.specs.Change.{created}
use Rattle.sqlite_rules.specs.Lists.{Has}
use Rattle.sqlite.specs.Does.{lacks_sequence}
use Rattle.sqlite.specs.Effect.{Database, IsDatabase}
use Rattle.gr_store.specs.Schema.{desk_table, developer_table, resolution_table, choice_table, sponsor_table}
use Rattle.gr_store.specs.Schema.{ballot_table}
use Rattle.gr_store.specs.Own.{HasOwnTable, HasOwnTables, IsBeside}

-- each table is there still, in its place and with its rows
pub record KeepsTables (old new : Database) : Type 0 where
  pub tables : (at : ℕ) (table : Table) → slice_get old.schema.tables at ≡ Some table
      → slice_get new.schema.tables at ≡ Some table
  pub rows : (table : Table) → Has old.schema.tables table → new.trees table.tree ≡ old.trees table.tree

-- A table with no rows is added, as one of its own, in a tree that no table had; each table that was there is kept, and
-- each that the schema had as its own, it still has so.
pub record MakesTable (table : Table) (old new : Database) : Type 0 where
  pub own : HasOwnTable new.schema table
  pub empty : new.trees own.has.tree ≡ []
  pub fresh : (other : Table) → Has old.schema.tables other → other.tree ≢ own.has.tree
  pub kept : KeepsTables old new
  pub still : (other : Table) (was : HasOwnTable old.schema other)
      → (now : HasOwnTable new.schema other) × (now.has.tree ≡ was.has.tree)
  -- Nothing else is made. Only where a table counts its rows, and there is no table of the counts, that one may be.
  pub alone : lacks_sequence old.schema ≡ false → new.schema ≡ created old.schema table
  -- the trees obey the schema
  pub sound : IsDatabase new

-- the schema with the six tables made in it, in their order
abbrev pub with_desk : Schema → Schema
with_desk schema = created (created (created (created (created (created schema desk_table) developer_table)
    resolution_table) choice_table) sponsor_table) ballot_table

-- The six tables are added, and nothing else: each table, index and view is there still, and each table with its rows.
-- SQLite makes `sqlite_sequence` with the first table that counts its rows, so no schema of its lacks it.
pub record AddsDesk (old new : Database) : Type 0 where
  pub kept : KeepsTables old new
  pub alone : lacks_sequence old.schema ≡ false → new.schema ≡ with_desk old.schema

-- the six tables of a desk are added, and have no rows
pub record MakesDesk (old new : Database) : Type 0 where
  pub own : HasOwnTables new.schema
  pub empty : (name : TableName) → new.trees (own name).has.tree ≡ []
  -- in trees that no table had
  pub fresh : (other : Table) → Has old.schema.tables other → IsBeside own other
  pub adds : AddsDesk old new
  pub sound : IsDatabase new
