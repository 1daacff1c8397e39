-- The texts that put one row, and what such a text makes of a database, by the rows of trees.
use Rattle.std.specs.Prelude.{◌≡◌, ◌≢◌, ◌⊎◌, ℕ, Bool, false, List, [], ◌++◌, codes}
use Rattle.gr_core.specs.Columns.Fields.{Field}
use Rattle.sqlite_value.specs.Order.{Row}
use Rattle.sqlite_value.specs.Keys.{plain}
use Rattle.sqlite_trees.specs.declared.store.Shape.TheVariants as shape
use Rattle.sqlite_trees.specs.View.{IsShaped}
use Rattle.sqlite_schema.specs.declared.schema.Table.{Table}
use Rattle.sqlite_schema.specs.Rules.{agree}
use Rattle.sqlite_rules.specs.Lists.{Has}
use Rattle.sqlite.specs.Effect.{Database, IsDatabase}
use Rattle.gr_store.specs.Own.{IsLone}
use Rattle.gr_store.specs.Rows.{HasFields}

abbrev pub desk_put : List ℕ
desk_put = codes "INSERT OR REPLACE INTO desk (id, version, accepted, clock) VALUES (?1, ?2, ?3, ?4)"

abbrev pub developer_put : List ℕ
developer_put = codes "INSERT OR REPLACE INTO developer (login, name, active) VALUES (?1, ?2, ?3)"

abbrev pub resolution_put : List ℕ
resolution_put =
    codes "INSERT OR REPLACE INTO resolution (number, stage, start, changed, shift, called, days, devs, chosen)"
    ++ codes " VALUES (?1, ?2, ?3, ?4, ?5, ?6, ?7, ?8, ?9)"

abbrev pub choice_put : List ℕ
choice_put =
    codes "INSERT OR REPLACE INTO choice (resolution, number, kind, proposer, summary, body, ratio, introduced, "
    ++ codes "short, place) VALUES (?1, ?2, ?3, ?4, ?5, ?6, ?7, ?8, ?9, ?10)"

abbrev pub sponsor_put : List ℕ
sponsor_put = codes "INSERT OR REPLACE INTO sponsor (resolution, choice, login, active) VALUES (?1, ?2, ?3, ?4)"

abbrev pub ballot_put : List ℕ
ballot_put =
    codes "INSERT INTO ballot2 (resolution, login, ranks, receipt, received) VALUES (?1, ?2, ?3, ?4, ?5) "
    ++ codes "ON CONFLICT (resolution, login) DO UPDATE SET ranks = excluded.ranks, receipt = excluded.receipt, "
    ++ codes "received = excluded.received"

-- two rows of a table have one key, as SQL compares values
abbrev pub have_one_key : Table → Row → Row → Bool
have_one_key table a b = agree plain table.primary a table.primary b

-- the rowids of a tree are whole numbers that rise, and its rows have numbers and texts in their columns
pub record IsInOrder (table : Table) (rows : List Row) : Type 0 where
  pub shaped : IsShaped shape.Table rows
  pub known : (row : Row) → Has rows row → (fields : List Field) × HasFields table row fields

-- A row with these fields is in the tree, with the rows that stood there and have another key, and no row beside them.
-- The rowids are whole numbers that rise, so none of the rows comes twice. It leaves open what rowid the
-- row has, so that a replacement and an upsert are put under one definition.
pub record Replaces (table : Table) (fields : List Field) (old new : List Row) : Type 0 where
  pub row : Row
  pub has : HasFields table row fields
  pub there : Has new row
  pub stays : (other : Row) → Has old other → have_one_key table other row ≡ false → Has new other
  pub known : (other : Row) → Has new other
      → (other ≡ row) ⊎ (Has old other × (have_one_key table other row ≡ false))
  pub shaped : IsShaped shape.Table new

-- the row with these fields is put into the table, in the place of the one with its key
pub record Puts (table : Table) (fields : List Field) (old new : Database) : Type 0 where
  pub schema : new.schema ≡ old.schema
  -- a connection does not tell that a tree is in order, so that has to be known
  pub rows : IsInOrder table (old.trees table.tree)
      → Replaces table fields (old.trees table.tree) (new.trees table.tree)
  -- each other table with no foreign key keeps its rows: what refers to a row that is replaced may go with it
  pub others : (other : Table) → IsLone old.schema other → other.tree ≢ table.tree
      → new.trees other.tree ≡ old.trees other.tree
  -- where the table had no rows, each other table does
  pub first : old.trees table.tree ≡ [] → (other : Table) → Has old.schema.tables other → other.tree ≢ table.tree
      → new.trees other.tree ≡ old.trees other.tree
  -- the trees obey the schema
  pub sound : IsDatabase new
