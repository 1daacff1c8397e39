-- What a text that takes all rows out of a table makes of a database.
use Rattle.std.specs.Prelude.{◌≡◌, ◌≢◌, ℕ, List, [], codes}
use Rattle.sqlite_trees.specs.declared.store.Shape.TheVariants as shape
use Rattle.sqlite_trees.specs.View.{IsShaped}
use Rattle.sqlite_schema.specs.declared.schema.Table.{Table}
use Rattle.sqlite.specs.Effect.{Database, IsDatabase}
use Rattle.gr_store.specs.Own.{IsLone}

-- the text that takes all ballots of version 1 out
abbrev pub ballot1_clear : List ℕ
ballot1_clear = codes "DELETE FROM ballot"

-- All rows of the table are taken out, and each other table with no foreign key keeps its rows: what refers to a row
-- that is gone may go with it.
pub record Clears (table : Table) (old new : Database) : Type 0 where
  pub schema : new.schema ≡ old.schema
  -- a connection does not tell that a tree is in order, so that has to be known
  pub empty : IsShaped shape.Table (old.trees table.tree) → new.trees table.tree ≡ []
  pub others : (other : Table) → IsLone old.schema other → other.tree ≢ table.tree
      → new.trees other.tree ≡ old.trees other.tree
  -- the trees obey the schema
  pub sound : IsDatabase new
