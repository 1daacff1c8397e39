-- A text that selects the columns of all rows of a table, wherever the schema has a table with these columns.
-- It is understood by their names, wherever they stand. So a later version may put further columns
-- anywhere, and its file is still reported as too new.
use Rattle.std.specs.Prelude.{◌≡◌, ◌≤◌, List, [], ℕ, None, Ok, length}
use Rattle.sqlite_value.specs.Order.{Row}
use Rattle.sqlite_trees.specs.Tree.{Trees}
use Rattle.sqlite_sql.specs.Program.{Ends}
use Rattle.sqlite_schema.specs.declared.command.Command.{Command}
use Rattle.sqlite_schema.specs.declared.command.Command.TheVariants.{Select}
use Rattle.sqlite_schema.specs.declared.schema.Schema.{Schema}
use Rattle.sqlite_schema.specs.declared.schema.Table.{Table}
use Rattle.sqlite_schema.specs.Program.{lets_of}
use Rattle.sqlite_resolve.specs.declared.compiled.Compiled.{Compiled}
use Rattle.sqlite.specs.Effect.{Database}
use Rattle.sqlite.specs.Listing.{understood}
use Rattle.gr_store.specs.Selects.{HasOneAnswer}
use Rattle.gr_store.specs.Tabled.{HasColumnsOf}

-- it returns nothing of a write, whatever the schema
abbrev pub ReturnsNothing : List ℕ → Type 0
ReturnsNothing text = (schema : Schema) (statement : Compiled) → understood schema text ≡ Ok statement
    → statement.returning ≡ None

-- it is one statement, with no parameters, and does not read the time
abbrev pub StandsAlone : List ℕ → Type 0
StandsAlone text = (schema : Schema) (statement : Compiled) → understood schema text ≡ Ok statement
    → (length text ≤ statement.tail) × (length statement.names ≡ 0) × (statement.formats ≡ [])

-- each recursion in it can end
abbrev pub CanEnd : Command → Type 0
CanEnd (Select query names) = (trees : Trees) (params : Row) → Ends trees params [] (lets_of query)
CanEnd _ = Unit {0}

-- The text is a query under the database's schema, each of whose recursions can end, and its answers differ in the
-- order of their rows alone: so a text that selects columns of a table, which has no recursion.
pub record HasPlainAnswer (text : List ℕ) (db : Database) : Type 0 where
  pub known : (statement : Compiled) × (understood db.schema text ≡ Ok statement) × CanEnd statement.command
  pub one : HasOneAnswer text db

pub record SelectsTable (text : List ℕ) (table : Table) : Type 0 where
  pub returns_nothing : ReturnsNothing text
  pub alone : StandsAlone text
  pub plain : (db : Database) → HasColumnsOf db.schema table → HasPlainAnswer text db
