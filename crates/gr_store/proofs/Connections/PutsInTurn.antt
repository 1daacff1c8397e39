-- Rows put one after the other: the schema stays, and so does what stands beside the six tables.
use Rattle.gr_core.specs.Columns.Stored.{DeskTable, DeveloperTable, ResolutionTable, ChoiceTable}
use Rattle.gr_core.specs.Columns.Stored.{SponsorTable, BallotTable}
use Rattle.std.proofs.Common.{◌≡◌, ◌≢◌, List, [], ◌∷◌, ◌++◌, refl, ap, ◌∙◌, subst, sym}
use Rattle.sqlite.specs.Effect.{Database, IsDatabase}
use Rattle.sqlite_schema.specs.declared.schema.Schema.{Schema}
use Rattle.sqlite_schema.specs.declared.schema.Table.{Table}
use Rattle.gr_core.specs.Machine.Row as core
use Rattle.gr_store.specs.Own.{HasOwnTables, IsLone, IsBeside}
use Rattle.gr_store.specs.Commits.{table_for, PutsRow, PutsAll, KeepsBeside}

module _ {schema : Schema} (own : HasOwnTables schema) where
  -- one row more
  pub puts_last : (rows : List core.RowModel) (row : core.RowModel) (old between new : Database) → PutsAll own rows old between
      → PutsRow own row between new → PutsAll own (rows ++ row ∷ []) old new
  puts_last [] row old between new puts last = (new, subst (λ d. PutsRow own row d new) puts last, refl)
  puts_last (first ∷ rows) row old between new puts last =
      (puts.0, puts.1, puts_last rows row puts.0 between new puts.2 last)

  -- the schema stays
  pub puts_schema : (rows : List core.RowModel) (old new : Database) → PutsAll own rows old new → new.schema ≡ old.schema
  puts_schema [] old new puts = ap (λ (d : Database). d.schema) puts
  puts_schema (row ∷ rows) old new puts = puts_schema rows puts.0 new puts.2 ∙ puts.1.schema

  -- the trees obey the schema still
  pub puts_sound : (rows : List core.RowModel) (old new : Database) → PutsAll own rows old new → IsDatabase old
      → IsDatabase new
  puts_sound [] old new puts sound = subst IsDatabase (sym puts) sound
  puts_sound (row ∷ rows) old new puts sound = puts_sound rows puts.0 new puts.2 puts.1.sound

  -- a table beside the six is not that of the row
  other_tree : (row : core.RowModel) (other : Table) → IsBeside own other → other.tree ≢ (table_for own row).tree
  other_tree (core.HeaderOf header) other beside = beside DeskTable
  other_tree (core.DeveloperOf login row) other beside = beside DeveloperTable
  other_tree (core.ResolutionOf number resolution) other beside = beside ResolutionTable
  other_tree (core.ChoiceOf key row) other beside = beside ChoiceTable
  other_tree (core.SponsorOf key sponsorship) other beside = beside SponsorTable
  other_tree (core.BallotOf key row) other beside = beside BallotTable

  -- and keeps its rows, if it has no foreign key
  puts_beside : (rows : List core.RowModel) (old new : Database) → PutsAll own rows old new → (other : Table)
      → IsLone old.schema other → IsBeside own other → new.trees other.tree ≡ old.trees other.tree
  puts_beside [] old new puts other lone beside = ap (λ (d : Database). d.trees other.tree) puts
  puts_beside (row ∷ rows) old new puts other lone beside =
      puts_beside rows puts.0 new puts.2 other (subst (λ c. IsLone c other) (sym puts.1.schema) lone) beside
      ∙ puts.1.others other lone (other_tree row other beside)

  -- what is beside the six tables is kept
  pub puts_keep : (rows : List core.RowModel) (old new : Database) → PutsAll own rows old new → KeepsBeside own old new
  puts_keep rows old new puts = record {
    schema_is = puts_schema rows old new puts;
    rows = λ other lone beside. puts_beside rows old new puts other lone beside;
  }
