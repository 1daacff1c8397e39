-- A desk that is held stays so when rows are put. A new one is held, and so is what a crash leaves.
use Rattle.gr_core.specs.Columns.Stored.{DeskTable, DeveloperTable, ResolutionTable, ChoiceTable}
use Rattle.gr_core.specs.Columns.Stored.{SponsorTable, BallotTable}
use Rattle.std.proofs.Common.{slice_get, Some, ◌≡◌, List, refl, sym, subst, ◌∙◌}
use Rattle.sqlite_trees.specs.Objects.{catalog_tree}
use Rattle.sqlite_schema.specs.declared.schema.Table.{Table}
use Rattle.sqlite_schema.specs.declared.schema.Schema.{Schema}
use Rattle.sqlite_catalog.specs.Listing.{Lists}
use Rattle.sqlite_catalog.proofs.ReadLemmas.{lists_once}
use Rattle.sqlite.specs.Effect.{Database, IsDatabase}
use Rattle.gr_core.specs.Machine.Row as core
use Rattle.gr_core.specs.Machine.Row.{put_all}
use Rattle.gr_core.specs.Desks.State.{State, new_state}
use Rattle.sqlite_trees.specs.Tree.{Trees}
use Rattle.gr_store.specs.Commits.{PutsAll, HasPut, IsNewDesk, HasNewDesk, LeavesDesk, LeavesNewDesk, LeavesBeside}
use Rattle.gr_store.proofs.Connections.PutsInTurn.{puts_schema, puts_sound, puts_keep}
use Rattle.gr_store.proofs.TableRows.MapInTree.{in_order}
use Rattle.gr_store.proofs.Reading.NamedColumns.{find_itself}
use Rattle.gr_store.proofs.StoredDesks.DeskTrees.{header_held, puts_rows, new_desk, new_desk1}
use Rattle.gr_core.specs.Columns.Fields.{Field}
use Rattle.gr_core.specs.Columns.Fields.{developer_fields, resolution_fields, choice_fields, sponsor_fields, ballot_fields}
use Rattle.gr_core.specs.Columns.Rows1.{ballot_fields1}
use Rattle.gr_store.specs.Schema.{ballot_table, ballot1_table}
use Rattle.gr_store.specs.Own.{HasOwnTables, HasOwnTablesWith, IsBallotTable1, in_its_tree}
use Rattle.gr_store.specs.Makes.{AddsDesk}
use Rattle.gr_store.specs.Selects.{ballot_select, ballot1_select}
use Rattle.gr_store.specs.Version1.{Holds1, IsNewDesk1, new_state1}
use Rattle.gr_core.specs.Parts.Ballot.{BallotModel}
use Rattle.gr_core.specs.Parts.Key.{BallotKey}
use Rattle.gr_store.specs.Holds.{Holds, AreKeyed, HasDeskTables, HasDeskTablesWith, HasDeskTables1}
use Rattle.gr_store.proofs.TableRows.StateInTrees.{HasTrees, HasTreesBy}
use Rattle.gr_store.proofs.Writing.CreateLemmas.{still_there}
use Rattle.gr_store.proofs.Reading.SelectAnswers.{ballot_selected_any, ballot_answered_any}
use Rattle.gr_store.proofs.Reading.SelectAnswers.{ballot1_selected_any, ballot1_answered_any}
use Rattle.gr_store.proofs.StoredDesks.TreesAndAnswers.{holds_by, has_trees}

-- trees that have the rows of a state are keyed
pub trees_keyed : (fields : BallotKey × BallotModel → List Field) {table : Table} {schema : Schema}
    (own : HasOwnTablesWith table schema) (s : State) (db : Database) → HasTreesBy fields own s db → AreKeyed own db
trees_keyed fields own s db held DeskTable = (header_held (own DeskTable).has.tree s.header _ held.desk).in_order.shaped
trees_keyed fields own s db held DeveloperTable =
    (in_order (in_its_tree (own DeveloperTable)) developer_fields s.developers _ held.developers).shaped
trees_keyed fields own s db held ResolutionTable =
    (in_order (in_its_tree (own ResolutionTable)) resolution_fields s.resolutions _ held.resolutions).shaped
trees_keyed fields own s db held ChoiceTable = (in_order (in_its_tree (own ChoiceTable)) choice_fields s.choices _ held.choices).shaped
trees_keyed fields own s db held SponsorTable =
    (in_order (in_its_tree (own SponsorTable)) sponsor_fields s.sponsors _ held.sponsors).shaped
trees_keyed fields own s db held BallotTable = (in_order (in_its_tree (own BallotTable)) fields s.ballots _ held.ballots).shaped

-- what is said under one name of a schema is so under another
moved : (fields : BallotKey × BallotModel → List Field) (table : Table) (schema : Schema) (own : HasOwnTablesWith table schema)
    (s : State) (db : Database) → db.schema ≡ schema → HasTreesBy fields own s db
    → (its : HasOwnTablesWith table db.schema) × HasTreesBy fields its s db
moved fields table schema own s db has held =
    subst (λ c. (own : HasOwnTablesWith table c) → HasTreesBy fields own s db
    → (its : HasOwnTablesWith table db.schema) × HasTreesBy fields its s db) has (λ own held. (own, held)) own held

-- trees tell the schema that they obey
schema_told : (db other : Database) → IsDatabase db → IsDatabase other → db.trees ≡ other.trees → db.schema ≡ other.schema
schema_told db other sound again same =
    lists_once (db.trees catalog_tree) db.schema other.schema sound.lists
    (subst (λ (trees : Trees). Lists (trees catalog_tree) other.schema) (sym same) again.lists)

same_database : (db other : Database) → db.schema ≡ other.schema → db.trees ≡ other.trees → db ≡ other
same_database db other schema trees =
    subst (λ (c : Schema). db ≡ record { schema = c; trees = other.trees }) schema
    (subst (λ (t : Trees). db ≡ record { schema = db.schema; trees = t }) trees refl)

-- sound databases with the same trees are one
pub one_database : (db other : Database) → IsDatabase db → IsDatabase other → db.trees ≡ other.trees → db ≡ other
one_database db other sound again same = same_database db other (schema_told db other sound again same) same

-- a database with the trees of another one that holds a state, holds it too
pub left_held : (s : State) (db : Database) → IsDatabase db → LeavesDesk s db.trees → HasDeskTables db × Holds s db
left_held s db sound left =
    subst (λ (d : Database). HasDeskTables d × Holds s d)
    (sym (one_database db left.0 sound left.1.sound left.3)) (left.1, left.2)

-- ==== over commits

-- the table of ballots that version 1 made is one
ballots_made1 : IsBallotTable1 ballot1_table
ballots_made1 = record { name = refl; columns = find_itself ballot1_table.columns 0; free = refl }

-- a sound database whose trees have the rows of a state has a desk's tables, and holds it
pub kept_by : (schema : Schema) (own : HasOwnTables schema) (s : State) (db : Database) → db.schema ≡ schema → IsDatabase db
    → HasTrees own s db → HasDeskTables db × Holds s db
kept_by schema own s db has sound held =
    let it = moved ballot_fields ballot_table schema own s db has held in (
      record { own = it.0; sound = sound; keyed = trees_keyed ballot_fields it.0 s db it.1 },
      holds_by ballot_select ballot_fields s db it.0 (λ rows h. ballot_selected_any db rows (it.0 BallotTable).has h)
          (ballot_answered_any db (it.0 BallotTable).has) it.1,
    )

-- and one of version 1, as that version made its tables
pub kept_by1 : (schema : Schema) (own : HasOwnTablesWith ballot1_table schema) (s : State) (db : Database) → db.schema ≡ schema
    → IsDatabase db → HasTreesBy ballot_fields1 own s db → HasDeskTables1 db × Holds1 s db
kept_by1 schema own s db has sound held =
    let it = moved ballot_fields1 ballot1_table schema own s db has held in
    let tables : HasDeskTablesWith ballot1_table db
    = record { own = it.0; sound = sound; keyed = trees_keyed ballot_fields1 it.0 s db it.1 } in (
      record { ballots = ballot1_table; is = ballots_made1; has = tables },
      holds_by ballot1_select ballot_fields1 s db it.0 (λ rows h. ballot1_selected_any db rows (it.0 BallotTable).has h)
          (ballot1_answered_any db (it.0 BallotTable).has) it.1,
    )

pub puts_hold : (s : State) (rows : List core.RowModel) (old new : Database) (made : HasDeskTables old) → Holds s old
    → PutsAll made.own rows old new → HasDeskTables new × Holds (put_all s rows) new
puts_hold s rows old new made held puts =
    let own : HasOwnTables old.schema = made.own in
    let after = puts_rows own s rows old new refl (has_trees ballot_select ballot_fields s old
    held.rows own (λ rows h. ballot_selected_any old rows (own BallotTable).has h) made.keyed held.are
    (held.selected DeskTable) (λ name other. held.selected name)) puts in
    kept_by old.schema own (put_all s rows) new (puts_schema own rows old new puts)
    (puts_sound own rows old new puts made.sound) after

-- a new desk
pub new_holds : (old db : Database) → IsNewDesk old db → HasDeskTables db × Holds new_state db
new_holds old db new =
    let made : Database = new.made in
    kept_by made.schema new.is.own new_state db new.header.schema new.header.sound (new_desk old db new)

-- one of version 1
pub new_holds1 : (old db : Database) → IsNewDesk1 old db → HasDeskTables1 db × Holds1 new_state1 db
new_holds1 old db new =
    let made : Database = new.made in
    kept_by1 made.schema new.tables.own new_state1 db new.header.schema new.header.sound (new_desk1 old db new)

-- what was there is kept, and nothing else is added
pub new_adds : (old db : Database) → IsNewDesk old db → AddsDesk old db
new_adds old db new =
    let made : Database = new.made in
    let kept = new.is.adds.kept in
    record {
      kept = record {
        tables = λ at table h. subst (λ (s : Schema). slice_get s.tables at ≡ Some table) (sym new.header.schema)
            (kept.tables at table h);
        rows = λ table h.
            new.header.first (new.is.empty DeskTable) table (still_there old made kept table h) (new.is.fresh table h DeskTable)
            ∙ kept.rows table h;
      };
      alone = λ has. new.header.schema ∙ new.is.adds.alone has;
    }

-- ==== what a crash may leave

pub leaves_new : (old : Database) (trees : Trees) → HasNewDesk old trees → LeavesNewDesk old trees
leaves_new old trees left =
    let it = new_holds old left.0 left.1 in
    (left.0, it.0, it.1, new_adds old left.0 left.1, left.2)

pub leaves_put : (s : State) (rows : List core.RowModel) (old : Database) (made : HasDeskTables old) → Holds s old
    → (trees : Trees) → HasPut made.own rows old trees → LeavesDesk (put_all s rows) trees
leaves_put s rows old made held trees left =
    let it = puts_hold s rows old left.0 made held left.1 in
    (left.0, it.0, it.1, left.2)

pub leaves_beside : (rows : List core.RowModel) (old : Database) (made : HasDeskTables old) (trees : Trees)
    → HasPut made.own rows old trees → LeavesBeside made.own old trees
leaves_beside rows old made trees left = (
  left.0,
  puts_sound made.own rows old left.0 left.1 made.sound,
  puts_keep made.own rows old left.0 left.1,
  left.2,
)
