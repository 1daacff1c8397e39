-- What a text that inserts one row in a table of its own does, where it says what a conflict shall do: the row is tried,
-- and that is all.
use Rattle.std.proofs.Common.{◌≡◌, ◌≢◌, ℕ, ◌+◌, ◌/◌, length, List, [], ◌∷◌, map, Bool, true, false, Option, None, Ok, Some, refl, sym, ap, subst, ◌∙◌, slice_get, not, ◌&&◌, ℤ, if◌then◌else◌}
use Rattle.sqlite_value.specs.Order.{Row}
use Rattle.sqlite_sql.specs.Term.{Term}
use Rattle.sqlite_schema.specs.declared.schema.Table.{Table}
use Rattle.sqlite_schema.specs.declared.schema.Schema.{Schema}
use Rattle.sqlite_schema.specs.declared.command.Conflict.{Conflict}
use Rattle.sqlite_schema.specs.declared.command.Source.TheVariants.{Values}
use Rattle.sqlite_schema.specs.declared.command.Upsert.{Upsert}
use Rattle.sqlite_schema.specs.declared.command.Command.TheVariants.{InsertOr}
use Rattle.sqlite_trees.specs.Tree.{Trees, rowid, put_row}
use Rattle.sqlite_trees.specs.View.{is_int}
use Rattle.sqlite_rules.specs.declared.error.Rowids.TheVariants.{Chosen, Given, Above}
use Rattle.sqlite_rules.specs.Cast.{cast_row, cast, cast_all}
use Rattle.sqlite_rules.specs.Edit.{taken_by, Applies, Edit, edit_of, is_taken, with_rowid}
use Rattle.sqlite_rules.specs.Lists.{Has}
use Rattle.sqlite_rules.proofs.ListLemmas.{all_has, has_got}
use Rattle.sqlite.specs.Effect.{IsDatabase, Database, value_rows}
use Rattle.sqlite.specs.Rows.{Task, Written, stamped, mended, Puts as PutsIn, Edited, Tries, nothing, TriesEach, Counts, InsertsOr, rowids_for}
use Rattle.sqlite.specs.Does.{Tally, Does}
use Rattle.sqlite.specs.declared.run.Mode.{Mode}
use Rattle.sqlite.specs.State.{State, ExecutesInside, mode_of}
use Rattle.sqlite.specs.Listing.{understood}
use Rattle.sqlite.proofs.Callers.{runs_as, IsPlain, command_of, statement_of, one_step}
use Rattle.gr_core.specs.Columns.Fields.{Field}
use Rattle.gr_store.specs.Tabled.{in_tree}
use Rattle.gr_store.specs.Own.{HasOwnTable}
use Rattle.gr_store.specs.Rows.{value_of, HasFields}
use Rattle.gr_store.proofs.Writing.CreateLemmas.{went, same_value}
use Rattle.gr_store.specs.Own.{IsLone}
use Rattle.gr_store.proofs.Writing.LoneTables.{one_step_lone, no_works}
use Rattle.sqlite_value.specs.declared.value.Value.{Value}
use Rattle.sqlite_value.specs.declared.value.Value.TheVariants.{Null, Int, Text}
use Rattle.sqlite_sql.specs.Ops.{unary}
use Rattle.sqlite_schema.specs.declared.schema.Kind.{Kind}
use Rattle.sqlite_schema.specs.declared.schema.Kind.TheVariants as kind
use Rattle.sqlite_schema.specs.declared.schema.Column.{Column}

pub is_free : (b : Bool) → not b && true ≡ true → b ≡ false
is_free true h = absurd (cc)
is_free false h = refl

-- a table of its own that has no foreign key
pub is_lone : (schema : Schema) (table : Table) (own : HasOwnTable schema table) → table.references ≡ []
    → IsLone schema (in_tree table own.has.tree)
is_lone schema table own free = record {
  listed = has_got schema.tables own.has.at (in_tree table own.has.tree) own.has.is;
  free = λ other listed same. ap (λ (t : Table). t.references) (own.apart other listed same) ∙ free;
}

-- each other table with no foreign key has the rows that it had
abbrev pub LoneStay : Task → Trees → Trees → Type 0
LoneStay task old new = (other : Table) → IsLone task.schema other → other.tree ≢ task.table.tree
    → new other.tree ≡ old other.tree

-- each other table has
abbrev pub AllStay : Task → Trees → Trees → Type 0
AllStay task old new = (other : Table) → Has task.schema.tables other → other.tree ≢ task.table.tree
    → new other.tree ≡ old other.tree

module _ (task : Task) (lone : IsLone task.schema task.table) where
  -- an edit of the table, and what the foreign keys of others make of it
  pub record Edits (db : Trees) (edit : Edit) (next : Trees) : Type 0 where
    pub mid : Trees
    pub it : Applies task.schema task.keys db edit mid
    pub same : next task.table.tree ≡ mid task.table.tree
    pub others : LoneStay task db next
    -- where no row is taken out, nothing is set off
    pub added : taken_by db edit ≡ [] → AllStay task db next

  pub edits : (db next : Trees) (edit : Edit) → edit.table ≡ task.table
      → Edited task.schema task.keys db edit (Ok next) → Edits db edit next
  edits db next edit is h =
      let step = one_step_lone task.schema task.keys db next edit h in
      record {
        mid = step.0;
        it = step.1;
        same = step.2 task.table lone;
        others = λ other alone apart. step.2 other alone ∙ stays step.0 step.1 other alone.listed apart;
        added = λ none other listed apart.
            let it = one_step task.schema task.keys db next edit (rw none (no_works task.schema task.keys 0
            edit.table.tree edit.news)) h in
            stays next it other listed apart;
      }
    where
      stays : (mid : Trees) → Applies task.schema task.keys db edit mid → (other : Table)
          → Has task.schema.tables other → other.tree ≢ task.table.tree → mid other.tree ≡ db other.tree
      stays mid it other listed apart =
          all_has _ task.schema.tables other it.tables listed (λ e. apart (e ∙ ap (λ (t : Table). t.tree) is))

  -- a row is put in, under a rowid that is free
  pub puts_in : (new : Row) (db : Trees) (w : Written) → cast_row task.table new ≡ new → PutsIn task new db (Ok w)
      → (w.trees task.table.tree ≡ put_row new (db task.table.tree))
      × (is_taken (db task.table.tree) new ≡ false) × LoneStay task db w.trees × AllStay task db w.trees
  puts_in new db w cast h =
      let edit = edit_of db task.table [] Given 0 (new ∷ []) in
      let step = went h in
      let it = edits db step.0 edit refl step.1 in
      let trees : w.trees ≡ step.0 = ap (λ (x : Written). x.trees) (same_value step.2) in
      let rows : it.mid task.table.tree ≡ put_row (cast_row task.table new) (db task.table.tree) = it.it.rows in
      let free : not (is_taken (db task.table.tree) (cast_row task.table new)) && true ≡ true = it.it.fresh in (
        ap (λ (t : Trees). t task.table.tree) trees ∙ it.same ∙ rows ∙ ap (λ r. put_row r (db task.table.tree)) cast,
        ap (is_taken (db task.table.tree)) (sym cast) ∙ is_free _ free,
        rw trees it.others,
        rw trees (it.added refl),
      )

module _ (task : Task) (way : Conflict) (clauses : List Upsert) where
  -- one row that was given, whose rowid is chosen where it has none
  tries_each : (source : Row) (rows : List Row) (top : ℤ) (db : Trees) (x : Written × ℤ) → rows ≡ source ∷ []
      → task.table.is_counted ≡ false → cast_row task.table (mended way task.table source) ≡ source
      → TriesEach task way clauses rows top (nothing db) (Ok x)
      → (w : Written) × Tries task way clauses (with_rowid Chosen (db task.table.tree) source) db (Ok w)
      × (x.0.trees ≡ w.trees)
  tries_each source rows top db x is plain kept h =
      let one = went (subst (λ all. TriesEach task way clauses all top (nothing db) (Ok x)) is h) in
      let rowids : rowids_for task.table top ≡ Chosen = ap (λ b. if b then Above top else Chosen) plain in
      let given = cast_row task.table (mended way task.table source) in
      let row : with_rowid (rowids_for task.table top) (db task.table.tree) given
      ≡ with_rowid Chosen (db task.table.tree) source
      = ap (λ how. with_rowid how (db task.table.tree) given) rowids
      ∙ ap (with_rowid Chosen (db task.table.tree)) kept in (
        one.0,
        subst (λ new. Tries task way clauses new db (Ok one.0)) row one.1,
        ap (λ (x : Written × ℤ). x.0.trees) (same_value one.2),
      )

  counts : (db next : Trees) (counter : Option Row) (top : ℤ) → task.table.is_counted ≡ false
      → Counts task db counter top (Ok next) → next ≡ db
  counts db next counter top plain h = same_value (rw plain at h)

  pub inserts : (terms : List Term) (width : ℕ) (source : Row) (db : Trees) (w : Written)
      → value_rows (stamped task.table task.params) width (length terms / width) terms ≡ source ∷ []
      → task.table.is_counted ≡ false → cast_row task.table (mended way task.table source) ≡ source
      → InsertsOr task way clauses (Values terms width) db (Ok w)
      → (tried : Written) × Tries task way clauses (with_rowid Chosen (db task.table.tree) source) db (Ok tried)
      × (w.trees ≡ tried.trees)
  inserts terms width source db w one plain kept h =
      let given = went h in
      let counted = went given.2 in
      let tried = went counted.2 in
      let it = tries_each source given.0 _ db tried.0 (given.1.1 ∙ one) plain kept tried.1 in
      let last = went tried.2 in
      let next : last.0 ≡ tried.0.0.trees = counts tried.0.0.trees last.0 counted.0 tried.0.1 plain last.1 in
      let wrote : w.trees ≡ last.0 = ap (λ (x : Written). x.trees) (same_value last.2) in
      (it.0, it.1, wrote ∙ next ∙ it.2)

-- ---- a text

-- what the text is under the schema
pub record IsInsertText (schema : Schema) (text : List ℕ) (at : ℕ) (way : Conflict) (terms : List Term)
    (clauses : List Upsert) : Type 0 where
  pub command : command_of (understood schema text) ≡ InsertOr at way (Values terms (length terms)) clauses
  pub plain : IsPlain (understood schema text)

-- the columns as a row of the tree, whose rowid is the key or has still to be chosen
abbrev pub laid_out : Option ℕ → Row → Row
laid_out None columns = Null ∷ columns
laid_out (Some key) [] = []
laid_out (Some key) (id ∷ columns) = id ∷ Null ∷ columns

-- the row that is given, with its rowid, where the fields are bound
abbrev pub source_of : Table → List Field → Row
source_of table fields = laid_out table.key (map value_of fields)

abbrev pub new_row : Table → List Field → List Row → Row
new_row table fields rows = with_rowid Chosen rows (source_of table fields)

-- what the text and the fields bound give to the table
pub record IsGiven (table : Table) (way : Conflict) (terms : List Term) (fields : List Field) : Type 0 where
  pub uncounted : table.is_counted ≡ false
  pub wide : length terms ≡ length table.columns + 1
  pub one : value_rows (stamped table (map value_of fields)) (length table.columns + 1)
      (length terms / (length table.columns + 1)) terms ≡ source_of table fields ∷ []
  -- the columns keep the values as they are, whatever rowid is chosen
  pub cast : (rows : List Row) → cast_row table (new_row table fields rows) ≡ new_row table fields rows
  pub mended : cast_row table (mended way table (source_of table fields)) ≡ source_of table fields
  pub number : (rows : List Row) → is_int (rowid (new_row table fields rows)) ≡ true
  pub has : (rows : List Row) → HasFields table (new_row table fields rows) fields

-- what a statement on the table works on
abbrev pub task_of : Schema → Option ℕ → Mode → Table → List Field → Task
task_of schema limit mode table fields = record {
  limit = limit;
  keys = mode.keys;
  schema = schema;
  table = table;
  params = map value_of fields;
}

-- the row has been tried, and nothing else was done
pub record HasTried (schema : Schema) (limit : Option ℕ) (mode : Mode) (table : Table) (way : Conflict)
    (clauses : List Upsert) (fields : List Field) (old new : Database) : Type 0 where
  pub is : new.schema ≡ schema
  pub tried : Written
  pub tries : Tries (task_of schema limit mode table fields) way clauses
      (new_row table fields (old.trees table.tree)) old.trees (Ok tried)
  pub trees : new.trees ≡ tried.trees

does_try : (schema : Schema) (at : ℕ) (table : Table) (way : Conflict) (terms : List Term) (clauses : List Upsert)
    (fields : List Field) (limit : Option ℕ) (mode : Mode) (db : Database) (text : List ℕ) (tally : Tally)
    (after : Database) → slice_get schema.tables at ≡ Some table → IsGiven table way terms fields
    → db.schema ≡ schema
    → Does limit mode (map value_of fields) db text None
    (InsertOr at way (Values terms (length table.columns + 1)) clauses) (Ok (tally, after))
    → HasTried schema limit mode table way clauses fields db after
does_try schema at table way terms clauses fields limit mode db text tally after place row has h =
    let task = task_of schema limit mode table fields in
    let done = went (rw (has, place) at h) in
    let it = inserts task way clauses terms (length table.columns + 1) (source_of table fields) db.trees done.0 row.one
    row.uncounted row.mended done.1 in
    let ended = went (went done.2).2 in
    let now : after ≡ record { schema = schema; trees = done.0.trees }
    = ap (λ (p : Tally × Database). p.1) (same_value ended.2) in
    record {
      is = ap (λ (d : Database). d.schema) now;
      tried = it.0;
      tries = it.1;
      trees = ap (λ (d : Database). d.trees) now ∙ it.2;
    }

pub has_tried : (schema : Schema) (text : List ℕ) (at : ℕ) (table : Table) (way : Conflict) (terms : List Term)
    (clauses : List Upsert) (fields : List Field) (old new : State) (count : ℕ)
    → IsInsertText schema text at way terms clauses → slice_get schema.tables at ≡ Some table
    → IsGiven table way terms fields → old.now.schema ≡ schema
    → ExecutesInside 0 text (map value_of fields) old new (Ok count)
    → HasTried schema old.step_limit (mode_of old) table way clauses fields old.now new.now × IsDatabase new.now
has_tried schema text at table way terms clauses fields old new count is place row has h =
    let command = InsertOr at way (Values terms (length table.columns + 1)) clauses in
    let means : command_of (understood schema text) ≡ command
    = is.command ∙ ap (λ n. InsertOr at way (Values terms n) clauses) row.wide in
    let w = runs_as text (map value_of fields) old new schema has command means is.plain count h.0 in (
      does_try schema at table way terms clauses fields old.step_limit (mode_of old) old.now
          (statement_of text (understood schema text)) w.tally new.now place row has w.changed,
      w.sound,
    )

-- ---- columns that keep their values

either : (b : Bool) (x : Value) → (if b then x else x) ≡ x
either true x = refl
either false x = refl

abbrev pub is_kept : Kind → Value → Bool
is_kept kind.Integer Null = true
is_kept kind.Integer (Int n) = true
is_kept kind.Text (Text t) = true
is_kept _ _ = false

abbrev pub are_kept : List Column → Row → Bool
are_kept [] [] = true
are_kept [] (v ∷ vs) = false
are_kept (c ∷ cs) [] = false
are_kept (c ∷ cs) (v ∷ vs) = is_kept c.kind v && are_kept cs vs

pub cast_kept : (k : Kind) (v : Value) → is_kept k v ≡ true → cast k v ≡ v
unfolding unary
cast_kept kind.Integer Null h = either _ Null
cast_kept kind.Integer (Int n) h = either _ (Int n)
cast_kept kind.Text (Text t) h = refl
cast_kept _ _ h = absurd (cc)

both_kept : (a b : Bool) → a && b ≡ true → (a ≡ true) × (b ≡ true)
both_kept true true h = (refl, refl)
both_kept true false h = absurd (cc)
both_kept false b h = absurd (cc)

pub cast_all_kept : (cs : List Column) (vs : Row) → are_kept cs vs ≡ true → cast_all cs vs ≡ vs
cast_all_kept [] [] h = refl
cast_all_kept [] (v ∷ vs) h = absurd (cc)
cast_all_kept (c ∷ cs) [] h = absurd (cc)
cast_all_kept (c ∷ cs) (v ∷ vs) h =
    let it = both_kept (is_kept c.kind v) (are_kept cs vs) h in
    ap (λ x. x ∷ cast_all cs vs) (cast_kept c.kind v it.0) ∙ ap (λ xs. v ∷ xs) (cast_all_kept cs vs it.1)

pub kept_source : (table : Table) (v : Value) (vs : Row) → is_kept kind.Integer v ≡ true
    → are_kept table.columns vs ≡ true → cast_row table (v ∷ vs) ≡ v ∷ vs
kept_source table v vs first rest =
    ap (λ x. x ∷ cast_all table.columns vs) (cast_kept kind.Integer v first)
    ∙ ap (λ xs. v ∷ xs) (cast_all_kept table.columns vs rest)
