-- What `INSERT OR REPLACE` of one row in a table of its own does.
use Rattle.std.proofs.Common.{◌≡◌, ℕ, List, [], ◌∷◌, map, filter, Bool, true, false, ◌||◌, None, Some, Ok, Err, Result, OnOk, refl, sym, ap, subst, ◌∙◌, inl, inr, true≢false}
use Rattle.std.specs.List.{list_any}
use Rattle.std.proofs.Math.Bool.{or-false}
use Rattle.std.proofs.lemmas.Bool.{cases_Bool}
use Rattle.sqlite_value.specs.declared.keys.Order.{Order}
use Rattle.sqlite_value.specs.Order.{Row, value_cmp}
use Rattle.sqlite_value.specs.Keys.{plain}
use Rattle.sqlite_sql.specs.Term.{Term}
use Rattle.sqlite_trees.specs.declared.store.Shape.TheVariants as shape
use Rattle.sqlite_trees.specs.Tree.{Trees, rowid, put_row}
use Rattle.sqlite_trees.specs.View.{IsShaped}
use Rattle.sqlite_trees.proofs.TreeLemmas.{not_true}
use Rattle.sqlite_schema.specs.declared.schema.Schema.{Schema}
use Rattle.sqlite_schema.specs.declared.schema.Table.{Table}
use Rattle.sqlite_schema.specs.declared.schema.Index.{Index}
use Rattle.sqlite_schema.specs.declared.command.Conflict.TheVariants.{Replace}
use Rattle.sqlite_schema.specs.Rules.{agree, guards}
use Rattle.sqlite_rules.specs.declared.error.Rowids.TheVariants.{Chosen, Given}
use Rattle.sqlite_rules.specs.Calls.{ids_of}
use Rattle.sqlite_rules.specs.Lists.{Has}
use Rattle.sqlite_rules.specs.Cast.{cast_row}
use Rattle.sqlite_rules.specs.Edit.{edit_of, is_taken, with_rowid, without_all, id_in, at_least, next_rowid}
use Rattle.sqlite_rules.specs.Keys.{conflicts, shares, AreConflicts}
use Rattle.sqlite_rules.proofs.ProbeLemmas.{has_mapped, mapped_has}
use Rattle.sqlite.specs.declared.error.Error.{Error}
use Rattle.sqlite.specs.Rows.{Task, Written, Clears, Tries}
use Rattle.sqlite.specs.State.{State, ExecutesInside, mode_of}
use Rattle.gr_core.specs.Columns.Fields.{Field, Number}
use Rattle.gr_store.specs.Rows.{value_of}
use Rattle.gr_store.proofs.Writing.CreateLemmas.{went}
use Rattle.gr_store.proofs.TableRows.ReplacedRows.{one_row, MakesRoom, replaced}
use Rattle.std.proofs.lemmas.Cmp.{tied_itself}
use Rattle.std.specs.Ordering.{is_eq}
use Rattle.sqlite_value.specs.declared.value.Value.TheVariants.{Int}
use Rattle.sqlite_value.proofs.OrderLemmas.{value_cmp_total}
use Rattle.sqlite_rules.proofs.ListLemmas.{all_has, some_from}
use Rattle.sqlite_rules.proofs.TableLemmas.{int_is}
use Rattle.sqlite_rules.proofs.PlaceLemmas.{next_is_free}
use Rattle.gr_store.proofs.TableRows.AgreeingRows.{fields_agree}
use Rattle.gr_store.specs.Own.{HasOwnTable, IsLone, unique_keys, in_its_tree}
use Rattle.gr_store.specs.Puts.{have_one_key, Replaces, Puts}
use Rattle.gr_store.proofs.Writing.InsertLemmas.{laid_out, source_of, new_row, is_lone, LoneStay, AllStay, edits, puts_in}
use Rattle.gr_store.proofs.Writing.InsertLemmas.{IsInsertText, IsGiven, task_of, has_tried}

-- the rows that conflict with the new one are taken out, and it is put in
record Cleared (task : Task) (new : Row) (old after : Trees) : Type 0 where
  found : List Row
  conflicting : AreConflicts None task.schema.indexes task.table (old task.table.tree) new found
  free : is_taken (without_all (old task.table.tree) (ids_of found)) new ≡ false
  rows : after task.table.tree ≡ put_row new (without_all (old task.table.tree) (ids_of found))
  others : LoneStay task old after
  first : old task.table.tree ≡ [] → AllStay task old after

module _ (task : Task) (lone : IsLone task.schema task.table) where
  clears : (new : Row) (db : Trees) (found : List Row) (w : Written) → cast_row task.table new ≡ new
      → AreConflicts None task.schema.indexes task.table (db task.table.tree) new found
      → Clears task Replace new db found (Ok w) → Cleared task new db w.trees
  clears new db [] w cast hits h =
      let put = puts_in task lone new db w cast h in
      record { found = []; conflicting = hits; free = put.1; rows = put.0; others = put.2; first = λ none. put.3 }
  clears new db (x ∷ more) w cast hits h =
      let edit = edit_of db task.table (ids_of (x ∷ more)) Given 0 [] in
      let step = went h in
      let it = edits task lone db step.0 edit refl step.1 in
      let rows : step.0 task.table.tree ≡ without_all (db task.table.tree) (ids_of (x ∷ more)) = it.same ∙ it.it.rows in
      let put = puts_in task lone new step.0 w cast step.2 in
      record {
        found = x ∷ more;
        conflicting = hits;
        free = rw (← rows) put.1;
        rows = rw (← rows) put.0;
        others = λ other alone apart. put.2 other alone apart ∙ it.others other alone apart;
        first = λ none. absurd (let hit = hits.sound x (inl refl) in subst (λ l. Has l hit.0) none hit.1);
      }

  tries : (new : Row) (db : Trees) (w : Written) → cast_row task.table new ≡ new
      → Tries task Replace [] new db (Ok w) → Cleared task new db w.trees
  tries new db w cast (inl unfit) = absurd (let e = unfit.1 in cc)
  tries new db w cast (inr (None, judged, way)) = clears new db way.0 w cast way.1 way.2
  tries new db w cast (inr (Some why, judged, refused)) = absurd (let e = refused in cc)

-- ---- conflicts

-- a row has the key of another under one of the unique indexes
abbrev shares_key : Row → Row → List ℕ × Order → Bool
shares_key new row key = agree key.1 key.0 row key.0 new

-- whether it has is known from the keys of those indexes
shares_one : (table : Table) (new row : Row) (indexes : List Index)
    → list_any (shares None table new row) indexes
    ≡ list_any (shares_key new row) (map (λ i. (i.columns, i.order)) (filter (λ i. guards i table) indexes))
shares_one table new row [] = refl
shares_one table new row (i ∷ indexes) = elim (cases_Bool (guards i table)) [
  | inl is ↦ rw is (ap (λ b. agree i.order i.columns row i.columns new || b) (shares_one table new row indexes))
  | inr is ↦ rw is (shares_one table new row indexes)
]

-- the rows that a row conflicts with, once its rowid is chosen, are those that have its key
abbrev pub MeetsItsKey : Schema → Table → Row → Type 0
MeetsItsKey schema table source = (rows : List Row) (row : Row) → IsShaped shape.Table rows → Has rows row
    → conflicts None schema.indexes table (with_rowid Chosen rows source) row
    ≡ have_one_key table row (with_rowid Chosen rows source)

-- the row with these columns, where the rowid is chosen
abbrev pub numbered_row : List Row → Row → Row
numbered_row rows columns = Int (at_least Chosen (next_rowid rows)) ∷ columns

-- its rowid is that of no row that is there
pub apart_row : (rows : List Row) (columns row : Row) → IsShaped shape.Table rows → Has rows row
    → agree plain (0 ∷ []) row (0 ∷ []) (numbered_row rows columns) ≡ true → ⊥
apart_row rows columns row shaped there tied =
    let id = at_least Chosen (next_rowid rows) in
    let is : rowid row ≡ Int (id_in (rowid row)) = int_is (rowid row) (all_has _ rows row shaped.1 there) in
    let both = fields_agree (0 ∷ []) (Number (id_in (rowid row)) ∷ []) (Number id ∷ []) row (Int id ∷ columns)
    (ap (λ v. v ∷ []) is) refl tied in
    let same : rowid row ≡ Int id = cc in
    let tie = ap (λ v. is_eq (value_cmp v (Int id))) same ∙ ap is_eq (tied_itself value_cmp_total (Int id)) in
    let taken = some_from (λ r. is_eq (value_cmp (rowid r) (Int id))) rows row there tie in
    true≢false (sym taken ∙ next_is_free Chosen rows columns shaped.0 shaped.1)

-- so it is where the rowid is the key
pub meets_by_rowid : (schema : Schema) (table : Table) (source : Row) → table.primary ≡ 0 ∷ []
    → unique_keys schema table ≡ [] → MeetsItsKey schema table source
meets_by_rowid schema table source key none rows row shaped there =
    let new = with_rowid Chosen rows source in
    ap (λ b. agree plain (0 ∷ []) row (0 ∷ []) new || b) (shares_one table new row schema.indexes
    ∙ ap (list_any (shares_key new row)) none) ∙ or-false _ ∙ ap (λ k. agree plain k row k new) (sym key)

-- and where the table has an index for its key
pub meets_by_index : (schema : Schema) (table : Table) (fields : List Field) → table.key ≡ None
    → unique_keys schema table ≡ (table.primary, plain) ∷ [] → MeetsItsKey schema table (source_of table fields)
meets_by_index schema table fields keyless keys =
    subst (MeetsItsKey schema table) (ap (λ key. laid_out key columns) (sym keyless)) (λ rows row shaped there.
    let new = numbered_row rows columns in
    let free = not_true (agree plain (0 ∷ []) row (0 ∷ []) new) (apart_row rows columns row shaped there) in
    let by = shares_one table new row schema.indexes ∙ ap (list_any (shares_key new row)) keys in
    ap (λ b. agree plain (0 ∷ []) row (0 ∷ []) new || b) by
    ∙ ap (λ b. b || (have_one_key table row new || false)) free ∙ or-false _)
  where
    columns : Row
    columns = map value_of fields

-- the rows that conflict make room for the new one
makes_room : (task : Task) (new : Row) (old after : Trees) (cleared : Cleared task new old after)
    → IsShaped shape.Table (old task.table.tree)
    → ((row : Row) → Has (old task.table.tree) row → conflicts None task.schema.indexes task.table new row
    ≡ have_one_key task.table row new)
    → MakesRoom task.table (old task.table.tree) new (ids_of cleared.found)
makes_room task new old after cleared shaped meets = record {
  only = λ row there among.
      let x = has_mapped (λ r. id_in (rowid r)) cleared.found (id_in (rowid row)) among in
      let hit = cleared.conflicting.sound x.0 x.1 in
      let same : row ≡ hit.0
      = one_row (old task.table.tree) row hit.0 shaped there hit.1 (x.2 ∙ ap (λ (r : Row). id_in (rowid r)) hit.3) in
      sym (meets row there) ∙ ap (conflicts None task.schema.indexes task.table new) same ∙ hit.2;
  all = λ row there same. mapped_has (λ r. id_in (rowid r)) cleared.found (rowid row ∷ [])
      (cleared.conflicting.complete row there (meets row there ∙ same));
  free = cleared.free;
}

-- ---- a text

-- what the text and the fields bound give to the table
pub record IsReplacing (schema : Schema) (table : Table) (terms : List Term) (fields : List Field) : Type 0 where
  pub given : IsGiven table Replace terms fields
  pub meets : MeetsItsKey schema table (source_of table fields)

pub put_fields : (text : List ℕ) (table : Table) (terms : List Term) (fields : List Field) (old new : State)
    (r : Result ℕ Error) (schema : Schema) (own : HasOwnTable schema table) → table.references ≡ []
    → IsInsertText schema text own.has.at Replace terms [] → IsReplacing schema (in_its_tree own) terms fields
    → old.now.schema ≡ schema → ExecutesInside 0 text (map value_of fields) old new r
    → OnOk r (Puts (in_its_tree own) fields old.now new.now)
put_fields text table terms fields old new (Err e) schema own free is row has h = tt
put_fields text table terms fields old new (Ok count) schema own free is row has h =
    let its : Table = in_its_tree own in
    let ran = has_tried schema text own.has.at its Replace terms [] fields old new count is own.has.is row.given has h in
    let it = ran.0 in
    let task = task_of schema old.step_limit (mode_of old) its fields in
    let rows = old.now.trees its.tree in
    let one = new_row its fields rows in
    let cleared = tries task (is_lone schema table own free) one old.now.trees it.tried (row.given.cast rows) it.tries in
    let put : new.now.trees its.tree ≡ put_row one (without_all rows (ids_of cleared.found))
    = ap (λ (t : Trees). t its.tree) it.trees ∙ cleared.rows in
    record {
      schema = it.is ∙ sym has;
      rows = λ ordered.
          let room = makes_room task one old.now.trees it.tried.trees cleared ordered.shaped
          (λ other there. row.meets rows other ordered.shaped there) in
          subst (Replaces its fields rows) (sym put) (replaced its fields rows one (ids_of cleared.found)
          ordered.shaped (row.given.number rows) (row.given.has rows) room);
      others = λ other lone apart. ap (λ (t : Trees). t other.tree) it.trees
          ∙ cleared.others other (subst (λ c. IsLone c other) has lone) apart;
      first = λ none other listed apart. ap (λ (t : Trees). t other.tree) it.trees
          ∙ cleared.first none other (subst (λ (c : Schema). Has c.tables other) has listed) apart;
      sound = ran.1;
    }
