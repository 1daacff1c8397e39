-- What `INSERT .. ON CONFLICT .. DO UPDATE` of one row in a table of its own does.
use Rattle.std.proofs.Common.{◌≡◌, ℕ, ℤ, pos, negsuc, List, [], ◌∷◌, ◌++◌, map, flat_map, filter, bytes_eq, ◌||◌, Bool, true, false, not, ◌&&◌, if◌then◌else◌, Option, None, Some, Ok, Err, Result, OnOk, IsPermutation, refl, sym, ap, ap₂, subst, ◌∙◌, inl, inr, Ordering, Less, Equal, Greater, true≢false}
use Rattle.std.proofs.Math.Bool.{and-true, or-false}
use Rattle.std.proofs.lemmas.Bool.{and_from, cases_Bool}
use Rattle.std.proofs.lemmas.Cmp.{tied_itself}
use Rattle.std.specs.List.{list_all, list_any}
use Rattle.std.specs.Ordering.{is_eq, is_ne, is_lt}
use Rattle.std.specs.FinMap.{int_cmp-IsAntisymmetric}
use Rattle.sqlite_value.specs.declared.value.Value.{Value}
use Rattle.sqlite_value.specs.declared.value.Value.TheVariants.{Null, Int}
use Rattle.sqlite_value.specs.declared.keys.Collation.TheVariants.{Binary}
use Rattle.sqlite_value.specs.Order.{Row, column, value_cmp}
use Rattle.sqlite_value.specs.Keys.{plain}
use Rattle.sqlite_value.proofs.OrderLemmas.{value_cmp_total, value_cmp-Int}
use Rattle.sqlite_sql.specs.declared.ops.BinaryOp.TheVariants.{Compare}
use Rattle.sqlite_sql.specs.declared.ops.CompareOp.TheVariants.{Eq}
use Rattle.sqlite_sql.specs.Ops.{binary, is_true, from_truth}
use Rattle.sqlite_sql.specs.Term.{Term, Env, lit, col, op2, holds, eval_all}
use Rattle.sqlite_sql.specs.Query.{Query, Output, inner, end, output}
use Rattle.sqlite_trees.specs.declared.store.Shape.TheVariants as shape
use Rattle.sqlite_trees.specs.Tree.{Trees, rowid, IsTable}
use Rattle.sqlite_trees.specs.View.{IsShaped}
use Rattle.sqlite_trees.proofs.TreeLemmas.{later_rowids}
use Rattle.sqlite_schema.specs.declared.program.Program.{Program}
use Rattle.sqlite_schema.specs.declared.schema.Constraint.TheVariants.{Unique}
use Rattle.sqlite_schema.specs.declared.schema.Table.{Table}
use Rattle.sqlite_schema.specs.declared.command.Conflict.TheVariants.{Abort}
use Rattle.sqlite_schema.specs.declared.command.Upsert.{Upsert}
use Rattle.sqlite_schema.specs.Rules.{equal, differ, clashes, passes, agree, guards}
use Rattle.sqlite_rules.specs.declared.error.Rowids.TheVariants.{Given}
use Rattle.sqlite_rules.specs.Calls.{ids_of}
use Rattle.sqlite_rules.specs.Lists.{Has}
use Rattle.sqlite_rules.specs.Cast.{cast_row}
use Rattle.sqlite_rules.specs.Edit.{Applies, Edit, edit_of, id_in, without_all}
use Rattle.sqlite_rules.specs.Keys.{conflicts, AreConflicts, shares}
use Rattle.sqlite_rules.proofs.RuleLemmas.{keeps_at}
use Rattle.sqlite_rules.proofs.ListLemmas.{all_has, some_from}
use Rattle.sqlite_rules.proofs.TableLemmas.{int_is, has_put, put_all_keeps}
use Rattle.sqlite.specs.declared.error.Error.{Error}
use Rattle.sqlite.specs.Effect.{Database, Answers}
use Rattle.sqlite.specs.Rows.{Task, Written, shown, Puts as PutsIn, Clears, Meets, Updates, Upserts, Tries}
use Rattle.sqlite.specs.declared.run.Mode.{Mode}
use Rattle.sqlite.specs.State.{State, ExecutesInside, mode_of}
use Rattle.sqlite.proofs.Callers.{one_permutation}
use Rattle.gr_core.specs.Columns.Fields.{Field, Number}
use Rattle.gr_store.specs.Rows.{value_of, HasFields}
use Rattle.gr_store.proofs.Writing.CreateLemmas.{went, same_value}
use Rattle.gr_store.proofs.TableRows.ReplacedRows.{equal_is, spared, one_row, MakesRoom, replaced}
use Rattle.gr_store.proofs.TableRows.AgreeingRows.{equal_fields, fields_agree, agree_fields}
use Rattle.gr_store.proofs.Reading.ColumnQueries.{no_tables}
use Rattle.sqlite_schema.specs.declared.schema.Index.{Index}
use Rattle.sqlite_schema.specs.declared.schema.Schema.{Schema}
use Rattle.sqlite_value.specs.declared.keys.Order.{Order}
use Rattle.gr_store.specs.Own.{HasOwnTable, IsLone, unique_keys, in_its_tree}
use Rattle.gr_store.specs.Puts.{have_one_key, IsInOrder, Replaces, Puts}
use Rattle.gr_store.proofs.Writing.InsertLemmas.{is_free, new_row, is_lone, LoneStay, AllStay, edits, puts_in}
use Rattle.gr_store.proofs.Writing.InsertLemmas.{IsInsertText, IsGiven, task_of, has_tried}

-- ---- the query of the update

-- the row whose rowid stands at the place `base` of what is given, changed to these columns
abbrev pub updating : ℕ → ℕ → List Term → Program
updating tree base cells = record {
  lets = [];
  body = record {
    from = inner tree end;
    filter = op2 (Compare Eq Binary) (col 1 0) (col 0 base) ∷ [];
    group = None;
    project = col 1 0 ∷ cells;
    distinct = false;
    collations = [];
    order = [];
    limit = lit (Int (negsuc 0));
    offset = lit (Int (pos 0));
  };
}

module _ {X : Type 0} (f : Row → X) (test : Row → Bool) where
  none_match : (rows : List Row) → ((row : Row) → Has rows row → test row ≡ false)
      → flat_map (λ r. if test r then f r ∷ [] else []) rows ≡ []
  none_match [] none = refl
  none_match (x ∷ rows) none = rw (none x (inl refl)) (none_match rows (λ row there. none row (inr there)))

  -- one row of a tree has a rowid
  one_match : (rows : List Row) (row : Row) → IsTable rows → Has rows row
      → ((r : Row) → Has rows r → test r ≡ is_eq (value_cmp (rowid r) (rowid row)))
      → flat_map (λ r. if test r then f r ∷ [] else []) rows ≡ f row ∷ []
  one_match [] row up there tests = absurd there
  one_match (x ∷ rows) row up (inl same) tests =
      let tied : value_cmp (rowid x) (rowid x) ≡ Equal = tied_itself value_cmp_total (rowid x) in
      let is : (r : Row) → is_eq (value_cmp (rowid r) (rowid row)) ≡ is_eq (value_cmp (rowid r) (rowid x))
      = λ r. ap (λ y. is_eq (value_cmp (rowid r) (rowid y))) same in
      let first : test x ≡ true = tests x (inl refl) ∙ is x ∙ ap is_eq tied in
      let above = later_rowids (rowid x) x rows (ap is_lt tied) up.0 in
      let later = none_match rows (λ r there. tests r (inr there) ∙ is r ∙ all_has _ rows r above there) in
      rw first (ap (λ l. f x ∷ l) later ∙ ap (λ r. f r ∷ []) (sym same))
  one_match (x ∷ rows) row up (inr there) tests =
      let lower : value_cmp (rowid x) (rowid row) ≡ Less = all_has _ rows row up.0 there in
      let first : test x ≡ false = tests x (inl refl) ∙ ap is_eq lower in
      rw first (one_match rows row up.1 there (λ r h. tests r (inr h)))

-- it shows the rowid and the columns of that row
pub answered : (tree base : ℕ) (cells : List Term) (given row : Row) (db : Database) (answer : List Row)
    → Answers db (updating tree base cells) given answer → IsShaped shape.Table (db.trees tree)
    → Has (db.trees tree) row → column given base ≡ rowid row
    → answer ≡ (rowid row ∷ eval_all cells (given ∷ row ∷ [])) ∷ []
answered tree base cells given row db answer h shaped there at =
    let it = h.answer Null in
    let staged = it.grouped ∙ ap (flat_map each) (no_tables db.trees tree) ∙ one_match matched test (db.trees tree) row
    shaped.0 there tests in
    let kept : it.kept ≡ output query (matched row) ∷ [] = it.distinct ∙ ap (map (output query)) staged in
    let alone = one_permutation (output query (matched row)) it.ordered (subst (λ k. IsPermutation k it.ordered) kept
    it.same) in
    it.shown ∙ ap (map (λ (o : Output). o.1)) alone
  where
    query : Query
    query = (updating tree base cells).body

    matched : Row → Env
    matched r = given ∷ r ∷ []

    test : Row → Bool
    test r = list_all (holds (matched r)) query.filter

    each : Row → List Env
    each r = if test r then matched r ∷ [] else []

    int : (r : Row) → Has (db.trees tree) r → rowid r ≡ Int (id_in (rowid r))
    int r h = int_is (rowid r) (all_has _ (db.trees tree) r shaped.1 h)

    tests : (r : Row) → Has (db.trees tree) r → test r ≡ is_eq (value_cmp (rowid r) (rowid row))
    tests r h =
        let mine = int r h in
        let its = int row there in
        and-true _ ∙ ap₂ (equal Binary) mine (at ∙ its) ∙ equal_fields (Number (id_in (rowid r)))
        (Number (id_in (rowid row))) ∙ ap₂ (λ a b. is_eq (value_cmp a b)) (sym mine) (sym its)

-- ---- one key

-- numbers differ unless they tie
pub differ_numbers : (m n : ℤ) → differ (Int m) (Int n) ≡ not (is_eq (value_cmp (Int m) (Int n)))
unfolding binary
differ_numbers m n = go (value_cmp (Int m) (Int n))
  where
    go : (o : Ordering) → is_true (from_truth (Some (is_ne o))) ≡ not (is_eq o)
    go Less = refl
    go Equal = refl
    go Greater = refl

-- ---- what the unique indexes of the table tell

-- a row has the key of another under one of the unique indexes that has these places
abbrev aims_key : List ℕ → Row → Row → List ℕ × Order → Bool
aims_key target new row key = bytes_eq target key.0 && agree key.1 key.0 row key.0 new

shares_aimed : (target : List ℕ) (table : Table) (new row : Row) (indexes : List Index)
    → list_any (shares (Some target) table new row) indexes
    ≡ list_any (aims_key target new row) (map (λ i. (i.columns, i.order)) (filter (λ i. guards i table) indexes))
shares_aimed target table new row [] = refl
shares_aimed target table new row (i ∷ indexes) = elim (cases_Bool (guards i table)) [
  | inl is ↦ rw is (ap (λ b. (bytes_eq target i.columns && agree i.order i.columns row i.columns new) || b)
      (shares_aimed target table new row indexes))
  | inr is ↦ rw is (shares_aimed target table new row indexes)
]

passes_keys : (table : Table) (rows : List Row) (row : Row) (indexes : List Index)
    → list_all (λ i. not (guards i table && clashes i.order i.columns rows row)) indexes
    ≡ list_all (λ (key : List ℕ × Order). not (clashes key.1 key.0 rows row))
    (map (λ i. (i.columns, i.order)) (filter (λ i. guards i table) indexes))
passes_keys table rows row [] = refl
passes_keys table rows row (i ∷ indexes) = elim (cases_Bool (guards i table)) [
  | inl is ↦ rw is (ap (λ b. not (clashes i.order i.columns rows row) && b) (passes_keys table rows row indexes))
  | inr is ↦ rw is (passes_keys table rows row indexes)
]

-- a row meets those with its key
pub meets_by_key : (schema : Schema) (table : Table) → unique_keys schema table ≡ (table.primary, plain) ∷ []
    → bytes_eq table.primary (0 ∷ []) ≡ false → bytes_eq table.primary table.primary ≡ true → (new row : Row)
    → conflicts (Some table.primary) schema.indexes table new row ≡ have_one_key table row new
meets_by_key schema table keys other itself new row =
    let by = shares_aimed table.primary table new row schema.indexes
    ∙ ap (list_any (aims_key table.primary new row)) keys in
    rw other (by ∙ rw itself (or-false _))

-- no two rows that pass the rules have one key
pub unique_by_key : (schema : Schema) (table : Table) → unique_keys schema table ≡ (table.primary, plain) ∷ []
    → (db : Trees) (row : Row) → passes Unique schema db table row ≡ true
    → clashes plain table.primary (db table.tree) row ≡ false
unique_by_key schema table keys db row passed =
    is_free _ (sym (passes_keys table (db table.tree) row schema.indexes
    ∙ ap (list_all (λ (key : List ℕ × Order). not (clashes key.1 key.0 (db table.tree) row))) keys) ∙ passed)

-- ---- what the text and the fields bound give to the table

-- what the query of the update reads: what is bound, the rowid of the row that is there, and the row that was tried
abbrev pub read_by : Table → List Field → List Row → Value → Row
read_by table fields rows id = map value_of fields ++ id ∷ shown table (new_row table fields rows)

-- the clause that names the table's key
abbrev pub clause_of : Table → ℕ → List Term → Upsert
clause_of table base cells = record { target = Some table.primary; update = Some (updating table.tree base cells) }

pub record IsUpserting (schema : Schema) (table : Table) (terms : List Term) (base : ℕ) (cells : List Term)
    (fields key : List Field) : Type 0 where
  pub given : IsGiven table Abort terms fields
  -- it meets the rows with its key, and no two rows that pass the rules have one key
  pub meets : (new row : Row) → conflicts (Some table.primary) schema.indexes table new row
      ≡ have_one_key table row new
  pub unique : (db : Trees) (row : Row) → passes Unique schema db table row ≡ true
      → clashes plain table.primary (db table.tree) row ≡ false
  -- the columns of the key
  pub keyed : (row : Row) (others : List Field) → HasFields table row others
      → (its : List Field) × (map (column row) table.primary ≡ map value_of its)
  pub stands : (id : Value) → map (column (id ∷ map value_of fields)) table.primary ≡ map value_of key
  pub has : (id : Value) → HasFields table (id ∷ map value_of fields) fields
  pub new_is : (rows : List Row) → (id : Value) × (new_row table fields rows ≡ id ∷ map value_of fields)
  -- a row with the key is changed to these fields
  pub reads : (rows : List Row) (id : Value) → column (read_by table fields rows id) base ≡ id
  pub changes : (rows : List Row) (id : Value) (row : Row) → map (column row) table.primary ≡ map value_of key
      → eval_all cells (read_by table fields rows id ∷ row ∷ []) ≡ rowid row ∷ map value_of fields
  pub kept : (id : ℤ) → cast_row table (Int id ∷ map value_of fields) ≡ Int id ∷ map value_of fields

-- ---- the trees after it

-- what the statement has written in the table, and that it has written in no other
record Upserted (task : Task) (fields : List Field) (old new : Trees) : Type 0 where
  rows : IsInOrder task.table (old task.table.tree)
      → Replaces task.table fields (old task.table.tree) (new task.table.tree)
  others : LoneStay task old new
  first : old task.table.tree ≡ [] → AllStay task old new

module _ (schema : Schema) (table : Table) (lone : IsLone schema table) (terms : List Term) (base : ℕ) (cells : List Term)
    (fields key : List Field) (is : IsUpserting schema table terms base cells fields key) (limit : Option ℕ)
    (mode : Mode) (old : Trees) where
  abbrev task : Task
  task = task_of schema limit mode table fields

  abbrev rows : List Row
  rows = old table.tree

  -- the row that is tried
  abbrev new : Row
  new = new_row table fields rows

  -- the row that is there becomes this one
  abbrev changed : Row → Row
  changed there = rowid there ∷ map value_of fields

  abbrev change_of : Row → Edit
  change_of there = record { table = table; gone = id_in (rowid there) ∷ []; news = changed there ∷ [] }

  module _ (there : Row) (ordered : IsInOrder table rows) (listed : Has rows there) where
    int : (other : Row) → Has rows other → rowid other ≡ Int (id_in (rowid other))
    int other was = int_is (rowid other) (all_has _ rows other ordered.shaped.1 was)

    -- no other row has the key of the one that was changed
    alone : (next : Trees) → Applies schema mode.keys old (change_of there) next → (other : Row) → Has rows other
        → have_one_key table other (changed there) ≡ true → is_eq (value_cmp (rowid other) (rowid there)) ≡ false → ⊥
    alone next it other was alike apart =
        let left = without_all rows (id_in (rowid there) ∷ []) in
        let kept = spared rows (id_in (rowid there) ∷ []) other was none (all_has _ rows other ordered.shaped.1 was) in
        let stays = subst (λ l. Has l other) (sym it.rows) (put_all_keeps (changed there ∷ []) left other it.fresh kept) in
        let put = subst (λ l. Has l (changed there)) (sym it.rows) (has_put (changed there) left) in
        let differs : differ (rowid other) (rowid there) ≡ true
        = ap₂ differ (int other was) (int there listed) ∙ differ_numbers _ _
        ∙ ap₂ (λ a b. not (is_eq (value_cmp a b))) (sym (int other was)) (sym (int there listed)) ∙ ap not apart in
        let clash = some_from (λ o. have_one_key table o (changed there) && differ (rowid o) (rowid there))
        (next table.tree) other stays (and_from _ _ alike differs) in
        let passed = keeps_at Unique schema next table (changed there) (it.fits.rules Unique (λ e. cc))
        lone.listed put in
        true≢false (sym clash ∙ is.unique next (changed there) passed)
      where
        none : (id : ℤ) → Has (id_in (rowid there) ∷ []) id → rowid other ≡ Int id → ⊥
        none id (inl e) same =
            let tie = ap₂ value_cmp (same ∙ ap Int e) (int there listed) ∙ tied_itself value_cmp_total _ in
            true≢false (sym (ap is_eq tie) ∙ apart)
        none id (inr e) same = e

    -- so that one alone makes room
    makes_room : (next : Trees) → Applies schema mode.keys old (change_of there) next
        → have_one_key table there (changed there) ≡ true
        → MakesRoom table rows (changed there) (id_in (rowid there) ∷ [])
    makes_room next it same = record {
      only = λ other was among. elim among [
        | inl e ↦ subst (λ r. have_one_key table r (changed there) ≡ true)
            (sym (one_row rows other there ordered.shaped was listed e)) same
        | inr none ↦ absurd none
      ];
      all = λ other was alike. go other was alike (is_eq (value_cmp (rowid other) (rowid there))) refl;
      free = is_free _ it.fresh;
    }
      where
        go : (other : Row) → Has rows other → have_one_key table other (changed there) ≡ true → (b : Bool)
            → is_eq (value_cmp (rowid other) (rowid there)) ≡ b → Has (id_in (rowid there) ∷ []) (id_in (rowid other))
        go other was alike true e =
            let tie = ap₂ value_cmp (sym (int other was)) (sym (int there listed)) ∙ equal_is _ e in
            inl (int_cmp-IsAntisymmetric (id_in (rowid other)) (id_in (rowid there)) (sym (value_cmp-Int _ _) ∙ tie))
        go other was alike false e = absurd (alone next it other was alike e)

    module _ (alike : have_one_key table there new ≡ true) where
      key_is : map (column there) table.primary ≡ map value_of key
      key_is =
          let known = ordered.known there listed in
          let its = is.keyed there known.0 known.1 in
          let tried = is.new_is rows in
          let stands = ap (λ r. map (column r) table.primary) tried.1 ∙ is.stands tried.0 in
          its.1 ∙ fields_agree table.primary its.0 key there new its.1 stands alike

      -- the query of the update shows the row as it is to be
      edit_is : (id : Value) (answer : List Row) → id ≡ rowid there
          → Answers (record { schema = schema; trees = old }) (updating table.tree base cells)
          (read_by table fields rows id) answer
          → edit_of old table (ids_of answer) Given 1 answer ≡ change_of there
      edit_is id answer same h =
          let kept : cast_row table (changed there) ≡ changed there
          = subst (λ v. cast_row table (v ∷ map value_of fields) ≡ v ∷ map value_of fields) (sym (int there listed))
          (is.kept (id_in (rowid there))) in
          let shows = answered table.tree base cells (read_by table fields rows id) there _ answer h ordered.shaped listed
          (is.reads rows id ∙ same) ∙ ap (λ r. (rowid there ∷ r) ∷ []) (is.changes rows id there key_is) in
          ap (λ a. edit_of old table (ids_of a) Given 1 a) shows
          ∙ ap (λ r. record { table = table; gone = id_in (rowid there) ∷ []; news = r ∷ [] }) kept

      changes_row : (next : Trees) → Applies schema mode.keys old (change_of there) next
          → Replaces table fields rows (next table.tree)
      changes_row next it =
          let same = agree_fields table.primary key there (changed there) key_is (is.stands (rowid there)) in
          subst (Replaces table fields rows) (sym it.rows) (replaced table fields rows (changed there)
          (id_in (rowid there) ∷ []) ordered.shaped (all_has _ rows there ordered.shaped.1 listed) (is.has (rowid there))
          (makes_room next it same))

  -- a row with the key was found
  updates : (found : Row) (w : Written) → (row : Row) × Has rows row
      → (IsInOrder table rows → (there : Row) × Has rows there × (have_one_key table there new ≡ true)
      × (rowid found ≡ rowid there))
      → Updates task (updating table.tree base cells) (read_by table fields rows (rowid found)) old (Ok w)
      → Upserted task fields old w.trees
  updates found w some hits h =
      let asked = went h in
      let wrote = went asked.2 in
      let it = edits task lone old wrote.0 (edit_of old table (ids_of asked.0) Given 1 asked.0) refl wrote.1 in
      let trees : w.trees ≡ wrote.0 = ap (λ (x : Written). x.trees) (same_value wrote.2) in
      record {
        rows = λ ordered.
            let hit = hits ordered in
            let edit = edit_is hit.0 ordered hit.1 hit.2 (rowid found) asked.0 hit.3 asked.1 in
            let change = subst (λ e. Applies schema mode.keys old e it.mid) edit it.it in
            subst (Replaces table fields rows) (sym (ap (λ (t : Trees). t table.tree) trees ∙ it.same))
            (changes_row hit.0 ordered hit.1 hit.2 it.mid change);
        others = rw trees it.others;
        first = λ none. absurd (subst (λ l. Has l some.0) none some.1);
      }

  -- no row with the key was found
  puts : (w : Written) → ((other : Row) → Has rows other → have_one_key table other new ≡ true → ⊥)
      → PutsIn task new old (Ok w) → Upserted task fields old w.trees
  puts w none h =
      let put = puts_in task lone new old w (is.given.cast rows) h in
      record {
        rows = λ ordered. subst (Replaces table fields rows) (sym put.0) (replaced table fields rows new []
            ordered.shaped (is.given.number rows) (is.given.has rows) (record {
              only = λ other was among. absurd among;
              all = λ other was same. absurd (none other was same);
              free = put.1;
            }));
        others = put.2;
        first = λ none. put.3;
      }

  -- where nothing stands in the way, or only what the clause does not name
  clears : (found : List Row) (w : Written) → Clears task Abort new old found (Ok w) → PutsIn task new old (Ok w)
  clears [] w h = h
  clears (x ∷ more) w h = h

  meets : (found : List Row) (w : Written)
      → AreConflicts (Some table.primary) schema.indexes table rows new found
      → Meets task (Upserts task Abort new old []) new old (clause_of table base cells) found (Ok w)
      → Upserted task fields old w.trees
  meets [] w hits h =
      puts w (λ other was same. hits.complete other was (is.meets new other ∙ same)) (clears h.0 w h.2)
  meets (found ∷ more) w hits h =
      let hit = hits.sound found (inl refl) in
      updates found w (hit.0, hit.1) (λ ordered. (hit.0, hit.1, sym (is.meets new hit.0) ∙ hit.2, ap rowid hit.3)) h

  tries : (w : Written) → Tries task Abort (clause_of table base cells ∷ []) new old (Ok w)
      → Upserted task fields old w.trees
  tries w (inl unfit) = absurd (let e = unfit.1 in cc)
  tries w (inr (None, judged, way)) = meets way.0 w way.1 way.2
  tries w (inr (Some why, judged, refused)) = absurd (let e = refused in cc)

-- ---- a text

pub upsert_fields : (text : List ℕ) (table : Table) (terms : List Term) (base : ℕ) (cells : List Term)
    (fields key : List Field) (old new : State) (r : Result ℕ Error) (schema : Schema) (own : HasOwnTable schema table)
    → table.references ≡ [] → IsInsertText schema text own.has.at Abort terms (clause_of (in_its_tree own) base cells ∷ [])
    → IsUpserting schema (in_its_tree own) terms base cells fields key → old.now.schema ≡ schema
    → ExecutesInside 0 text (map value_of fields) old new r → OnOk r (Puts (in_its_tree own) fields old.now new.now)
upsert_fields text table terms base cells fields key old new (Err e) schema own free is row has h = tt
upsert_fields text table terms base cells fields key old new (Ok count) schema own free is row has h =
    let its : Table = in_its_tree own in
    let ran = has_tried schema text own.has.at its Abort terms (clause_of its base cells ∷ []) fields old new count
    is own.has.is row.given has h in
    let it = tries schema its (is_lone schema table own free) terms base cells fields key row old.step_limit
    (mode_of old) old.now.trees ran.0.tried ran.0.tries in
    record {
      schema = ran.0.is ∙ sym has;
      rows = λ ordered. subst (λ (t : Trees). Replaces its fields (old.now.trees its.tree) (t its.tree))
          (sym ran.0.trees) (it.rows ordered);
      others = λ other lone apart. ap (λ (t : Trees). t other.tree) ran.0.trees
          ∙ it.others other (subst (λ c. IsLone c other) has lone) apart;
      first = λ none other listed apart. ap (λ (t : Trees). t other.tree) ran.0.trees
          ∙ it.first none other (subst (λ (c : Schema). Has c.tables other) has listed) apart;
      sound = ran.1;
    }
