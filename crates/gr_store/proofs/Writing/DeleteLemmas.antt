-- What `DELETE FROM` a table of its own does.
use Rattle.std.proofs.Common.{◌≡◌, ℕ, List, [], ◌∷◌, None, Ok, Err, Result, OnOk, false, refl, ap, ◌∙◌, pos, negsuc}
use Rattle.std.proofs.Common.{map, sym, subst, subst₂, inl, IsPermutation}
use Rattle.std.proofs.lemmas.Bool.{lt-leb}
use Rattle.std.proofs.lemmas.List.Concat.{flat_map_single}
use Rattle.std.proofs.lemmas.List.Sorted.{IsPermutation-map, IsPermutation-sym}
use Rattle.sqlite_value.specs.Order.{Row}
use Rattle.sqlite_value.specs.declared.value.Value.TheVariants.{Null}
use Rattle.sqlite_trees.specs.declared.store.Shape.TheVariants as shape
use Rattle.sqlite_trees.specs.Tree.{rowid}
use Rattle.sqlite_trees.specs.View.{IsShaped}
use Rattle.sqlite_sql.specs.Term.{Env}
use Rattle.sqlite_sql.specs.Query.{output, Output, IsAnswerAs}
use Rattle.sqlite_sql.specs.Program.{overlay}
use Rattle.sqlite_rules.specs.Lists.{Has}
use Rattle.sqlite_rules.specs.Edit.{id_in, without_all}
use Rattle.sqlite_trees.proofs.ListLemmas.{all-permutation}
use Rattle.sqlite_rules.proofs.ListLemmas.{all_has, all_from}
use Rattle.sqlite_rules.proofs.ProbeLemmas.{mapped_has}
use Rattle.sqlite_rules.proofs.TableLemmas.{int_is, without_all_has}
use Rattle.gr_store.proofs.TableRows.ReplacedRows.{removed}
use Rattle.gr_store.proofs.Reading.ColumnQueries.{no_tables}
use Rattle.sqlite_ast.specs.declared.Statement.{Statement}
use Rattle.sqlite_ast.specs.declared.Statement.TheVariants as written
use Rattle.sqlite_syntax.specs.declared.statement.Parsed.{Parsed}
use Rattle.sqlite_trees.specs.Tree.{Trees}
use Rattle.sqlite_value.specs.declared.value.Value.TheVariants.{Int}
use Rattle.sqlite_sql.specs.Term.{lit, col}
use Rattle.sqlite_sql.specs.Query.{inner, end}
use Rattle.sqlite_schema.specs.declared.program.Program.{Program}
use Rattle.sqlite_schema.specs.declared.schema.Schema.{Schema}
use Rattle.sqlite_schema.specs.declared.schema.Table.{Table}
use Rattle.sqlite_schema.specs.declared.command.Command.TheVariants.{Delete}
use Rattle.sqlite_rules.specs.declared.error.Rowids.TheVariants.{Given}
use Rattle.sqlite_rules.specs.Calls.{ids_of}
use Rattle.sqlite_rules.specs.Edit.{edit_of}
use Rattle.sqlite_resolve.specs.declared.compiled.Compiled.{Compiled}
use Rattle.sqlite_resolve.specs.Lowering.{Checked, and_then}
use Rattle.sqlite_resolve.specs.Compile as compile
use Rattle.sqlite_resolve.specs.Program as program
use Rattle.sqlite_resolve.specs.Write as write
use Rattle.sqlite_resolve.specs.Body as body
use Rattle.sqlite_tied.specs.Compute.{everything}
use Rattle.sqlite.specs.declared.error.Error.{Error}
use Rattle.sqlite.specs.Effect.{Database}
use Rattle.sqlite.specs.Listing.{understood}
use Rattle.sqlite.specs.Rows.{Written}
use Rattle.sqlite.specs.Does.{Tally}
use Rattle.sqlite.specs.State.{State, ExecutesInside, mode_of}
use Rattle.sqlite.proofs.Callers.{runs_as, IsPlain, command_of}
use Rattle.gr_store.specs.Clears.{Clears, ballot1_clear}
use Rattle.gr_store.specs.Tabled.{HasTable, in_tree}
use Rattle.gr_store.specs.Own.{HasOwnTable, IsBallotTable1}
use Rattle.gr_store.proofs.Writing.CreateLemmas.{went, same_value}
use Rattle.gr_store.proofs.Writing.InsertLemmas.{is_lone, edits, task_of}

-- the rowids of all rows
abbrev pub all_rows : ℕ → Program
all_rows tree = record {
  lets = [];
  body = record {
    from = inner tree end;
    filter = [];
    group = None;
    project = col 1 0 ∷ [];
    distinct = false;
    collations = [];
    order = [];
    limit = lit (Int (negsuc 0));
    offset = lit (Int (pos 0));
  };
}

-- the statement is DELETE FROM the table, with no WHERE
abbrev DeletesBy : Table → Statement → Type 0
DeletesBy table (written.Delete name None []) = name ≡ table.name
DeletesBy table _ = ⊥

abbrev pub DeletesIn : Table → Checked Parsed → Type 0
DeletesIn table (Ok p) = (p.formats ≡ []) × DeletesBy table p.statement
DeletesIn table (Err e) = ⊥

abbrev IsDeleting : ℕ → ℕ → Checked Compiled → Type 0
IsDeleting at tree (Ok c) = (c.command ≡ Delete at (all_rows tree)) × (c.returning ≡ None) × (c.formats ≡ [])
IsDeleting at tree (Err e) = ⊥

module _ (schema : Schema) (table : Table) (has : HasTable schema table) where
  deletes_statement : (p : Parsed) (s : Statement) → p.statement ≡ s → p.formats ≡ [] → DeletesBy table s
      → IsDeleting has.at has.tree
      (and_then (compile.planned schema p) (λ plan. Ok (compile.with_command p plan)))
  unfolding compile.planned compile.meaning compile.returning compile.shows compile.timed compile.command
      compile.delete write.deleted write.picked body.tests program.program
  deletes_statement p (written.Delete name None []) is formats named =
      rw (is, formats, named, has.named, has.is, lt-leb _ _ has.below, has.first) (refl, refl, refl)
  deletes_statement p _ is formats named = absurd named

  deletes_parsed : (r : Checked Parsed) → DeletesIn table r → IsDeleting has.at has.tree
      (and_then r (λ p. and_then (compile.planned schema p) (λ plan. Ok (compile.with_command p plan))))
  deletes_parsed (Ok p) is = deletes_statement p p.statement refl is.0 is.1
  deletes_parsed (Err e) is = absurd is

  -- what is understood by such a text
  abbrev pub IsUnderstood : List ℕ → Type 0
  IsUnderstood text =
      (command_of (understood schema text) ≡ Delete has.at (all_rows has.tree)) × IsPlain (understood schema text)

  pub deleting : (text : List ℕ) → DeletesIn table (compile.first text) → IsUnderstood text
  unfolding compile.compiled understood
  deleting text is = go (compile.compiled schema text) refl (deletes_parsed (compile.first text) is)
    where
      go : (r : Checked Compiled) → compile.compiled schema text ≡ r → IsDeleting has.at has.tree r
          → IsUnderstood text
      go (Ok c) e is = (rw e is.0, rw e (is.1, is.2))
      go (Err x) e is = absurd is

-- ---- all rowids

abbrev matched : Row → Env
matched row = [] ∷ row ∷ []

abbrev id_of : Row → Row
id_of row = rowid row ∷ []

none_left : (rows : List Row) → ((row : Row) → Has rows row → ⊥) → rows ≡ []
none_left [] none = refl
none_left (row ∷ rows) none = absurd (none row (inl refl))

permuted_has : {X : Type 0} (xs ys : List X) (x : X) → IsPermutation xs ys → Has xs x → Has ys x
permuted_has xs ys x same =
    all_has (Has ys) xs x (all-permutation (Has ys) ys xs (IsPermutation-sym xs ys same) (all_from (Has ys) ys (λ e h. h)))

module _ (tree : ℕ) (db : Trees) where
  shown_each : (rows : List Row)
      → map (λ (o : Output). o.1) (map (output (all_rows tree).body) (map matched rows)) ≡ map id_of rows
  shown_each [] = refl
  shown_each (row ∷ rows) = ap (λ l. id_of row ∷ l) (shown_each rows)

  each_once : (rows : List Row) → IsAnswerAs Null (all_rows tree).body db [] rows → IsPermutation (map id_of (db tree)) rows
  each_once rows h =
      let staged : h.staged ≡ map matched (db tree) = h.grouped ∙ flat_map_single matched (db tree) in
      let outputs = map (output (all_rows tree).body) (map matched (db tree)) in
      let kept : h.kept ≡ outputs = h.distinct ∙ ap (map (output (all_rows tree).body)) staged in
      let same : IsPermutation outputs h.ordered = subst (λ k. IsPermutation k h.ordered) kept h.same in
      subst₂ IsPermutation (shown_each (db tree)) (sym h.shown) (IsPermutation-map (λ (o : Output). o.1) outputs h.ordered same)

  all_gone : (rows : List Row) → IsAnswerAs Null (all_rows tree).body db [] rows → IsShaped shape.Table (db tree)
      → without_all (db tree) (ids_of rows) ≡ []
  all_gone rows h shaped = none_left (without_all (db tree) (ids_of rows)) (λ row left.
      let was = without_all_has (ids_of rows) (db tree) row left in
      let number = int_is (rowid row) (all_has _ (db tree) row shaped.1 was) in
      let there = permuted_has (map id_of (db tree)) rows (id_of row) (each_once rows h) (mapped_has id_of (db tree) row was) in
      removed (db tree) (ids_of rows) row (id_in (rowid row)) (mapped_has (λ (r : Row). id_in (rowid r)) rows (id_of row) there) number left)

pub clears_table : (text : List ℕ) (table : Table) (old new : State) (r : Result ℕ Error)
    (own : HasOwnTable old.now.schema table) → table.references ≡ [] → DeletesIn table (compile.first text)
    → ExecutesInside 0 text [] old new r → OnOk r (Clears (in_tree table own.has.tree) old.now new.now)
clears_table text table old new (Err e) own free is h = tt
clears_table text table old new (Ok count) own free is h =
    let schema = old.now.schema in
    let placed = in_tree table own.has.tree in
    let means = deleting schema table own.has text is in
    let w = runs_as text [] old new schema refl (Delete own.has.at (all_rows own.has.tree)) means.0 means.1 count h.0 in
    let task = task_of schema old.step_limit (mode_of old) placed [] in
    let done = went (rw own.has.is at w.changed) in
    let asked = went done.1 in
    let wrote = went asked.2 in
    let edit = edit_of old.now.trees placed (ids_of asked.0) Given 0 [] in
    let it = edits task (is_lone schema table own free) old.now.trees wrote.0 edit refl wrote.1 in
    let ended = went (went done.2).2 in
    let trees : done.0.trees ≡ wrote.0 = ap (λ (x : Written). x.trees) (same_value wrote.2) in
    let now : new.now ≡ record { schema = schema; trees = done.0.trees }
    = ap (λ (p : Tally × Database). p.1) (same_value ended.2) in
    record {
      schema = ap (λ (d : Database). d.schema) now;
      empty = λ shaped.
          let whole = no_tables old.now.trees placed.tree in
          let gone = all_gone placed.tree (overlay old.now.trees []) asked.0 (asked.1.answer Null)
          (subst (IsShaped shape.Table) (sym whole) shaped) in
          ap (λ (d : Database). d.trees placed.tree) now ∙ ap (λ (t : Trees). t placed.tree) trees ∙ it.same ∙ it.it.rows
          ∙ ap (λ l. without_all l (ids_of asked.0)) (sym whole) ∙ gone;
      others = λ other alone apart.
          ap (λ (d : Database). d.trees other.tree) now ∙ ap (λ (t : Trees). t other.tree) trees
          ∙ it.others other alone apart;
      sound = w.sound;
    }

pub ballots_delete : (table : Table) → IsBallotTable1 table → DeletesIn table (compile.first ballot1_clear)
unfolding everything
ballots_delete table is = (refl, sym is.name)
