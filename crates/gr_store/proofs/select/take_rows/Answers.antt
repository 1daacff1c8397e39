use Rattle.std.proofs.Common.{◌≡◌, IfErr, ◌⊎◌, ◌++◌, [], ◌∷◌, map, IsTrue, refl, sym, ap, subst, ◌∙◌, rules}
use Rattle.std.proofs.lemmas.List.{map-append}
use Rattle.sqlite.specs.Held.{state}
use Rattle.sqlite.specs.Given.{HasBegun, IsRefused}
use Rattle.sqlite.specs.State.{CommitsShowing, HasCleanDisk, IsUnchanged, Survives}
use Rattle.sqlite.proofs.StateLemmas.{survives_then}
use Rattle.sqlite.proofs.Callers.{unchanged_then, given_begin}
use Rattle.gr_core.specs.Columns.Intake.{HasTaken, with_more}
use Rattle.gr_core.proofs.Columns.IntakeLemmas.{with_none, with_both}
use Rattle.gr_store.specs.Causes.{IsCaused, IsStopped}
use Rattle.gr_store.specs.Columns.{CannotHold}
use Rattle.gr_store.specs.Faults.{is_unreadable}
use Rattle.gr_store.specs.Rows.{value_of}
use Rattle.gr_store.specs.SelectedTables.{HasPlainAnswer, SelectsTable}
use Rattle.gr_store.proofs.Connections.StepsInTurn.{was_clean}
use Rattle.gr_store.proofs.Connections.SelectRuns.{writes_nothing, fails}
use Rattle.gr_store.proofs.Connections.RowByRow.{begun, commits_nothing, answers, begins_answer, refused_readable, on_err, cannot_hold}
use Rattle.gr_store.proofs.Failures.FailedTexts.{query_caused}
use Rattle.gr_store.proofs.Failures.StoreFaults.{stopped_since}
use Rattle.gr_store.proofs.select.take_rows.Goals as goal

pub returns-in_err-rows-clause-plain : goal.returns-in_err-rows-clause-plain
returns-in_err-rows-clause-plain g c clean plain =
    let table = g.T.SelectedRow.table in
    let text = c.select.result.now in
    let is : SelectsTable text table = subst (λ t. SelectsTable t table) (sym c.select.ensures.text) c.select.ensures.selects in
    let old = state g.S.Store c.args.conn.now in
    let new = state g.S.Store c.query.follows.lender-at-none in
    let held : IsRefused g.S.Store text [] c.args.conn.now c.query.result c.query.follows.lender-at-none = search rules in
    let failed = rw c.in_err-rows.was at (held.err clean) in
    on_err (λ e. IsTrue (is_unreadable e) → CannotHold g.T.SelectedRow.select_text g.T.SelectedRow.kinds old.now) c.from_residual.result c.in_err-rows.field-0.0
    c.from_residual.ensures.1 (λ bad. absurd (refused_readable text table is old new
    (subst (λ t. HasPlainAnswer t old.now) (sym c.select.ensures.text) plain) _ failed bad))

pub returns-in_err-rows-clause-writes_nothing : goal.returns-in_err-rows-clause-writes_nothing
returns-in_err-rows-clause-writes_nothing g c =
    let table = g.T.SelectedRow.table in
    let text = c.select.result.now in
    let is : SelectsTable text table = subst (λ t. SelectsTable t table) (sym c.select.ensures.text) c.select.ensures.selects in
    let old = state g.S.Store c.args.conn.now in
    let new = state g.S.Store c.query.follows.lender-at-none in
    let held : IsRefused g.S.Store text [] c.args.conn.now c.query.result c.query.follows.lender-at-none = search rules in
    writes_nothing text old new is.returns_nothing held.survives
    (λ clean. fails text old new is.returns_nothing _ (rw c.in_err-rows.was at (held.err clean))) held.mode

pub rows-init : goal.rows-init
rows-init g c =
    let text = g.T.SelectedRow.select_text in
    let plain = c.select.ensures.selects.returns_nothing in
    let made = c.in_ok-rows.ensures in
    let old = c.args.conn.now in
    let new = c.in_ok-rows.rows.conn.now in (
      refl,
      (
        [],
        record {
          survives = commits_nothing text plain _ _ (subst (λ t. Survives (state g.S.Store old) (state g.S.Store new)
              (CommitsShowing t [] (state g.S.Store old))) c.select.ensures.text made.survives);
          mode = made.mode;
          given = λ clean. begun text plain g.S.Store old new (subst (λ t. HasBegun g.S.Store t [] old new) c.select.ensures.text (made.begun clean));
        },
        λ before has. subst (λ rows. HasTaken rows c.args.intake.now) (sym (with_none g.T.IntoRow.table_name before)) has,
      ),
    )

pub returns-in_err-row-clause-plain : goal.returns-in_err-row-clause-plain
returns-in_err-row-clause-plain g c clean plain =
    let text = g.T.SelectedRow.select_text in
    let table = g.T.SelectedRow.table in
    let first = state g.S.Store c.args.conn.now in
    let moved = c.next.follows.holds-at-none in
    let now = state g.S.Store c.rows.rows.conn.now in
    let last = state g.S.Store c.next.follows.lender-at-none.conn.now in
    let late : HasCleanDisk last = search rules in
    let was = c.rows.invariant.1.1.given (was_clean now last (λ _. ⊥) moved.survives late) in
    let failed = (rw c.in_err-row.was at (moved.err late)) text [] _ was.0 in
    let still : HasPlainAnswer text now.now = subst (HasPlainAnswer text) (sym was.1.0.now_is) plain in
    on_err (λ e. IsTrue (is_unreadable e) → CannotHold text g.T.SelectedRow.kinds first.now) c.from_residual-in_err-row.result c.in_err-row.field-0.0
    c.from_residual-in_err-row.ensures.1 (λ bad. absurd (refused_readable text table c.select.ensures.selects now last still _ failed bad))

pub returns-in_default-clause-taken : goal.returns-in_default-clause-taken
returns-in_default-clause-taken g c clean =
    let text = g.T.SelectedRow.select_text in
    let moved = c.next.follows.holds-at-none in
    let now = c.rows.rows.conn.now in
    let last = c.next.follows.lender-at-none.conn.now in
    let late : HasCleanDisk (state g.S.Store last) = search rules in
    let was = c.rows.invariant.1.1.given (was_clean (state g.S.Store now) (state g.S.Store last) (λ _. ⊥) moved.survives late) in
    let shown = (rw (c.in_ok-row.was, c.in_default.is) at (moved.ok late)) text [] _ was.0 in
    record {
      rows = c.rows.invariant.1.0;
      selected = (answers text c.select.ensures.selects.returns_nothing g.S.Store c.args.conn.now now last _ was.1 shown).0;
      taken = c.rows.invariant.1.2;
    }

pub returns-in_err-row-2-clause-plain : goal.returns-in_err-row-2-clause-plain
returns-in_err-row-2-clause-plain g c clean plain =
    let text = g.T.SelectedRow.select_text in
    let table = g.T.SelectedRow.table in
    let kinds = g.T.SelectedRow.kinds in
    let is = c.select.ensures.selects in
    let first = state g.S.Store c.args.conn.now in
    let moved = c.next.follows.holds-at-none in
    let now = state g.S.Store c.rows.rows.conn.now in
    let last = state g.S.Store c.next.follows.lender-at-none.conn.now in
    let late : HasCleanDisk last = search rules in
    let was = c.rows.invariant.1.1.given (was_clean now last (λ _. ⊥) moved.survives late) in
    let kept = map (map value_of) c.rows.invariant.1.0 in
    let given = (rw (c.in_ok-row.was, c.in-Some.is) at (moved.ok late)) text [] kept was.0 in
    let same : IsUnchanged now last = rw c.in_ok-row.was at (moved.same late) in
    let begins = given_begin g.S.Store text [] c.next.follows.lender-at-none.conn.now _ given in
    let whole = begins_answer text table is first last plain (unchanged_then first now last was.1 same) _ begins in
    on_err (λ e. IsTrue (is_unreadable e) → CannotHold text kinds first.now) c.from_residual-in_err-row-2.result c.in_err-row-2.field-0.0
    c.from_residual-in_err-row-2.ensures.1 (λ bad. cannot_hold text kinds first.now kept whole.0 c.in-Some.row.now
    plain.one whole.1 ((rw c.in_err-row-2.was at c.read.ensures.unreadable) bad))

pub rows-preserved : goal.rows-preserved
rows-preserved g c =
    let text = g.T.SelectedRow.select_text in
    let place = g.T.IntoRow.table_name in
    let meant = g.T.IntoRow.meant in
    let first = state g.S.Store c.args.conn.now in
    let moved = c.next.follows.holds-at-none in
    let now = state g.S.Store c.rows.rows.conn.now in
    let last = state g.S.Store c.next.follows.lender-at-none.conn.now in
    let before = c.rows.invariant.1.1 in
    let kept = c.rows.invariant.1.0 in
    let fields = g.T.IntoRow.fields c.in_ok-row-2.row in
    let items : map (map value_of) (kept ++ fields ∷ []) ≡ map (map value_of) kept ++ c.in-Some.row.now ∷ []
    = map-append (map value_of) kept (fields ∷ [])
    ∙ ap (λ r. map (map value_of) kept ++ r ∷ []) (rw c.in_ok-row-2.was at c.read.ensures.ok) in (
      moved.same_reference ∙ c.rows.invariant.0,
      (
        kept ++ fields ∷ [],
        record {
          survives = survives_then first now last (λ _. ⊥) (λ _. ⊥) (λ _. ⊥) (λ _ db none. none) (λ _ db none. none) before.survives moved.survives;
          mode = λ outside. moved.mode (before.mode outside);
          given = λ clean.
              let was = before.given (was_clean now last (λ _. ⊥) moved.survives clean) in
              let given = (rw (c.in_ok-row.was, c.in-Some.is) at (moved.ok clean)) text [] (map (map value_of) kept) was.0 in
              let same : IsUnchanged now last = rw c.in_ok-row.was at (moved.same clean) in
              (rw items given, unchanged_then first now last was.1 same);
        },
        λ rows has.
            subst (λ these. HasTaken these c.take.new.self)
            (c.into_row.ensures (with_more place rows (map meant kept))
            ∙ with_both place rows (map meant kept) (meant fields ∷ [])
            ∙ ap (with_more place rows) (sym (map-append meant kept (fields ∷ []))))
            (c.in-Ok.ensures.taken (with_more place rows (map meant kept)) (c.rows.invariant.1.2 rows has)),
      ),
    )

pub returns-in_err-rows-clause-caused : goal.returns-in_err-rows-clause-caused
returns-in_err-rows-clause-caused g c clean =
    let table = g.T.SelectedRow.table in
    let text = c.select.result.now in
    let is : SelectsTable text table = subst (λ t. SelectsTable t table) (sym c.select.ensures.text) c.select.ensures.selects in
    let old = state g.S.Store c.args.conn.now in
    let new = state g.S.Store c.query.follows.lender-at-none in
    let held : IsRefused g.S.Store text [] c.args.conn.now c.query.result c.query.follows.lender-at-none = search rules in
    let failed = rw c.in_err-rows.was at (held.err clean) in
    let told = query_caused text old new is.returns_nothing is.alone _ failed in
    on_err (λ e. IsTrue (is_unreadable e) ⊎ IsCaused old new (IsStopped old.step_limit g.T.SelectedRow.select_text old.now) e)
    c.from_residual.result c.in_err-rows.field-0.0 c.from_residual.ensures.1
    (subst (λ t. IsTrue (is_unreadable c.in_err-rows.field-0.0)
    ⊎ IsCaused old new (IsStopped old.step_limit t old.now) c.in_err-rows.field-0.0) c.select.ensures.text told)

pub returns-in_err-row-clause-caused : goal.returns-in_err-row-clause-caused
returns-in_err-row-clause-caused g c clean =
    let text = g.T.SelectedRow.select_text in
    let is = c.select.ensures.selects in
    let first = state g.S.Store c.args.conn.now in
    let moved = c.next.follows.holds-at-none in
    let now = state g.S.Store c.rows.rows.conn.now in
    let last = state g.S.Store c.next.follows.lender-at-none.conn.now in
    let late : HasCleanDisk last = search rules in
    let read = c.rows.invariant.1.1 in
    let was = read.given (was_clean now last (λ _. ⊥) moved.survives late) in
    let failed = (rw c.in_err-row.was at (moved.err late)) text [] _ was.0 in
    let told = query_caused text now last is.returns_nothing is.alone _ failed in
    let all : IfErr c.from_residual-in_err-row.result (λ e. IsTrue (is_unreadable e)
    ⊎ IsCaused first last (IsStopped first.step_limit text first.now) e)
    = on_err (λ e. IsTrue (is_unreadable e) ⊎ IsCaused first last (IsStopped first.step_limit text first.now) e)
    c.from_residual-in_err-row.result c.in_err-row.field-0.0 c.from_residual-in_err-row.ensures.1
    (stopped_since first now last text _ read.survives moved.survives late was.1.0.now_is told) in
    search (rules, all)

pub returns-in_err-rows-clause-unreadable : goal.returns-in_err-rows-clause-unreadable
returns-in_err-rows-clause-unreadable g c clean has =
    returns-in_err-rows-clause-plain g c clean (c.select.ensures.selects.plain (state g.S.Store c.args.conn.now).now has)

pub returns-in_err-row-clause-unreadable : goal.returns-in_err-row-clause-unreadable
returns-in_err-row-clause-unreadable g c clean has =
    returns-in_err-row-clause-plain g c clean (c.select.ensures.selects.plain (state g.S.Store c.args.conn.now).now has)

pub returns-in_err-row-2-clause-unreadable : goal.returns-in_err-row-2-clause-unreadable
returns-in_err-row-2-clause-unreadable g c clean has =
    returns-in_err-row-2-clause-plain g c clean (c.select.ensures.selects.plain (state g.S.Store c.args.conn.now).now has)
