use Rattle.gr_core.specs.Columns.Stored.{DeskTable}
use Rattle.std.proofs.Common.{◌≡◌, Err, true≢false, sym, ap, subst, ◌∙◌, rules}
use Rattle.gr_core.specs.Columns.Intake.{nothing_taken}
use Rattle.sqlite.specs.Effect.{Database}
use Rattle.sqlite.specs.Held.{state}
use Rattle.gr_store.specs.Tabled.{HasColumns1}
use Rattle.gr_store.specs.declared.fault.Fault.TheVariants as faults
use Rattle.gr_store.specs.Faults.{fault_of_unfit}
use Rattle.gr_store.specs.Holds.{SelectsOthersBy, IsLater, IsOfThisVersion}
use Rattle.gr_store.proofs.TableRows.EachTable.{all_selected}
use Rattle.gr_store.proofs.Connections.StepsInTurn.{was_clean}
use Rattle.gr_store.proofs.Connections.StepsInTurn.{writes_then, kept_first, kept_then}
use Rattle.gr_store.proofs.StoredDesks.NoSuchDesk.{cannot_others, others_told, damaged_unfit}
use Rattle.gr_store.proofs.Failures.UnreadTables.{selects_told, row_is_held}
use Rattle.gr_store.proofs.Failures.StoreFaults.{passed_on}
use Rattle.gr_store.proofs.Reading.RightTables.{right_columns1, there_are}
use Rattle.gr_core.specs.Desks.Version1.{IsValid1}
use Rattle.gr_store.specs.Columns.{ballot1_kinds}
use Rattle.gr_store.specs.Schema.{ballot1_table}
use Rattle.gr_store.proofs.TableRows.EachTable.{HasSixTables1}
use Rattle.gr_store.specs.Selects.{ballot1_select}
use Rattle.gr_core.specs.Columns.Rows1.{HasRows1}
use Rattle.gr_store.proofs.StoredDesks.TreesAndAnswers.{same_rows1}
use Rattle.gr_store.proofs.TableRows.RowKinds.{have_kinds1}
use Rattle.gr_store.proofs.StoredDesks.TablesTaken.{both, both_selected, plainly, row_told}
use Rattle.gr_store.proofs.load.desk_of_version_1.Goals as goal

pub returns-then-not-are_there-clause-not_too_new : goal.returns-then-not-are_there-clause-not_too_new
returns-then-not-are_there-clause-not_too_new g c clean plain is =
    row_told IsLater _ _ _ _ plain.one (c.in_ok-take_table.ensures.taken clean) c.new-intake.ensures.taken c.is_too_new.ensures c.if-is_too_new.false

pub returns-then-not-are_there-clause-not_current : goal.returns-then-not-are_there-clause-not_current
returns-then-not-are_there-clause-not_current g c clean plain is =
    row_told IsOfThisVersion _ _ _ _ plain.one (c.in_ok-take_table.ensures.taken clean) c.new-intake.ensures.taken c.is_current.ensures c.if-is_current.false

pub returns-in_err-take_others-clause-damaged : goal.returns-in_err-take_others-clause-damaged
returns-in_err-take_others-clause-damaged g c clean has is s valid holds =
    let old = state g.S.Store c.args.conn.now in
    let mid = state g.S.Store c.take_table.new.conn in
    let new = state g.S.Store c.take_others.new.conn in
    let refused : c.in_err-take_others.field-0.0 ≡ faults.Damaged = search (rules, is) in
    cannot_others HasRows1 ballot1_select IsValid1 ballot1_table ballot1_kinds have_kinds1 old mid new
    (kept_then old old mid (kept_first old) c.take_table.ensures.writes_nothing
    c.in_ok-take_table.ensures.unchanged) c.take_others.ensures.writes_nothing
    clean has (λ there. c.take_others.ensures.damaged clean there (c.in_err-take_others.was ∙ ap Err refused)) s valid holds

pub returns-in_err-take_others-clause-not_too_new : goal.returns-in_err-take_others-clause-not_too_new
returns-in_err-take_others-clause-not_too_new g c clean plain is =
    let mid = state g.S.Store c.take_table.new.conn in
    let back = was_clean mid (state g.S.Store c.take_others.new.conn) (λ _. ⊥) c.take_others.ensures.writes_nothing.leaves clean in
    row_told IsLater _ _ _ _ plain.one (c.in_ok-take_table.ensures.taken back) c.new-intake.ensures.taken c.is_too_new.ensures c.if-is_too_new.false

pub returns-in_err-take_others-clause-not_current : goal.returns-in_err-take_others-clause-not_current
returns-in_err-take_others-clause-not_current g c clean plain is =
    let mid = state g.S.Store c.take_table.new.conn in
    let back = was_clean mid (state g.S.Store c.take_others.new.conn) (λ _. ⊥) c.take_others.ensures.writes_nothing.leaves clean in
    row_told IsOfThisVersion _ _ _ _ plain.one (c.in_ok-take_table.ensures.taken back) c.new-intake.ensures.taken c.is_current.ensures c.if-is_current.false

pub returns-in_err-finish_1-clause-damaged : goal.returns-in_err-finish_1-clause-damaged
returns-in_err-finish_1-clause-damaged g c clean has is s valid holds =
    let old = state g.S.Store c.args.conn.now in
    let mid = state g.S.Store c.take_table.new.conn in
    let new = state g.S.Store c.take_others.new.conn in
    let back = was_clean mid new (λ _. ⊥) c.take_others.ensures.writes_nothing.leaves clean in
    let desk = c.in_ok-take_table.ensures.taken back in
    let others = c.in_ok-take_others.ensures.taken clean in
    let taken = others.taken _ (plainly _ _ _ _ _ desk nothing_taken c.new-intake.ensures.taken) in
    let refused : fault_of_unfit c.in_err-finish_1.field-0.0 ≡ faults.Damaged = search (rules, is) in
    let damaged = c.finish_1.ensures.damaged (both desk.rows others.rows) taken (c.in_err-finish_1.was
    ∙ ap Err (damaged_unfit c.in_err-finish_1.field-0.0 refused)) in
    others_told HasRows1 ballot1_select IsValid1 old mid new (both desk.rows others.rows) (kept_then old old mid (kept_first old)
    c.take_table.ensures.writes_nothing c.in_ok-take_table.ensures.unchanged) c.take_others.ensures.writes_nothing
    clean (λ s held. same_rows1 s old.now _ (right_columns1 old.now has) held desk.selected)
    (both_selected ballot1_select mid.now desk.rows others.rows others.selected) damaged s valid holds

pub returns-in_err-finish_1-clause-not_too_new : goal.returns-in_err-finish_1-clause-not_too_new
returns-in_err-finish_1-clause-not_too_new g c clean plain is =
    let mid = state g.S.Store c.take_table.new.conn in
    let back = was_clean mid (state g.S.Store c.take_others.new.conn) (λ _. ⊥) c.take_others.ensures.writes_nothing.leaves clean in
    row_told IsLater _ _ _ _ plain.one (c.in_ok-take_table.ensures.taken back) c.new-intake.ensures.taken c.is_too_new.ensures c.if-is_too_new.false

pub returns-in_err-finish_1-clause-not_current : goal.returns-in_err-finish_1-clause-not_current
returns-in_err-finish_1-clause-not_current g c clean plain is =
    let mid = state g.S.Store c.take_table.new.conn in
    let back = was_clean mid (state g.S.Store c.take_others.new.conn) (λ _. ⊥) c.take_others.ensures.writes_nothing.leaves clean in
    row_told IsOfThisVersion _ _ _ _ plain.one (c.in_ok-take_table.ensures.taken back) c.new-intake.ensures.taken c.is_current.ensures c.if-is_current.false

pub returns-clause-writes_nothing : goal.returns-clause-writes_nothing
returns-clause-writes_nothing g c =
    writes_then (state g.S.Store c.args.conn.now) (state g.S.Store c.take_table.new.conn) (state g.S.Store c.take_others.new.conn)
    c.take_table.ensures.writes_nothing c.take_others.ensures.writes_nothing

pub returns-clause-desk1 : goal.returns-clause-desk1
returns-clause-desk1 g c clean =
    let old = state g.S.Store c.args.conn.now in
    let mid = state g.S.Store c.take_table.new.conn in
    let new = state g.S.Store c.take_others.new.conn in
    let back = was_clean mid new (λ _. ⊥) c.take_others.ensures.writes_nothing.leaves clean in
    let desk = c.in_ok-take_table.ensures.taken back in
    let others = c.in_ok-take_others.ensures.taken clean in
    let it = c.in_ok-finish_1.ensures.ok (both desk.rows others.rows)
    (others.taken _ (plainly _ _ _ _ _ desk nothing_taken c.new-intake.ensures.taken)) in
    record {
      desk1 = it.desk1;
      valid = it.valid;
      held = record {
        rows = both desk.rows others.rows;
        are = it.rows_of;
        selected = all_selected ballot1_select (both desk.rows others.rows) old.now
            desk.selected
            (subst (SelectsOthersBy ballot1_select (both desk.rows others.rows)) (c.in_ok-take_table.ensures.unchanged back).0.now_is
            (both_selected ballot1_select mid.now desk.rows others.rows others.selected));
      };
      lifts = it.lifts;
    }

pub returns-then-not-are_there-clause-damaged : goal.returns-then-not-are_there-clause-damaged
returns-then-not-are_there-clause-damaged g c clean has is s valid holds =
    let mid = (state g.S.Store c.take_table.new.conn).now in
    let same = (c.in_ok-take_table.ensures.unchanged clean).0.now_is in
    let six = there_are mid.schema (subst (λ (d : Database). HasColumns1 d.schema) (sym same) has) in
    let named : HasSixTables1 c.schema.result.now = subst HasSixTables1 (sym c.schema.ensures.value) six in
    absurd (true≢false (sym (c.are_there.ensures.1 named) ∙ c.if-not-are_there.true))

pub returns-in_err-take_others-clause-caused : goal.returns-in_err-take_others-clause-caused
returns-in_err-take_others-clause-caused g c clean =
    let old = state g.S.Store c.args.conn.now in
    let mid = state g.S.Store c.take_table.new.conn in
    let new = state g.S.Store c.take_others.new.conn in
    passed_on c.from_residual-in_err-take_others.result c.in_err-take_others.field-0.0 c.from_residual-in_err-take_others.ensures.1
    (λ store. selects_told ballot1_select old mid new c.take_table.ensures.writes_nothing (kept_then old old mid (kept_first old)
    c.take_table.ensures.writes_nothing c.in_ok-take_table.ensures.unchanged) c.take_others.ensures.writes_nothing clean
    (c.in_err-take_others.ensures.caused clean store))

pub returns-clause-unchanged : goal.returns-clause-unchanged
returns-clause-unchanged g c clean =
    let mid = state g.S.Store c.take_table.new.conn in
    let new = state g.S.Store c.take_others.new.conn in
    let back = was_clean mid new (λ _. ⊥) c.take_others.ensures.writes_nothing.leaves clean in
    c.in_ok-take_others.ensures.unchanged clean ∙ (c.in_ok-take_table.ensures.unchanged back).0.now_is

pub returns-in_err-take_table-clause-not_too_new : goal.returns-in_err-take_table-clause-not_too_new
returns-in_err-take_table-clause-not_too_new g c clean plain is later =
    let old = (state g.S.Store c.args.conn.now).now in
    let refused : c.in_err-take_table.field-0.0 ≡ faults.Damaged = search (rules, is) in
    row_is_held IsLater old later (c.take_table.ensures.plain clean plain (c.in_err-take_table.was ∙ ap Err refused))

pub returns-in_err-take_table-clause-not_current : goal.returns-in_err-take_table-clause-not_current
returns-in_err-take_table-clause-not_current g c clean plain is current =
    let old = (state g.S.Store c.args.conn.now).now in
    let refused : c.in_err-take_table.field-0.0 ≡ faults.Damaged = search (rules, is) in
    row_is_held IsOfThisVersion old current (c.take_table.ensures.plain clean plain (c.in_err-take_table.was ∙ ap Err refused))

pub returns-in_err-take_table-clause-damaged : goal.returns-in_err-take_table-clause-damaged
returns-in_err-take_table-clause-damaged g c clean has is s valid holds =
    let refused : c.in_err-take_table.field-0.0 ≡ faults.Damaged = search (rules, is) in
    c.take_table.ensures.damaged clean (has DeskTable) (c.in_err-take_table.was ∙ ap Err refused) holds.rows.desk
    (have_kinds1 s holds.rows valid holds.are DeskTable) (holds.selected DeskTable)
