use Rattle.gr_core.specs.Columns.Stored.{DeskTable}
use Rattle.std.proofs.Common.{◌≡◌, Err, true≢false, sym, ap, subst, ◌∙◌, rules}
use Rattle.gr_core.specs.Columns.Intake.{nothing_taken}
use Rattle.sqlite.specs.Effect.{Database}
use Rattle.sqlite.specs.Held.{state}
use Rattle.gr_store.specs.Tabled.{HasTables}
use Rattle.gr_store.specs.declared.fault.Fault.TheVariants as faults
use Rattle.gr_store.specs.Faults.{fault_of_unfit}
use Rattle.gr_store.specs.Holds.{IsLater, IsEarlier}
use Rattle.gr_store.proofs.TableRows.EachTable.{SelectsOthers}
use Rattle.gr_store.proofs.TableRows.EachTable.{all_selected}
use Rattle.gr_store.proofs.Connections.StepsInTurn.{was_clean}
use Rattle.gr_store.proofs.Connections.StepsInTurn.{writes_then, kept_first, kept_then}
use Rattle.gr_store.proofs.StoredDesks.NoSuchDesk.{cannot_others, others_told, damaged_unfit}
use Rattle.gr_store.proofs.Failures.UnreadTables.{selects_told, row_is_held}
use Rattle.gr_store.proofs.Failures.StoreFaults.{passed_on}
use Rattle.gr_store.proofs.Reading.RightTables.{columns_of, right_tables, there_are}
use Rattle.gr_core.specs.Desks.Valid.{IsValid}
use Rattle.gr_store.specs.Columns.{ballot_kinds}
use Rattle.gr_store.specs.Schema.{ballot_table}
use Rattle.gr_store.proofs.TableRows.EachTable.{HasSixTables}
use Rattle.gr_store.specs.Selects.{ballot_select}
use Rattle.gr_core.specs.Columns.Stored.{HasRows}
use Rattle.gr_store.proofs.StoredDesks.TreesAndAnswers.{same_rows}
use Rattle.gr_store.proofs.TableRows.RowKinds.{have_kinds}
use Rattle.gr_store.proofs.StoredDesks.TablesTaken.{both, both_selected, both_taken, plainly, row_told}
use Rattle.gr_store.proofs.load.load.Goals as goal

pub returns-then-not-are_there-clause-not_too_new : goal.returns-then-not-are_there-clause-not_too_new
returns-then-not-are_there-clause-not_too_new g c clean plain is =
    row_told IsLater _ _ _ _ plain.one (c.in_ok-take_table.ensures.taken clean) c.new-intake.ensures.taken c.is_too_new.ensures c.if-is_too_new.false

pub returns-then-not-are_there-clause-not_too_old : goal.returns-then-not-are_there-clause-not_too_old
returns-then-not-are_there-clause-not_too_old g c clean plain is =
    row_told IsEarlier _ _ _ _ plain.one (c.in_ok-take_table.ensures.taken clean) c.new-intake.ensures.taken c.is_too_old.ensures c.if-is_too_old.false

pub returns-in_err-take_others-clause-damaged : goal.returns-in_err-take_others-clause-damaged
returns-in_err-take_others-clause-damaged g c clean has is s valid holds =
    let old = state g.S.Store c.args.conn.now in
    let mid = state g.S.Store c.take_table.new.conn in
    let new = state g.S.Store c.take_others.new.conn in
    let refused : c.in_err-take_others.field-0.0 ≡ faults.Damaged = search (rules, is) in
    cannot_others HasRows ballot_select IsValid ballot_table ballot_kinds have_kinds old mid new
    (kept_then old old mid (kept_first old) c.take_table.ensures.writes_nothing
    c.in_ok-take_table.ensures.unchanged) c.take_others.ensures.writes_nothing
    clean (columns_of old.now.schema has)
    (λ there. c.take_others.ensures.damaged clean there (c.in_err-take_others.was ∙ ap Err refused)) s valid holds

pub returns-in_err-take_others-clause-not_too_new : goal.returns-in_err-take_others-clause-not_too_new
returns-in_err-take_others-clause-not_too_new g c clean plain is =
    let mid = state g.S.Store c.take_table.new.conn in
    let back = was_clean mid (state g.S.Store c.take_others.new.conn) (λ _. ⊥) c.take_others.ensures.writes_nothing.leaves clean in
    row_told IsLater _ _ _ _ plain.one (c.in_ok-take_table.ensures.taken back) c.new-intake.ensures.taken c.is_too_new.ensures c.if-is_too_new.false

pub returns-in_err-take_others-clause-not_too_old : goal.returns-in_err-take_others-clause-not_too_old
returns-in_err-take_others-clause-not_too_old g c clean plain is =
    let mid = state g.S.Store c.take_table.new.conn in
    let back = was_clean mid (state g.S.Store c.take_others.new.conn) (λ _. ⊥) c.take_others.ensures.writes_nothing.leaves clean in
    row_told IsEarlier _ _ _ _ plain.one (c.in_ok-take_table.ensures.taken back) c.new-intake.ensures.taken c.is_too_old.ensures c.if-is_too_old.false

pub returns-in_err-finish-clause-damaged : goal.returns-in_err-finish-clause-damaged
returns-in_err-finish-clause-damaged g c clean has is s valid holds =
    let old = state g.S.Store c.args.conn.now in
    let mid = state g.S.Store c.take_table.new.conn in
    let new = state g.S.Store c.take_others.new.conn in
    let back = was_clean mid new (λ _. ⊥) c.take_others.ensures.writes_nothing.leaves clean in
    let desk = c.in_ok-take_table.ensures.taken back in
    let others = c.in_ok-take_others.ensures.taken clean in
    let taken = both_taken ballot_select mid.now _ _ desk.rows (plainly _ _ _ _ _ desk nothing_taken c.new-intake.ensures.taken) others in
    let refused : fault_of_unfit c.in_err-finish.field-0.0 ≡ faults.Damaged = search (rules, is) in
    let damaged = c.finish.ensures.damaged (both desk.rows others.rows) taken (c.in_err-finish.was
    ∙ ap Err (damaged_unfit c.in_err-finish.field-0.0 refused)) in
    others_told HasRows ballot_select IsValid old mid new (both desk.rows others.rows) (kept_then old old mid (kept_first old)
    c.take_table.ensures.writes_nothing c.in_ok-take_table.ensures.unchanged) c.take_others.ensures.writes_nothing
    clean (λ s held. same_rows s old.now _ (right_tables old.now has) held desk.selected)
    (both_selected ballot_select mid.now desk.rows others.rows others.selected) damaged s valid holds

pub returns-in_err-finish-clause-not_too_new : goal.returns-in_err-finish-clause-not_too_new
returns-in_err-finish-clause-not_too_new g c clean plain is =
    let mid = state g.S.Store c.take_table.new.conn in
    let back = was_clean mid (state g.S.Store c.take_others.new.conn) (λ _. ⊥) c.take_others.ensures.writes_nothing.leaves clean in
    row_told IsLater _ _ _ _ plain.one (c.in_ok-take_table.ensures.taken back) c.new-intake.ensures.taken c.is_too_new.ensures c.if-is_too_new.false

pub returns-in_err-finish-clause-not_too_old : goal.returns-in_err-finish-clause-not_too_old
returns-in_err-finish-clause-not_too_old g c clean plain is =
    let mid = state g.S.Store c.take_table.new.conn in
    let back = was_clean mid (state g.S.Store c.take_others.new.conn) (λ _. ⊥) c.take_others.ensures.writes_nothing.leaves clean in
    row_told IsEarlier _ _ _ _ plain.one (c.in_ok-take_table.ensures.taken back) c.new-intake.ensures.taken c.is_too_old.ensures c.if-is_too_old.false

pub returns-clause-writes_nothing : goal.returns-clause-writes_nothing
returns-clause-writes_nothing g c =
    writes_then (state g.S.Store c.args.conn.now) (state g.S.Store c.take_table.new.conn) (state g.S.Store c.take_others.new.conn)
    c.take_table.ensures.writes_nothing c.take_others.ensures.writes_nothing

pub returns-clause-holds : goal.returns-clause-holds
returns-clause-holds g c clean =
    let old = state g.S.Store c.args.conn.now in
    let mid = state g.S.Store c.take_table.new.conn in
    let new = state g.S.Store c.take_others.new.conn in
    let back = was_clean mid new (λ _. ⊥) c.take_others.ensures.writes_nothing.leaves clean in
    let desk = c.in_ok-take_table.ensures.taken back in
    let others = c.in_ok-take_others.ensures.taken clean in
    record {
      rows = both desk.rows others.rows;
      are = c.in_ok-finish.ensures.ok (both desk.rows others.rows)
          (both_taken ballot_select mid.now _ _ desk.rows (plainly _ _ _ _ _ desk nothing_taken c.new-intake.ensures.taken) others);
      selected = all_selected ballot_select (both desk.rows others.rows) old.now
          desk.selected
          (subst (SelectsOthers (both desk.rows others.rows)) (c.in_ok-take_table.ensures.unchanged back).0.now_is
          (both_selected ballot_select mid.now desk.rows others.rows others.selected));
    }

pub returns-then-not-are_there-clause-damaged : goal.returns-then-not-are_there-clause-damaged
returns-then-not-are_there-clause-damaged g c clean has is s valid holds =
    let mid = (state g.S.Store c.take_table.new.conn).now in
    let same = (c.in_ok-take_table.ensures.unchanged clean).0.now_is in
    let six = there_are mid.schema (columns_of mid.schema (subst (λ (d : Database). HasTables d.schema) (sym same) has)) in
    let named : HasSixTables c.schema.result.now = subst HasSixTables (sym c.schema.ensures.value) six in
    absurd (true≢false (sym (c.are_there.ensures.1 named) ∙ c.if-not-are_there.true))

pub returns-in_err-take_table-clause-not_too_new : goal.returns-in_err-take_table-clause-not_too_new
returns-in_err-take_table-clause-not_too_new g c clean plain is later =
    let old = (state g.S.Store c.args.conn.now).now in
    let refused : c.in_err-take_table.field-0.0 ≡ faults.Damaged = search (rules, is) in
    row_is_held IsLater old later (c.take_table.ensures.plain clean plain (c.in_err-take_table.was ∙ ap Err refused))

pub returns-in_err-take_others-clause-caused : goal.returns-in_err-take_others-clause-caused
returns-in_err-take_others-clause-caused g c clean =
    let old = state g.S.Store c.args.conn.now in
    let mid = state g.S.Store c.take_table.new.conn in
    let new = state g.S.Store c.take_others.new.conn in
    passed_on c.from_residual-in_err-take_others.result c.in_err-take_others.field-0.0 c.from_residual-in_err-take_others.ensures.1
    (λ store. selects_told ballot_select old mid new c.take_table.ensures.writes_nothing (kept_then old old mid (kept_first old)
    c.take_table.ensures.writes_nothing c.in_ok-take_table.ensures.unchanged) c.take_others.ensures.writes_nothing clean
    (c.in_err-take_others.ensures.caused clean store))

pub returns-in_err-take_table-clause-not_too_old : goal.returns-in_err-take_table-clause-not_too_old
returns-in_err-take_table-clause-not_too_old g c clean plain is earlier =
    let old = (state g.S.Store c.args.conn.now).now in
    let refused : c.in_err-take_table.field-0.0 ≡ faults.Damaged = search (rules, is) in
    row_is_held IsEarlier old earlier (c.take_table.ensures.plain clean plain (c.in_err-take_table.was ∙ ap Err refused))

pub returns-in_err-take_table-clause-damaged : goal.returns-in_err-take_table-clause-damaged
returns-in_err-take_table-clause-damaged g c clean has is s valid holds =
    let old = (state g.S.Store c.args.conn.now).now in
    let refused : c.in_err-take_table.field-0.0 ≡ faults.Damaged = search (rules, is) in
    c.take_table.ensures.damaged clean (columns_of old.schema has DeskTable) (c.in_err-take_table.was ∙ ap Err refused) holds.rows.desk
    (have_kinds s holds.rows valid holds.are DeskTable) (holds.selected DeskTable)
