use Rattle.std.proofs.Common.{◌≡◌, ◌∙◌, Err, ap, refl, inl, inr, rules}
use Rattle.gr_core.specs.Columns.Stored.{DeveloperTable, ResolutionTable, ChoiceTable, SponsorTable, BallotTable}
use Rattle.gr_store.specs.declared.fault.Fault.TheVariants as faults
use Rattle.gr_store.specs.Schema.{developer_table, resolution_table, choice_table, sponsor_table}
use Rattle.sqlite.specs.Held.{state}
use Rattle.gr_store.specs.Selects.{resolution_select, choice_select, sponsor_select}
use Rattle.gr_core.specs.Columns.Intake.{as_it_is}
use Rattle.gr_store.proofs.Connections.StepsInTurn.{was_clean}
use Rattle.gr_store.proofs.StoredDesks.NoSuchDesk.{cannot_others_by}
use Rattle.gr_store.proofs.Connections.StepsInTurn.{kept_first, kept_then, writes_then}
use Rattle.gr_store.proofs.Failures.UnreadTables.{select_told, err_weaker}
use Rattle.gr_store.proofs.Failures.StoreFaults.{passed_on}
use Rattle.gr_store.proofs.StoredDesks.TablesTaken.{when_ok, taken_of, five_taken}
use Rattle.gr_store.proofs.load.take_others.Goals as goal

pub returns-clause-taken : goal.returns-clause-taken
returns-clause-taken g c clean =
    let first = state g.S.Store c.args.conn.now in
    let after_1 = state g.S.Store c.take_table.new.conn in
    let after_2 = state g.S.Store c.take_table-2.new.conn in
    let after_3 = state g.S.Store c.take_table-3.new.conn in
    let after_4 = state g.S.Store c.take_table-4.new.conn in
    let after_5 = state g.S.Store c.take_table-5.new.conn in
    let kept_1 = kept_then first first after_1 (kept_first first) c.take_table.ensures.writes_nothing c.in_ok-take_table.ensures.unchanged in
    let kept_2 = kept_then first after_1 after_2 kept_1 c.take_table-2.ensures.writes_nothing c.in_ok-take_table-2.ensures.unchanged in
    let kept_3 = kept_then first after_2 after_3 kept_2 c.take_table-3.ensures.writes_nothing c.in_ok-take_table-3.ensures.unchanged in
    let kept_4 = kept_then first after_3 after_4 kept_3 c.take_table-4.ensures.writes_nothing c.in_ok-take_table-4.ensures.unchanged in
    let clean_4 = was_clean after_4 after_5 (λ _. ⊥) c.take_table-5.ensures.writes_nothing.leaves clean in
    let clean_3 = was_clean after_3 after_4 (λ _. ⊥) c.take_table-4.ensures.writes_nothing.leaves clean_4 in
    let clean_2 = was_clean after_2 after_3 (λ _. ⊥) c.take_table-3.ensures.writes_nothing.leaves clean_3 in
    let clean_1 = was_clean after_1 after_2 (λ _. ⊥) c.take_table-2.ensures.writes_nothing.leaves clean_2 in
    let developers = c.in_ok-take_table.ensures.taken clean_1 in
    let resolutions = taken_of resolution_select ResolutionTable as_it_is after_1.now first.now _ _ (kept_1 clean_1)
    (c.in_ok-take_table-2.ensures.taken clean_2) in
    let choices = taken_of choice_select ChoiceTable as_it_is after_2.now first.now _ _ (kept_2 clean_2) (c.in_ok-take_table-3.ensures.taken clean_3) in
    let sponsors = taken_of sponsor_select SponsorTable as_it_is after_3.now first.now _ _ (kept_3 clean_3) (c.in_ok-take_table-4.ensures.taken clean_4) in
    when_ok c.take_table-5.result (λ last.
    let text = g.B.SelectedRow.select_text in
    let meant = g.B.IntoRow.meant in
    let ballots = taken_of text BallotTable meant after_4.now first.now _ _ (kept_4 clean_4) last in
    five_taken text meant first.now _ _ _ _ _ _ developers resolutions choices sponsors ballots)
    (rw c.requires at (c.take_table-5.ensures.taken clean))

pub returns-in_err-take_table-2-clause-caused : goal.returns-in_err-take_table-2-clause-caused
returns-in_err-take_table-2-clause-caused g c clean =
    let first = state g.S.Store c.args.conn.now in
    let after_1 = state g.S.Store c.take_table.new.conn in
    let after_2 = state g.S.Store c.take_table-2.new.conn in
    let kept_1 = kept_then first first after_1 (kept_first first) c.take_table.ensures.writes_nothing c.in_ok-take_table.ensures.unchanged in
    let none_1 = c.take_table.ensures.writes_nothing in
    passed_on c.from_residual-in_err-take_table-2.result c.in_err-take_table-2.field-0.0
    c.from_residual-in_err-take_table-2.ensures.1
    (λ store. select_told g.B.SelectedRow.select_text first after_1 after_2 none_1 kept_1 c.take_table-2.ensures.writes_nothing clean
    resolution_select (inr (inr (inl refl)))
    (c.in_err-take_table-2.ensures.caused clean store))

pub returns-in_err-take_table-3-clause-caused : goal.returns-in_err-take_table-3-clause-caused
returns-in_err-take_table-3-clause-caused g c clean =
    let first = state g.S.Store c.args.conn.now in
    let after_1 = state g.S.Store c.take_table.new.conn in
    let after_2 = state g.S.Store c.take_table-2.new.conn in
    let after_3 = state g.S.Store c.take_table-3.new.conn in
    let kept_1 = kept_then first first after_1 (kept_first first) c.take_table.ensures.writes_nothing c.in_ok-take_table.ensures.unchanged in
    let none_1 = c.take_table.ensures.writes_nothing in
    let kept_2 = kept_then first after_1 after_2 kept_1 c.take_table-2.ensures.writes_nothing c.in_ok-take_table-2.ensures.unchanged in
    let none_2 = writes_then first after_1 after_2 none_1 c.take_table-2.ensures.writes_nothing in
    passed_on c.from_residual-in_err-take_table-3.result c.in_err-take_table-3.field-0.0
    c.from_residual-in_err-take_table-3.ensures.1
    (λ store. select_told g.B.SelectedRow.select_text first after_2 after_3 none_2 kept_2 c.take_table-3.ensures.writes_nothing clean
    choice_select (inr (inr (inr (inl refl))))
    (c.in_err-take_table-3.ensures.caused clean store))

pub returns-in_err-take_table-4-clause-caused : goal.returns-in_err-take_table-4-clause-caused
returns-in_err-take_table-4-clause-caused g c clean =
    let first = state g.S.Store c.args.conn.now in
    let after_1 = state g.S.Store c.take_table.new.conn in
    let after_2 = state g.S.Store c.take_table-2.new.conn in
    let after_3 = state g.S.Store c.take_table-3.new.conn in
    let after_4 = state g.S.Store c.take_table-4.new.conn in
    let kept_1 = kept_then first first after_1 (kept_first first) c.take_table.ensures.writes_nothing c.in_ok-take_table.ensures.unchanged in
    let none_1 = c.take_table.ensures.writes_nothing in
    let kept_2 = kept_then first after_1 after_2 kept_1 c.take_table-2.ensures.writes_nothing c.in_ok-take_table-2.ensures.unchanged in
    let none_2 = writes_then first after_1 after_2 none_1 c.take_table-2.ensures.writes_nothing in
    let kept_3 = kept_then first after_2 after_3 kept_2 c.take_table-3.ensures.writes_nothing c.in_ok-take_table-3.ensures.unchanged in
    let none_3 = writes_then first after_2 after_3 none_2 c.take_table-3.ensures.writes_nothing in
    passed_on c.from_residual-in_err-take_table-4.result c.in_err-take_table-4.field-0.0
    c.from_residual-in_err-take_table-4.ensures.1
    (λ store. select_told g.B.SelectedRow.select_text first after_3 after_4 none_3 kept_3 c.take_table-4.ensures.writes_nothing clean
    sponsor_select (inr (inr (inr (inr (inl refl)))))
    (c.in_err-take_table-4.ensures.caused clean store))

pub returns-clause-caused : goal.returns-clause-caused
returns-clause-caused g c clean =
    let first = state g.S.Store c.args.conn.now in
    let after_1 = state g.S.Store c.take_table.new.conn in
    let after_2 = state g.S.Store c.take_table-2.new.conn in
    let after_3 = state g.S.Store c.take_table-3.new.conn in
    let after_4 = state g.S.Store c.take_table-4.new.conn in
    let after_5 = state g.S.Store c.take_table-5.new.conn in
    let kept_1 = kept_then first first after_1 (kept_first first) c.take_table.ensures.writes_nothing c.in_ok-take_table.ensures.unchanged in
    let none_1 = c.take_table.ensures.writes_nothing in
    let kept_2 = kept_then first after_1 after_2 kept_1 c.take_table-2.ensures.writes_nothing c.in_ok-take_table-2.ensures.unchanged in
    let none_2 = writes_then first after_1 after_2 none_1 c.take_table-2.ensures.writes_nothing in
    let kept_3 = kept_then first after_2 after_3 kept_2 c.take_table-3.ensures.writes_nothing c.in_ok-take_table-3.ensures.unchanged in
    let none_3 = writes_then first after_2 after_3 none_2 c.take_table-3.ensures.writes_nothing in
    let kept_4 = kept_then first after_3 after_4 kept_3 c.take_table-4.ensures.writes_nothing c.in_ok-take_table-4.ensures.unchanged in
    let none_4 = writes_then first after_3 after_4 none_3 c.take_table-4.ensures.writes_nothing in
    err_weaker c.take_table-5.result (select_told g.B.SelectedRow.select_text first after_4 after_5 none_4 kept_4 c.take_table-5.ensures.writes_nothing clean
    g.B.SelectedRow.select_text (inr (inr (inr (inr (inr (inl refl)))))))
    (c.take_table-5.ensures.caused clean)

pub returns-clause-unchanged : goal.returns-clause-unchanged
returns-clause-unchanged g c clean =
    let first = state g.S.Store c.args.conn.now in
    let after_1 = state g.S.Store c.take_table.new.conn in
    let after_2 = state g.S.Store c.take_table-2.new.conn in
    let after_3 = state g.S.Store c.take_table-3.new.conn in
    let after_4 = state g.S.Store c.take_table-4.new.conn in
    let after_5 = state g.S.Store c.take_table-5.new.conn in
    let kept_1 = kept_then first first after_1 (kept_first first) c.take_table.ensures.writes_nothing c.in_ok-take_table.ensures.unchanged in
    let kept_2 = kept_then first after_1 after_2 kept_1 c.take_table-2.ensures.writes_nothing c.in_ok-take_table-2.ensures.unchanged in
    let kept_3 = kept_then first after_2 after_3 kept_2 c.take_table-3.ensures.writes_nothing c.in_ok-take_table-3.ensures.unchanged in
    let kept_4 = kept_then first after_3 after_4 kept_3 c.take_table-4.ensures.writes_nothing c.in_ok-take_table-4.ensures.unchanged in
    let clean_4 = was_clean after_4 after_5 (λ _. ⊥) c.take_table-5.ensures.writes_nothing.leaves clean in
    when_ok c.take_table-5.result (λ same. same.0.now_is ∙ kept_4 clean_4) (c.take_table-5.ensures.unchanged clean)

pub returns-in_err-take_table-clause-damaged : goal.returns-in_err-take_table-clause-damaged
returns-in_err-take_table-clause-damaged g c clean has is =
    let first = state g.S.Store c.args.conn.now in
    let after_1 = state g.S.Store c.take_table.new.conn in
    let refused : c.in_err-take_table.field-0.0 ≡ faults.Damaged = search (rules, is) in
    cannot_others_by g.B.SelectedRow.select_text g.B.SelectedRow.kinds DeveloperTable tt developer_table first.now first.now refl
    (λ there. c.take_table.ensures.damaged clean there (c.in_err-take_table.was ∙ ap Err refused)) (has DeveloperTable)

pub returns-in_err-take_table-2-clause-damaged : goal.returns-in_err-take_table-2-clause-damaged
returns-in_err-take_table-2-clause-damaged g c clean has is =
    let first = state g.S.Store c.args.conn.now in
    let after_1 = state g.S.Store c.take_table.new.conn in
    let after_2 = state g.S.Store c.take_table-2.new.conn in
    let kept_1 = kept_then first first after_1 (kept_first first) c.take_table.ensures.writes_nothing c.in_ok-take_table.ensures.unchanged in
    let refused : c.in_err-take_table-2.field-0.0 ≡ faults.Damaged = search (rules, is) in
    let clean_before = was_clean after_1 after_2 (λ _. ⊥) c.take_table-2.ensures.writes_nothing.leaves clean in
    cannot_others_by g.B.SelectedRow.select_text g.B.SelectedRow.kinds ResolutionTable tt resolution_table first.now after_1.now (kept_1 clean_before)
    (λ there. c.take_table-2.ensures.damaged clean there (c.in_err-take_table-2.was ∙ ap Err refused)) (has ResolutionTable)

pub returns-in_err-take_table-3-clause-damaged : goal.returns-in_err-take_table-3-clause-damaged
returns-in_err-take_table-3-clause-damaged g c clean has is =
    let first = state g.S.Store c.args.conn.now in
    let after_1 = state g.S.Store c.take_table.new.conn in
    let after_2 = state g.S.Store c.take_table-2.new.conn in
    let after_3 = state g.S.Store c.take_table-3.new.conn in
    let kept_1 = kept_then first first after_1 (kept_first first) c.take_table.ensures.writes_nothing c.in_ok-take_table.ensures.unchanged in
    let kept_2 = kept_then first after_1 after_2 kept_1 c.take_table-2.ensures.writes_nothing c.in_ok-take_table-2.ensures.unchanged in
    let refused : c.in_err-take_table-3.field-0.0 ≡ faults.Damaged = search (rules, is) in
    let clean_before = was_clean after_2 after_3 (λ _. ⊥) c.take_table-3.ensures.writes_nothing.leaves clean in
    cannot_others_by g.B.SelectedRow.select_text g.B.SelectedRow.kinds ChoiceTable tt choice_table first.now after_2.now (kept_2 clean_before)
    (λ there. c.take_table-3.ensures.damaged clean there (c.in_err-take_table-3.was ∙ ap Err refused)) (has ChoiceTable)

pub returns-in_err-take_table-4-clause-damaged : goal.returns-in_err-take_table-4-clause-damaged
returns-in_err-take_table-4-clause-damaged g c clean has is =
    let first = state g.S.Store c.args.conn.now in
    let after_1 = state g.S.Store c.take_table.new.conn in
    let after_2 = state g.S.Store c.take_table-2.new.conn in
    let after_3 = state g.S.Store c.take_table-3.new.conn in
    let after_4 = state g.S.Store c.take_table-4.new.conn in
    let kept_1 = kept_then first first after_1 (kept_first first) c.take_table.ensures.writes_nothing c.in_ok-take_table.ensures.unchanged in
    let kept_2 = kept_then first after_1 after_2 kept_1 c.take_table-2.ensures.writes_nothing c.in_ok-take_table-2.ensures.unchanged in
    let kept_3 = kept_then first after_2 after_3 kept_2 c.take_table-3.ensures.writes_nothing c.in_ok-take_table-3.ensures.unchanged in
    let refused : c.in_err-take_table-4.field-0.0 ≡ faults.Damaged = search (rules, is) in
    let clean_before = was_clean after_3 after_4 (λ _. ⊥) c.take_table-4.ensures.writes_nothing.leaves clean in
    cannot_others_by g.B.SelectedRow.select_text g.B.SelectedRow.kinds SponsorTable tt sponsor_table first.now after_3.now (kept_3 clean_before)
    (λ there. c.take_table-4.ensures.damaged clean there (c.in_err-take_table-4.was ∙ ap Err refused)) (has SponsorTable)

pub returns-clause-damaged : goal.returns-clause-damaged
returns-clause-damaged g c clean has is =
    let first = state g.S.Store c.args.conn.now in
    let after_1 = state g.S.Store c.take_table.new.conn in
    let after_2 = state g.S.Store c.take_table-2.new.conn in
    let after_3 = state g.S.Store c.take_table-3.new.conn in
    let after_4 = state g.S.Store c.take_table-4.new.conn in
    let after_5 = state g.S.Store c.take_table-5.new.conn in
    let kept_1 = kept_then first first after_1 (kept_first first) c.take_table.ensures.writes_nothing c.in_ok-take_table.ensures.unchanged in
    let kept_2 = kept_then first after_1 after_2 kept_1 c.take_table-2.ensures.writes_nothing c.in_ok-take_table-2.ensures.unchanged in
    let kept_3 = kept_then first after_2 after_3 kept_2 c.take_table-3.ensures.writes_nothing c.in_ok-take_table-3.ensures.unchanged in
    let kept_4 = kept_then first after_3 after_4 kept_3 c.take_table-4.ensures.writes_nothing c.in_ok-take_table-4.ensures.unchanged in
    let clean_before = was_clean after_4 after_5 (λ _. ⊥) c.take_table-5.ensures.writes_nothing.leaves clean in
    cannot_others_by g.B.SelectedRow.select_text g.B.SelectedRow.kinds BallotTable tt g.B.SelectedRow.table first.now after_4.now (kept_4 clean_before)
    (λ there. c.take_table-5.ensures.damaged clean there is) (has BallotTable)
