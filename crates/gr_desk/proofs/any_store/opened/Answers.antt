use Rattle.std.proofs.Common.{◌≡◌, ◌∙◌, sym, subst, Some, inl, inr}
use Rattle.gr_core.specs.Columns.Stored.{DeskTable}
use Rattle.gr_core.specs.Desks.State.{State}
use Rattle.gr_core.specs.Desks.Version1.{lifted}
use Rattle.gr_office.specs.Office.{Keeps, IsOpenWith}
use Rattle.gr_office.proofs.HistoryLemmas.{kept_left}
use Rattle.gr_office.proofs.OpenLemmas.{keeps_still, was_clean}
use Rattle.sqlite.specs.Held.{state}
use Rattle.sqlite.specs.State.{HasCleanDisk}
use Rattle.gr_desk.proofs.LifeLemmas.{never_desk1, spared, stops_keep, stops_keep_desk1}
use Rattle.gr_desk.proofs.any_store.opened.Goals as goal

pub returns-in-Ok-clause-clean : goal.returns-in-Ok-clause-clean
returns-in-Ok-clause-clean g c clean = was_clean _ _ c.in-Ok.ensures.writes_nothing clean

pub returns-in-Ok-clause-held : goal.returns-in-Ok-clause-held
returns-in-Ok-clause-held g c clean opens s valid leaves =
    let shown = state g.S.Store c.args.conn in
    let was : HasCleanDisk shown = was_clean _ _ c.in-Ok.ensures.writes_nothing clean in
    let kept = c.left_desks_are_held.ensures was opens s leaves in
    let tables = c.tables_made_are_right.ensures shown.now kept.1 in
    let desk : c.in-Ok.office.desk ≡ Some s = c.in-Ok.ensures.valid_is_found tables s valid kept.2 clean in
    let some = c.in-Ok.ensures.open_with clean kept.0 kept.1 in
    let same : some.0 ≡ s = let both = sym some.1.desk ∙ desk in cc in
    subst (λ (t : State). IsOpenWith g.S.Store t c.in-Ok.office) same some.1

pub returns-in-Ok-clause-keeps : goal.returns-in-Ok-clause-keeps
returns-in-Ok-clause-keeps g c clean s valid kept =
    let tables = c.tables_made_are_right.ensures (state g.S.Store c.args.conn).now kept.tables in
    let desk : c.in-Ok.office.desk ≡ Some s = c.in-Ok.ensures.valid_is_found tables s valid kept.holds clean in
    let some = c.in-Ok.ensures.open_with clean kept.settled kept.tables in
    let same : some.0 ≡ s = let both = sym some.1.desk ∙ desk in cc in
    subst (λ (t : State). IsOpenWith g.S.Store t c.in-Ok.office) same some.1

pub returns-in-Err-clause-faults : goal.returns-in-Err-clause-faults
returns-in-Err-clause-faults g c = elim c.in-Err.ensures.failed.can [ inl can ↦ inl can | inr none ↦ inr none.0 ]

pub returns-in-Err-clause-failed : goal.returns-in-Err-clause-failed
returns-in-Err-clause-failed g c = c.in-Err.ensures.failed

pub returns-in-Err-clause-valid : goal.returns-in-Err-clause-valid
returns-in-Err-clause-valid g c clean opens s valid leaves =
    let shown = state g.S.Store c.args.conn in
    let after = c.in-Err.not_opened.conn in
    let none = c.in-Err.ensures.failed.wrote_nothing in
    let was : HasCleanDisk shown = was_clean _ _ none clean in
    let found = c.left_desks_are_held.ensures was opens s leaves in
    let tables = c.tables_made_are_right.ensures shown.now found.1 in
    let kept : Keeps g.S.Store s c.args.conn
    = record { settled = found.0; tables = found.1; holds = found.2 } in (
      c.in-Err.ensures.failed.valid clean tables s valid found.2,
      record {
        keeps = λ live. keeps_still g.S.Store s c.args.conn after none clean live kept;
        leaves = λ trees may. elim (none.leaves.crash clean trees may) [
          | inl before ↦ kept_left g.S.Store s c.args.conn trees kept before
          | inr never ↦ absurd never
        ];
      },
    )

pub returns-in-Ok-clause-not_desk1 : goal.returns-in-Ok-clause-not_desk1
returns-in-Ok-clause-not_desk1 g c clean s valid kept =
    let found = c.in-Ok.ensures.found clean in
    never_desk1 found.0 (state g.S.Store c.args.conn).now (kept.tables.has.own DeskTable).has found.2 found.3 (s, valid, kept.holds)

pub returns-in-Err-clause-still : goal.returns-in-Err-clause-still
returns-in-Err-clause-still g c clean s valid kept =
    spared g.S.Store s c.args.conn c.in-Err.not_opened.conn c.in-Err.ensures.failed.wrote_nothing clean
    (stops_keep g.S.Store s c.args.conn valid kept)

pub returns-in-Err-clause-still_desk1 : goal.returns-in-Err-clause-still_desk1
returns-in-Err-clause-still_desk1 g c clean s valid kept =
    spared g.S.Store (lifted s) c.args.conn c.in-Err.not_opened.conn c.in-Err.ensures.failed.wrote_nothing clean
    (stops_keep_desk1 g.S.Store s c.args.conn valid kept)
