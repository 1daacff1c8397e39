use Rattle.sqlite.specs.Held.{state}
use Rattle.gr_office.proofs.OpenLemmas.{opened_with, unopened_keeps, clean_before}
use Rattle.gr_office.proofs.laws.a_kept_desk_opens.Goals as goal

pub returns-clause-opened : goal.returns-clause-opened
returns-clause-opened g c s valid kept =
    let right = c.tables_made_are_right.ensures (state g.S.Store c.args.conn).now kept.tables in
    opened_with g.S.Store c.args.conn s c.open.result kept c.open.ensures.open_with
    (c.open.ensures.valid_is_found right s valid kept.holds)

pub returns-clause-failed : goal.returns-clause-failed
returns-clause-failed g c s valid kept =
    let right = c.tables_made_are_right.ensures (state g.S.Store c.args.conn).now kept.tables in
    unopened_keeps g.S.Store c.args.conn s c.open.result right valid kept c.open.ensures.failed

pub returns-clause-clean : goal.returns-clause-clean
returns-clause-clean g c =
    clean_before g.S.Store c.args.conn c.open.result c.open.ensures.writes_nothing c.open.ensures.failed
