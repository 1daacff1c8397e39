use Rattle.std.proofs.Common.{◌∙◌, subst, sym, true≢false}
use Rattle.gr_core.specs.Columns.Stored.{DeskTable}
use Rattle.gr_core.specs.Desks.Version1.{lifted}
use Rattle.sqlite.specs.Held.{state}
use Rattle.gr_desk.specs.Host.{StopsKeepDesk}
use Rattle.gr_desk.proofs.LifeLemmas.{occupied, stops_keep, stops_keep_desk1}
use Rattle.gr_desk.proofs.any_store.made.Goals as goal

pub returns-in-Ok-clause-vacant : goal.returns-in-Ok-clause-vacant
returns-in-Ok-clause-vacant g c s kept =
    let schema = (state g.S.Store c.args.conn).now.schema in
    true≢false (sym (occupied schema (kept.tables.own DeskTable).has) ∙ c.in-Ok.ensures.vacant)

pub returns-in-Ok-clause-vacant_desk1 : goal.returns-in-Ok-clause-vacant_desk1
returns-in-Ok-clause-vacant_desk1 g c s kept =
    let schema = (state g.S.Store c.args.conn).now.schema in
    true≢false (sym (occupied schema (kept.tables.has.own DeskTable).has) ∙ c.in-Ok.ensures.vacant)

pub returns-in-Err-clause-failed : goal.returns-in-Err-clause-failed
returns-in-Err-clause-failed g c = c.in-Err.ensures.failed

pub returns-in-Err-clause-still : goal.returns-in-Err-clause-still
returns-in-Err-clause-still g c clean s valid kept =
    let conn = c.args.conn in
    let schema = (state g.S.Store conn).now.schema in
    let alone = (c.in-Err.ensures.failed.occupied kept.settled.outside (occupied schema (kept.tables.own DeskTable).has)).1 in
    subst (StopsKeepDesk g.S.Store s) (sym alone) (stops_keep g.S.Store s conn valid kept)

pub returns-in-Err-clause-still_desk1 : goal.returns-in-Err-clause-still_desk1
returns-in-Err-clause-still_desk1 g c clean s valid kept =
    let conn = c.args.conn in
    let schema = (state g.S.Store conn).now.schema in
    let alone = (c.in-Err.ensures.failed.occupied kept.settled.outside (occupied schema (kept.tables.has.own DeskTable).has)).1 in
    subst (StopsKeepDesk g.S.Store (lifted s)) (sym alone) (stops_keep_desk1 g.S.Store s conn valid kept)
