use Rattle.std.proofs.Common.{map, refl}
use Rattle.std.proofs.lemmas.Result.{on_ok_weaker}
use Rattle.gr_core.specs.Machine.Row.{row_of, put_all}
use Rattle.gr_store.specs.Commits.{HasPut, LeavesDesk, LeavesBeside}
use Rattle.sqlite.specs.Held.{state}
use Rattle.sqlite.proofs.StateLemmas.{survives_weaker}
use Rattle.gr_store.proofs.Connections.PutsInTurn.{puts_keep}
use Rattle.gr_store.proofs.StoredDesks.HeldDesks.{puts_hold, leaves_put, leaves_beside}
use Rattle.gr_store.proofs.store.Store.commit.Goals as goal

pub returns-clause-holds : goal.returns-clause-holds
returns-clause-holds g c clean live made s held =
    let old = (state g.S.Store c.args.self.now.conn).now in
    let new = (state g.S.Store c.commit-done.new.conn).now in
    let rows = map row_of c.args.changes.now in
    on_ok_weaker c.commit-done.result (puts_hold s rows old new made held)
    (c.commit-done.ensures.puts clean live old.schema made.own refl)

pub returns-clause-keeps : goal.returns-clause-keeps
returns-clause-keeps g c clean live made =
    let old = (state g.S.Store c.args.self.now.conn).now in
    let new = (state g.S.Store c.commit-done.new.conn).now in
    on_ok_weaker c.commit-done.result (puts_keep made.own (map row_of c.args.changes.now) old new)
    (c.commit-done.ensures.puts clean live old.schema made.own refl)

pub returns-clause-crash : goal.returns-clause-crash
returns-clause-crash g c made s held =
    let old = state g.S.Store c.args.self.now.conn in
    let rows = map row_of c.args.changes.now in
    survives_weaker old (state g.S.Store c.commit-done.new.conn) (HasPut made.own rows old.now)
    (LeavesDesk (put_all s rows)) (λ clean. leaves_put s rows old.now made held)
    (c.commit-done.ensures.crash old.now.schema made.own refl)

pub returns-clause-leaves : goal.returns-clause-leaves
returns-clause-leaves g c made =
    let old = state g.S.Store c.args.self.now.conn in
    let rows = map row_of c.args.changes.now in
    survives_weaker old (state g.S.Store c.commit-done.new.conn) (HasPut made.own rows old.now)
    (LeavesBeside made.own old.now) (λ clean. leaves_beside rows old.now made)
    (c.commit-done.ensures.crash old.now.schema made.own refl)

pub returns-clause-puts : goal.returns-clause-puts
returns-clause-puts g c clean live made =
    c.commit-done.ensures.puts clean live (state g.S.Store c.args.self.now.conn).now.schema made.own refl
