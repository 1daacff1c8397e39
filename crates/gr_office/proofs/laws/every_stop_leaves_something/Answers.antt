use Rattle.std.proofs.Common.{ap, subst}
use Rattle.std.proofs.Math.Logic.{∥∥₁_elim}
use Rattle.sqlite.specs.Held.{state}
use Rattle.gr_office.proofs.laws.every_stop_leaves_something.Goals as goal

pub returns-clause-shown : goal.returns-clause-shown
returns-clause-shown g c s is =
    let conn = c.args.office.now.conn in
    let settled = is.kept.settled in
    subst (state g.S.Store conn).may_leave (ap (λ d. d.trees) settled.committed) (g.met.S.Store.stays conn.store settled.is_open)

pub returns-clause-some : goal.returns-clause-some
returns-clause-some g c clean none =
    ∥∥₁_elim (g.met.S.Store.survives c.args.office.now.conn.store clean) (λ a b. absurd a) (λ left. none left.0 left.1)
