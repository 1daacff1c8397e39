use Rattle.std.proofs.Common.{sym, ap, ◌∙◌}
use Rattle.sqlite.specs.Held.{state}
use Rattle.gr_store.proofs.StoredDesks.HeldDesks.{left_held}
use Rattle.gr_store.proofs.laws.left_desks_are_held.Goals as goal

pub returns : goal.returns
returns g c clean opens s left =
    let conn = state g.S.Store c.args.conn.now in
    let held = left_held s conn.now (c.schema.ensures.live opens.is_open).0 left in (
      record {
        is_open = opens.is_open;
        outside = opens.autocommit;
        committed = sym opens.clean;
        only = λ trees may. g.met.S.Store.settled c.args.conn.now.store trees opens.is_open may ∙ ap (λ d. d.trees) (sym opens.clean);
      },
      held.0,
      held.1,
    )
