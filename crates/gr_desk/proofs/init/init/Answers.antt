use Rattle.std.proofs.Common.{refl}
use Rattle.gr_desk.proofs.LifeLemmas.{none_there, still_has, survives_clean}
use Rattle.gr_desk.proofs.LineLemmas.{prints, right_sums_of, same_clean}
use Rattle.gr_desk.proofs.init.init.Goals as goal

pub returns-in-Err-made-clause-does : goal.returns-in-Err-made-clause-does
returns-in-Err-made-clause-does g c =
    let store = g.H.Store.Store in
    let said = c.in-Err-made.ensures in
    let after = c.in-Err-made.not_made.conn in (
      c.in-Err-made.not_made.fault,
      refl,
      c.in-Ok.conn,
      c.in-Ok.ensures.found,
      said.failed,
      still_has store ((g.H.Host.known c.args.host.now).content c.args.file.now) c.in-Ok.conn after
          (survives_clean store c.in-Ok.conn after _ said.failed.stops) c.in-Ok.ensures.keeps said.still said.still_desk1,
      refl,
    )

pub returns-clause-does : goal.returns-clause-does
returns-clause-does g c =
    let office = c.in-Ok-made.office in
    let said = c.in-Ok-made.ensures in
    let own = same_clean g.H.Store.Store c.connection_of.result office.conn c.connection_of.ensures.same in
    let printed = c.print-printed.ensures in
    record {
      before = c.in-Ok.conn;
      office = office;
      connected = c.in-Ok.ensures.found;
      sums = c.in-Ok.ensures.sums;
      new_desk = said.desk;
      kept = λ clean. said.new (own clean) (c.in-Ok.ensures.live (said.clean (own clean)));
      adds = λ clean. said.adds (own clean) (c.in-Ok.ensures.live (said.clean (own clean)));
      vacant = λ clean.
          none_there g.H.Store.Store ((g.H.Host.known c.args.host.now).content c.args.file.now) c.in-Ok.conn (said.clean (own clean))
          c.in-Ok.ensures.keeps said.vacant said.vacant_desk1;
      right_sums = λ clean.
          right_sums_of g.H.Store.Store ((g.H.Host.known c.args.host.now).content c.args.file.now) c.in-Ok.conn c.in-Ok.ensures.found
          (said.clean (own clean));
      says = prints _ _ _ c.print-printed.result printed.whole printed.lost;
      last = c.connection_of.ensures.same;
    }
