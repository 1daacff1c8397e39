use Rattle.std.proofs.Common.{inr}
use Rattle.gr_desk.proofs.LineLemmas.{desk_at, same_clean}
use Rattle.gr_desk.proofs.show.show.Goals as goal

pub returns-clause-does : goal.returns-clause-does
returns-clause-does g c =
    let office = c.in-Ok.office in
    inr (record {
      office = office;
      desk = desk_at g.H.Store.Store _ _ office office.conn c.connection_of.result c.in-Ok.ensures.desk
          (same_clean g.H.Store.Store c.connection_of.result office.conn c.connection_of.ensures.same);
      prints = c.print_sheet-printed.ensures;
      last = c.connection_of.ensures.same;
    })
