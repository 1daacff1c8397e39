use Rattle.sqlite.specs.Held.{state}
use Rattle.gr_store.proofs.Reading.RightTables.{right_tables}
use Rattle.gr_store.proofs.StoredDesks.LoadedDesks.{found, never_later, never_earlier, told_later, told_earlier}
use Rattle.gr_store.proofs.store.Store.load.Goals as goal

pub returns-clause-later : goal.returns-clause-later
returns-clause-later g c clean one later =
    let old = (state g.S.Store c.args.self.now.conn).now in (
      never_later old c.load.result one.one (c.load.ensures.holds clean) c.load.ensures.valid later,
      told_later old c.load.result one.one later (λ damaged. c.load.ensures.not_too_new clean one damaged later)
          (c.load.ensures.too_old clean) c.load.ensures.faults,
    )

pub returns-clause-earlier : goal.returns-clause-earlier
returns-clause-earlier g c clean one earlier =
    let old = (state g.S.Store c.args.self.now.conn).now in (
      never_earlier old c.load.result one.one (c.load.ensures.holds clean) c.load.ensures.valid earlier,
      told_earlier old c.load.result one.one earlier (λ damaged. c.load.ensures.not_too_old clean one damaged earlier)
          (c.load.ensures.too_new clean) c.load.ensures.faults,
    )

pub returns-clause-finds : goal.returns-clause-finds
returns-clause-finds g c clean has s valid holds =
    let old = (state g.S.Store c.args.self.now.conn).now in
    found s old c.load.result (right_tables old has) valid holds (c.load.ensures.holds clean) c.load.ensures.valid (λ is.
    c.load.ensures.damaged clean has is s valid holds)
    (c.load.ensures.too_new clean) (c.load.ensures.too_old clean) c.load.ensures.faults
