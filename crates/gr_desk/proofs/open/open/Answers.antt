use Rattle.gr_office.specs.Office.{IsOpenWith}
use Rattle.sqlite.specs.Held.{state}
use Rattle.sqlite.specs.State.{HasCleanDisk}
use Rattle.std.proofs.Common.{refl}
use Rattle.gr_office.proofs.OpenLemmas.{was_clean}
use Rattle.gr_desk.proofs.LifeLemmas.{none_desk1, still_has}
use Rattle.gr_desk.proofs.LineLemmas.{of_held, right_sums_of}
use Rattle.gr_desk.proofs.open.open.Goals as goal

pub returns-in-Ok-opened-clause-desk : goal.returns-in-Ok-opened-clause-desk
returns-in-Ok-opened-clause-desk g c =
    let said = c.in-Ok-opened.ensures in
    let office = c.in-Ok-opened.office in
    record {
      before = c.in-Ok.conn;
      there = c.in-Ok.ensures.there;
      connected = c.in-Ok.ensures.found;
      wrote_nothing = said.writes_nothing;
      found = said.found;
      open_with = of_held g.H.Store.Store ((g.H.Host.known c.args.host.now).content c.args.file.now) c.in-Ok.conn
          (HasCleanDisk (state g.H.Store.Store office.conn))
          (λ s. IsOpenWith g.H.Store.Store s office)
          c.in-Ok.ensures.found said.clean said.held said.keeps;
      not_desk1 = λ clean.
          none_desk1 g.H.Store.Store ((g.H.Host.known c.args.host.now).content c.args.file.now) c.in-Ok.conn (said.clean clean)
          c.in-Ok.ensures.keeps (said.not_desk1 clean);
      right_sums = λ clean.
          right_sums_of g.H.Store.Store ((g.H.Host.known c.args.host.now).content c.args.file.now) c.in-Ok.conn c.in-Ok.ensures.found
          (said.clean clean);
    }

pub returns-in-Err-opened-clause-unopened : goal.returns-in-Err-opened-clause-unopened
returns-in-Err-opened-clause-unopened g c =
    let store = g.H.Store.Store in
    let said = c.in-Err-opened.ensures in
    let after = c.in-Err-opened.not_opened.conn in (
      c.in-Err-opened.not_opened.fault,
      refl,
      c.in-Ok.ensures.there,
      c.in-Ok.conn,
      c.in-Ok.ensures.found,
      said.failed,
      still_has store ((g.H.Host.known c.args.host.now).content c.args.file.now) c.in-Ok.conn after
          (was_clean (state store c.in-Ok.conn) (state store after) said.failed.wrote_nothing) c.in-Ok.ensures.keeps said.still said.still_desk1,
    )
