use Rattle.std.proofs.Common.{◌≡◌, ◌∙◌, true, false, inl, inr, refl, sym}
use Rattle.gr_core.specs.Desks.Version1.{lifted}
use Rattle.gr_office.specs.Office.{IsOpenWith}
use Rattle.sqlite.specs.Held.{state}
use Rattle.sqlite.specs.State.{HasCleanDisk}
use Rattle.gr_desk.proofs.LifeLemmas.{still_has}
use Rattle.gr_desk.proofs.LineLemmas.{of_held, of_held_1, prints, right_sums_of, same_clean}
use Rattle.gr_desk.proofs.migrate.migrate.Goals as goal

pub returns-in-Err-migrated_office-clause-does : goal.returns-in-Err-migrated_office-clause-does
returns-in-Err-migrated_office-clause-does g c =
    let store = g.H.Store.Store in
    let said = c.in-Err-migrated_office.ensures in
    let after = c.in-Err-migrated_office.not_migrated.conn in
    inl (
      c.in-Err-migrated_office.not_migrated.fault,
      refl,
      c.in-Ok.ensures.there,
      c.in-Ok.conn,
      c.in-Ok.ensures.found,
      said.failed,
      still_has store ((g.H.Host.known c.args.host.now).content c.args.file.now) c.in-Ok.conn after said.failed.clean c.in-Ok.ensures.keeps
          said.still said.still_desk1,
      refl,
    )

pub returns-then-migrated-clause-does : goal.returns-then-migrated-clause-does
returns-then-migrated-clause-does g c =
    let store = g.H.Store.Store in
    let known = (g.H.Host.known c.args.host.now).content c.args.file.now in
    let said = c.in-Ok-migrated_office.ensures in
    let office = c.in-Ok-migrated_office.migrated.office in
    let own = same_clean store c.connection_of-conn.result office.conn c.connection_of-conn.ensures.same in
    let printed = c.print-printed.ensures in
    record {
      before = c.in-Ok.conn;
      office = office;
      there = c.in-Ok.ensures.there;
      connected = c.in-Ok.ensures.found;
      found = λ clean. said.found (own clean);
      untouched = said.untouched;
      stayed = of_held store known c.in-Ok.conn (HasCleanDisk (state store c.connection_of-conn.result))
          (λ s. IsOpenWith store s office × (true ≡ false)) c.in-Ok.ensures.found (λ clean. said.clean (own clean))
          (λ clean opens s valid leaves.
          let it = said.held (own clean) opens s valid leaves in (it.0, sym c.if-migrated.true ∙ it.1))
          (λ clean s valid kept. let it = said.keeps (own clean) s valid kept in (it.0, sym c.if-migrated.true ∙ it.1));
      lifts = of_held_1 store known c.in-Ok.conn (HasCleanDisk (state store c.connection_of-conn.result))
          (λ s. IsOpenWith store (lifted s) office × (true ≡ true)) c.in-Ok.ensures.found (λ clean. said.clean (own clean))
          (λ clean opens s valid leaves. ((said.lifted (own clean) opens s valid leaves).0, refl));
      right_sums = λ clean. right_sums_of store known c.in-Ok.conn c.in-Ok.ensures.found (said.clean (own clean));
      says = prints _ _ _ c.print-printed.result printed.whole printed.lost;
      last = c.connection_of-conn.ensures.same;
    }

pub returns-else-migrated-clause-does : goal.returns-else-migrated-clause-does
returns-else-migrated-clause-does g c =
    let store = g.H.Store.Store in
    let known = (g.H.Host.known c.args.host.now).content c.args.file.now in
    let said = c.in-Ok-migrated_office.ensures in
    let office = c.in-Ok-migrated_office.migrated.office in
    let own = same_clean store c.connection_of-conn.result office.conn c.connection_of-conn.ensures.same in
    let printed = c.print-printed.ensures in
    inr (record {
      before = c.in-Ok.conn;
      office = office;
      there = c.in-Ok.ensures.there;
      connected = c.in-Ok.ensures.found;
      found = λ clean. said.found (own clean);
      untouched = said.untouched;
      stayed = of_held store known c.in-Ok.conn (HasCleanDisk (state store c.connection_of-conn.result))
          (λ s. IsOpenWith store s office × (false ≡ false)) c.in-Ok.ensures.found (λ clean. said.clean (own clean))
          (λ clean opens s valid leaves. ((said.held (own clean) opens s valid leaves).0, refl))
          (λ clean s valid kept. ((said.keeps (own clean) s valid kept).0, refl));
      lifts = of_held_1 store known c.in-Ok.conn (HasCleanDisk (state store c.connection_of-conn.result))
          (λ s. IsOpenWith store (lifted s) office × (false ≡ true)) c.in-Ok.ensures.found (λ clean. said.clean (own clean))
          (λ clean opens s valid leaves.
          let it = said.lifted (own clean) opens s valid leaves in (it.0, sym c.if-migrated.false ∙ it.1));
      right_sums = λ clean. right_sums_of store known c.in-Ok.conn c.in-Ok.ensures.found (said.clean (own clean));
      says = prints _ _ _ c.print-printed.result printed.whole printed.lost;
      last = c.connection_of-conn.ensures.same;
    })
