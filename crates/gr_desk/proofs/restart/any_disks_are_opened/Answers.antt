use Rattle.std.proofs.Common.{refl, subst}
use Rattle.sqlite_wal.specs.Reads.{AreClean}
use Rattle.gr_desk.proofs.RestartLemmas.{left_behind, seen_may_stay}
use Rattle.gr_desk.proofs.StopLemmas.{clean_store}
use Rattle.gr_desk.proofs.restart.any_disks_are_opened.Goals as goal

pub returns-in-Ok-clause-opens : goal.returns-in-Ok-clause-opens
returns-in-Ok-clause-opens g c clean = (c.in-Ok.ensures.opened clean).0

pub returns-in-Ok-clause-left : goal.returns-in-Ok-clause-left
returns-in-Ok-clause-left g c opened =
    let ended = c.given_up.result in
    let found = c.in-Ok.ensures.found opened in
    let are = subst (λ files. AreClean g.D.Disk files.0 files.1) c.close-files.ensures found.honest in
    let clean = clean_store ended are in
    let may = seen_may_stay g.D.Disk _ c.close-files.result g.met.D.Disk.seen_may_stay c.close-files.ensures in
    left_behind c.args.office c.args.office.conn ended c.close-files.result c.in-Ok.conn refl
    c.given_up.ensures.quiet clean (c.given_up.ensures.numbered clean) (c.given_up.ensures.sound clean)
    are may found (c.in-Ok.ensures.opened opened).0
