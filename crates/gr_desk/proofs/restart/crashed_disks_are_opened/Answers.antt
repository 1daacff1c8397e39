use Rattle.std.proofs.Common.{refl, subst}
use Rattle.sqlite_disk.specs.declared.Files.{Files}
use Rattle.sqlite_wal.specs.Reads.{AreClean}
use Rattle.gr_desk.proofs.RestartLemmas.{MaySee, clean_before_crash, left_behind}
use Rattle.gr_desk.proofs.StopLemmas.{clean_store}
use Rattle.gr_desk.proofs.restart.crashed_disks_are_opened.Goals as goal

pub returns-in-Ok-clause-opens : goal.returns-in-Ok-clause-opens
returns-in-Ok-clause-opens g c clean = (c.in-Ok.ensures.opened clean).0

pub returns-in-Ok-clause-left : goal.returns-in-Ok-clause-left
returns-in-Ok-clause-left g c opened =
    let ended = c.given_up.result in
    let found = c.in-Ok.ensures.found opened in
    let crashed : Files g.row.D.Denot = record { log = c.crash.new.self; db = c.crash-2.new.self } in
    let were = clean_before_crash g.D.Disk c.close-files.result crashed c.crash.ensures.clean c.crash-2.ensures.clean found.honest in
    let are = subst (λ files. AreClean g.D.Disk files.0 files.1) c.close-files.ensures were in
    let may = subst (λ files. MaySee g.D.Disk files crashed) c.close-files.ensures (c.crash.ensures.left, c.crash-2.ensures.left) in
    let clean = clean_store ended are in
    left_behind c.args.office c.args.office.conn ended crashed c.in-Ok.conn refl c.given_up.ensures.quiet clean
    (c.given_up.ensures.numbered clean) (c.given_up.ensures.sound clean) are may found (c.in-Ok.ensures.opened opened).0
