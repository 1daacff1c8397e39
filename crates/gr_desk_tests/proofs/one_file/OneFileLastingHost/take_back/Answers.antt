use Rattle.std.proofs.Common.{◌≡◌, true, rules}
use Rattle.std.specs.Str.{bytes_eq}
use Rattle.gr_desk.specs.Host.{Bytes}
use Rattle.sqlite.specs.Files.{image_of}
use Rattle.gr_desk_tests.proofs.HostLemmas.{its_content, next_of_left}
use Rattle.gr_desk_tests.proofs.one_file.OneFileLastingHost.take_back.Goals.{in-Close, in-Close-2}
use Rattle.gr_desk_tests.proofs.one_file.OneFileLastingHost.take_back.Goals as goal

pub returns-clause-next : goal.returns-clause-next
returns-clause-next g c ok =
    let same : bytes_eq c.args.file.now c.args.self.now.name.now ≡ true = search rules in (
      Bytes (image_of g.D.Disk c.come_back.result),
      its_content _ _ _ same,
      λ found. elim c.match-replace.branch [
        | in-Close w ↦ next_of_left _ found _ _ _ _ _ c.replace.ensures.value w.in-Close.is w.conn-is c.come_back.ensures
        | in-Close-2 w ↦ next_of_left _ found _ _ _ _ _ c.replace.ensures.value w.in-Close.is w.conn-is c.come_back.ensures
      ],
    )
