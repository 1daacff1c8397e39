use Rattle.std.proofs.Common.{◌∙◌, sym}
use Rattle.sqlite.specs.Files.{over_files}
use Rattle.sqlite_wal.specs.Files.{image_at}
use Rattle.gr_desk.proofs.SystemLemmas.{asked_sums}
use Rattle.gr_desk.proofs.system.SystemHost.connect_to.Goals as goal

pub returns-in-Ok-clause-sums : goal.returns-in-Ok-clause-sums
returns-in-Ok-clause-sums g c =
    asked_sums over_files (image_at g.S.Start) c.args.has_sums c.in-Ok.conn c.in-Some.start _ (sym c.in-Some.is ∙ c.take.ensures.value)
    c.in-Ok.ensures.sums
