use Rattle.std.proofs.Common.{inr, map, refl, string_bytes}
use Rattle.gr_desk.proofs.ReadLemmas.{line_needed}
use Rattle.gr_desk.proofs.WordLemmas.{replies}
use Rattle.gr_desk.proofs.program.run_on.Goals as goal

pub returns-in-Err-clause-runs : goal.returns-in-Err-clause-runs
returns-in-Err-clause-runs g c =
    let (said, says, tells) = c.tell.ensures in (
      said,
      says,
      inr (inr (
        refl,
        refl,
        refl,
        replies c.in-Err.no_line (map string_bytes c.args.words.now) _ _ _ said c.in-Err.ensures.help
            c.in-Err.ensures.version c.in-Err.ensures.wrong tells,
      )),
    )

pub returns-else-eq-clause-needed : goal.returns-else-eq-clause-needed
returns-else-eq-clause-needed g c = line_needed c.in-Ok.line c.do_line.result.1 _ _ c.do_line.ensures.read
