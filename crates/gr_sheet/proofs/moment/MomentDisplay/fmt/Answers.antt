use Rattle.gr_sheet.proofs.TextLemmas.{printed}
use Rattle.gr_sheet.proofs.moment.MomentDisplay.fmt.Goals as goal

pub returns-clause-writes : goal.returns-clause-writes
returns-clause-writes g c = λ plain ok.
    rw (
      c.laid_out.ensures,
      c.laid_out-2.ensures,
      c.laid_out-3.ensures,
      c.laid_out-4.ensures,
      c.laid_out-5.ensures,
      c.laid_out-6.ensures,
      printed c.datetime.result c.args.self.now.seconds c.args.self.now.shown c.datetime.ensures.date c.datetime.ensures.time,
    ) at (c.write.ensures.writes plain ok)
