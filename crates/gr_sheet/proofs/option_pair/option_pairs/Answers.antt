use Rattle.std.proofs.Common.{ap, sym, ◌∙◌, ◌++◌, arith}
use Rattle.gr_sheet.specs.ResultSheet.{pairs_from}
use Rattle.gr_sheet.proofs.LoopLemmas.{flat_map-range_more}
use Rattle.gr_sheet.proofs.option_pair.option_pairs.Goals as goal

pub loop-first-preserved : goal.loop-first-preserved
loop-first-preserved c =
    let n = c.loop-first.first in
    c.in_ok-add_pairs_from.ensures
    ∙ ap (λ pairs. pairs ++ pairs_from c.args.options n) c.loop-first.invariant
    ∙ sym (flat_map-range_more (pairs_from c.args.options) 0 n n (omega arith))
