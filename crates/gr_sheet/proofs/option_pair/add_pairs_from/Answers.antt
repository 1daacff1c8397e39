use Rattle.std.proofs.lemmas.List.FromFn.{map-range_with_len_more}
use Rattle.std.proofs.Common.{[], ◌∷◌, arith}
use Rattle.gr_sheet.specs.declared.option_pair.OptionPair.{OptionPair}
use Rattle.gr_sheet.specs.ResultSheet.{pairs_from}
use Rattle.gr_sheet.proofs.LoopLemmas.{grown}
use Rattle.gr_sheet.proofs.option_pair.add_pairs_from.Goals as goal

pub loop-second-preserved : goal.loop-second-preserved
loop-second-preserved c =
    let first = c.args.first in
    let n = c.loop-second.second in
    let pair : OptionPair = record { first = first; second = n } in
    grown c.args.pairs.now.items (pairs_from n first) (pair ∷ []) c.loop-second.invariant c.in_ok-push.ensures.items
    (map-range_with_len_more (λ second. record { first = first; second = second }) 0 n n (omega arith))
