use Rattle.std.proofs.Common.{◌≡◌, ◌++◌}
use Rattle.gr_sheet.specs.ResultSheet.{pairs_from}
use Rattle.gr_sheet.proofs.option_pair.add_pairs_from.Given as goal

-- the pairs with the options so far were added
abbrev pub invariant-loop-second : goal.invariant-loop-second
invariant-loop-second l = l.pairs.items ≡ l.fn.pairs.items ++ pairs_from l.second l.first
