use Rattle.std.proofs.Common.{◌≡◌}
use Rattle.std.specs.List.{flat_map}
use Rattle.gr_count.specs.Options.{options_below}
use Rattle.gr_sheet.specs.ResultSheet.{pairs_from}
use Rattle.gr_sheet.proofs.option_pair.option_pairs.Given as goal

-- the pairs of the options so far are there
abbrev pub invariant-loop-first : goal.invariant-loop-first
invariant-loop-first l = l.pairs.items ≡ flat_map (pairs_from l.options) (options_below l.first)
