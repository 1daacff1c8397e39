use Rattle.std.proofs.Common.{◌≡◌}
use Rattle.gr_count.specs.Shown.{options_of_pairs, options_of_ratios}
use Rattle.gr_count_tests.proofs.tests.comparison.counted.Given as goal

abbrev pub invariant-loop-option : goal.invariant-loop-option
invariant-loop-option g l = options_of_ratios l.ratios ≡ options_of_pairs l.pairs
