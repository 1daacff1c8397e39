use Rattle.std.proofs.Common.{ℕ, ◌<◌}
use Rattle.gr_count.specs.Shown.{marks_in}
use Rattle.gr_count.specs.PairwiseCount.{HoldsPair}
use Rattle.gr_count.proofs.pairs.Pairs.holds_row.Given as goal

-- they tell so of each option so far
abbrev pub invariant-loop-second : goal.invariant-loop-second
invariant-loop-second l = (b : ℕ) → b < l.second → HoldsPair (marks_in l.ranks) l.self l.first b
