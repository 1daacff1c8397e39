use Rattle.std.proofs.Common.{ℕ, ◌<◌}
use Rattle.gr_count.specs.Shown.{marks_in, options_of_pairs}
use Rattle.gr_count.specs.PairwiseCount.{HoldsPair}
use Rattle.gr_count.proofs.pairs.Pairs.holds.Given as goal

-- they tell so of each option so far and each other one
abbrev pub invariant-loop-first : goal.invariant-loop-first
invariant-loop-first l = (a : ℕ) → a < l.first → (b : ℕ) → b < options_of_pairs l.self → HoldsPair (marks_in l.ranks) l.self a b
