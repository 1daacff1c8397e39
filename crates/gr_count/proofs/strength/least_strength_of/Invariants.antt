use Rattle.gr_count.specs.Shown.{voters_above}
use Rattle.gr_count.specs.Strength.{IsLeastOf}
use Rattle.gr_count.specs.Options.{Member}
use Rattle.std.proofs.Common.{ℕ}
use Rattle.gr_count.proofs.Strengths.{IsStrengthSoFar}
use Rattle.gr_count.proofs.strength.least_strength_of.Given as goal

-- the least strength over the options that are not left, all of which are losers
abbrev pub invariant-loop-second : goal.invariant-loop-second
invariant-loop-second l = record {
  least : IsLeastOf (IsStrengthSoFar (voters_above l.pairs) l.first l.fn.losers l.rest) l.least;
  left : (b : ℕ) → Member l.rest b → Member l.fn.losers b;
}

abbrev pub decreases-loop-second : goal.decreases-loop-second
decreases-loop-second l = l.rest.members
