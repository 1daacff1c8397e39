use Rattle.gr_count.specs.Shown.{voters_above}
use Rattle.gr_count.specs.Strength.{IsLeastOf, IsStrengthIn}
use Rattle.gr_count.proofs.strength.least_strength.Given as goal

-- the least strength of the defeats by the options so far
abbrev pub invariant-loop-first : goal.invariant-loop-first
invariant-loop-first l = IsLeastOf (IsStrengthIn (voters_above l.pairs) l.defeats l.first) l.least
