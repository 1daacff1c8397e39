use Rattle.gr_count.proofs.Sets.{IsJudgedUpTo}
use Rattle.gr_count.proofs.options.OptionSet.of.Given as goal

-- the options so far are judged, and no later one is in the set
abbrev pub invariant-loop-option : goal.invariant-loop-option
invariant-loop-option g l = IsJudgedUpTo (goal.F-post g l.holds) l.set l.option
