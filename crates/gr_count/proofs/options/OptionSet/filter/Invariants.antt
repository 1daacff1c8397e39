use Rattle.gr_count.proofs.Sets.{IsFilteredUpTo}
use Rattle.gr_count.proofs.options.OptionSet.filter.Given as goal

-- the members are judged, but for those that are left
abbrev pub invariant-loop-option : goal.invariant-loop-option
invariant-loop-option g l = IsFilteredUpTo (goal.F-post g l.holds) l.fn.self l.set l.rest

abbrev pub decreases-loop-option : goal.decreases-loop-option
decreases-loop-option g l = l.rest.members
