use Rattle.gr_count.proofs.Sets.{IsGivenUpTo}
use Rattle.gr_count.proofs.numbers.OptionNumbers.set_all.Given as goal

-- the options have the number, but for those that are left
abbrev pub invariant-loop-option : goal.invariant-loop-option
invariant-loop-option l = IsGivenUpTo l.fn.options l.number l.initial.self l.self l.rest

abbrev pub decreases-loop-option : goal.decreases-loop-option
decreases-loop-option l = l.rest.members
