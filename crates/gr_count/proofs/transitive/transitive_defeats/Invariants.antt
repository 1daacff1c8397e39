use Rattle.gr_count.specs.Options.{IsRelationBelow, Related}
use Rattle.gr_count.proofs.Joins.{IsClosedUpTo}
use Rattle.gr_count.proofs.transitive.transitive_defeats.Given as goal

-- each option so far was the middle
abbrev pub invariant-loop-middle : goal.invariant-loop-middle
invariant-loop-middle l = IsClosedUpTo (Related l.defeats) (Related l.closed) l.middle × IsRelationBelow l.options l.closed
