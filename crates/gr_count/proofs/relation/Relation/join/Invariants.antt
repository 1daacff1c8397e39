use Rattle.gr_count.specs.declared.limits.TheConstants.{MAX_OPTIONS}
use Rattle.gr_count.proofs.Joins.{IsJoinedUpTo}
use Rattle.gr_count.proofs.relation.Relation.join.Given as goal

-- the rows so far are joined, and the later ones are as they were
abbrev pub invariant-loop-option : goal.invariant-loop-option
invariant-loop-option l = IsJoinedUpTo MAX_OPTIONS l.initial.self l.self l.middle l.option
