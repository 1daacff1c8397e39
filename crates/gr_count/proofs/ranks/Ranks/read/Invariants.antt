use Rattle.gr_count.specs.declared.limits.TheConstants.{MAX_OPTIONS}
use Rattle.gr_count.proofs.Texts.{IsReadUpTo}
use Rattle.gr_count.proofs.ranks.Ranks.read.Given as goal

-- the characters so far are marks of a ballot, and these are noted
abbrev pub invariant-loop-option : goal.invariant-loop-option
invariant-loop-option l = IsReadUpTo l.bytes l.ranks MAX_OPTIONS l.option
