use Rattle.gr_count.specs.declared.limits.TheConstants.{MAX_OPTIONS}
use Rattle.gr_count.proofs.Fill.{IsUpdated}
use Rattle.gr_count.proofs.numbers.OptionNumbers.update.Given as goal

-- the options so far have the numbers made of theirs, and the later ones their own
abbrev pub invariant-loop-option : goal.invariant-loop-option
invariant-loop-option g l =
    IsUpdated (goal.F-post g l.number) MAX_OPTIONS 0 l.initial.self.numbers l.self.numbers l.option
