use Rattle.std.proofs.Common.{◌≡◌}
use Rattle.gr_count.specs.declared.limits.TheConstants.{MAX_OPTIONS}
use Rattle.gr_count.proofs.Fill.{IsFilled}
use Rattle.gr_count.proofs.numbers.OptionNumbers.of.Given as goal

-- the options so far have their numbers, and each later one has 0
abbrev pub invariant-loop-option : goal.invariant-loop-option
invariant-loop-option g l =
    IsFilled (goal.F-post g l.number) (λ n. n ≡ 0) MAX_OPTIONS 0 l.numbers l.option
