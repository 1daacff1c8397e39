use Rattle.std.proofs.Common.{◌≡◌, arith, refl}
use Rattle.gr_count.specs.declared.limits.TheConstants.{MAX_OPTIONS}
use Rattle.gr_count.specs.Options.{number_of}
use Rattle.gr_count.proofs.Finite.{below_if_more}
use Rattle.gr_count.proofs.Fill.{IsFilled-none, IsFilled-more}
use Rattle.gr_count.proofs.numbers.OptionNumbers.of.Goals as goal

pub loop-option-init : goal.loop-option-init
loop-option-init g c = IsFilled-none (goal.F-post g c.args.number) (λ n. n ≡ 0) MAX_OPTIONS 0 0 refl refl

pub loop-option-preserved : goal.loop-option-preserved
loop-option-preserved g c =
    IsFilled-more (goal.F-post g c.args.number) (λ n. n ≡ 0) MAX_OPTIONS 0 c.loop-option.numbers c.loop-option.option c.number.result
    c.loop-option.invariant (omega arith) c.number.ensures

pub returns-clause-below : goal.returns-clause-below
returns-clause-below g c =
    below_if_more (number_of record { numbers = c.loop-option.numbers }) c.args.options (λ a h. c.loop-option.invariant.rest a (omega arith))
