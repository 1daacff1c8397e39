use Rattle.std.proofs.Common.{arith}
use Rattle.gr_count.proofs.Finite.{below_if_true}
use Rattle.gr_count.specs.Options.{has}
use Rattle.gr_count.proofs.Sets.{IsJudgedUpTo-more}
use Rattle.gr_count.proofs.options.OptionSet.of.Goals as goal

pub loop-option-preserved : goal.loop-option-preserved
loop-option-preserved g c =
    IsJudgedUpTo-more (goal.F-post g c.args.holds) c.loop-option.set c.and-set.result c.loop-option.option c.holds.result
    c.loop-option.invariant c.and-set.ensures.option c.and-set.ensures.others c.holds.ensures

pub returns-clause-below : goal.returns-clause-below
returns-clause-below g c =
    below_if_true (has c.loop-option.set) c.args.options (λ a h. c.loop-option.invariant.rest a (omega arith))
