use Rattle.std.proofs.Common.{arith, refl, ◌∙◌}
use Rattle.gr_count.specs.declared.limits.TheConstants.{MAX_OPTIONS}
use Rattle.gr_count.proofs.Texts.{IsReadUpTo-none, IsReadUpTo-more, all_are_marks}
use Rattle.gr_count.proofs.ranks.Ranks.read.Goals as goal

pub loop-option-init : goal.loop-option-init
loop-option-init c = IsReadUpTo-none c.args.bytes.now MAX_OPTIONS

pub loop-option-preserved : goal.loop-option-preserved
loop-option-preserved c =
    let read = c.in-Some.ensures in
    IsReadUpTo-more c.args.bytes.now c.loop-option.ranks MAX_OPTIONS c.loop-option.option c.rank.result c.loop-option.invariant (omega arith)
    c.loop-option-test.true (read.some.0 refl) (c.rank.ensures.mark ∙ read.mark) c.rank.ensures.few

pub returns-clause-ok : goal.returns-clause-ok
returns-clause-ok c = (
  λ _. (
    c.if-bytes-options.false,
    all_are_marks c.args.bytes.now c.loop-option.ranks MAX_OPTIONS c.loop-option.option c.loop-option.invariant c.loop-option-test.false,
  ),
  λ _. refl,
)
