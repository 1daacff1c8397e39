use Rattle.std.proofs.Common.{arith}
use Rattle.gr_count.specs.Options.{Related}
use Rattle.gr_count.proofs.Joins.{IsClosedUpTo-none, IsClosedUpTo-more, IsClosedUpTo-all}
use Rattle.gr_count.proofs.transitive.transitive_defeats.Goals as goal

pub loop-middle-init : goal.loop-middle-init
loop-middle-init c = (IsClosedUpTo-none (Related c.args.defeats.now), c.requires.below)

pub loop-middle-preserved : goal.loop-middle-preserved
loop-middle-preserved c = (
  IsClosedUpTo-more (Related c.args.defeats.now) (Related c.loop-middle.closed) (Related c.join.new.self) c.loop-middle.middle c.loop-middle.invariant.0
      c.join.ensures.joined,
  c.join.ensures.below,
)

pub returns : goal.returns
returns c =
    IsClosedUpTo-all c.loop-middle.middle (Related c.args.defeats.now) (Related c.loop-middle.closed)
    (λ a b is. let h = c.requires.below a b is in (omega arith, omega arith)) c.loop-middle.invariant.0
