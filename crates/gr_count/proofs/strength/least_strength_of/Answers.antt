use Rattle.std.proofs.Common.{Some, subst}
use Rattle.gr_count.specs.Shown.{voters_above}
use Rattle.gr_count.specs.Strength.{IsWeakerOf}
use Rattle.gr_count.proofs.Strengths.{row_begins, row_goes_on, row_ends, still_left}
use Rattle.gr_count.proofs.strength.least_strength_of.Goals as goal

pub loop-second-init : goal.loop-second-init
loop-second-init c = record {
  least = row_begins (voters_above c.args.pairs.now) c.args.first c.args.losers;
  left = λ b member. member;
}

pub loop-second-preserved : goal.loop-second-preserved
loop-second-preserved c = record {
  least = row_goes_on (voters_above c.args.pairs.now) c.args.first c.args.losers c.loop-second.rest c.pop_first.new.self c.in-Some.second
      c.loop-second.least c.weaker_of-least.result c.loop-second.invariant.least
      (c.loop-second.invariant.left c.in-Some.second c.in-Some.ensures.some.had) c.in-Some.ensures.some
      (subst (λ s. IsWeakerOf c.loop-second.least (Some s) c.weaker_of-least.result) c.of.ensures c.weaker_of-least.ensures);
  left = λ b member. c.loop-second.invariant.left b (still_left c.loop-second.rest c.pop_first.new.self c.in-Some.second c.in-Some.ensures.some b member);
}

pub returns : goal.returns
returns c =
    row_ends (voters_above c.args.pairs.now) c.args.first c.args.losers c.loop-second.rest c.loop-second.least c.loop-second.invariant.least
    c.in_default.ensures.none
