use Rattle.std.proofs.Common.{◌≡◌, subst, arith}
use Rattle.gr_count.specs.Options.{Member}
use Rattle.gr_count.specs.Shown.{options_of_pairs, voters_above}
use Rattle.gr_count.specs.Strength.{IsLeastOf, IsStrengthIn, IsStrengthOver}
use Rattle.gr_count.proofs.Strengths.{all_more}
use Rattle.gr_count.proofs.strength.least_strength.Goals as goal

pub least_strength_of-requires-clause-losers : goal.least_strength_of-requires-clause-losers
least_strength_of-requires-clause-losers c = λ b member.
    (c.requires c.loop-first.first b (subst (λ row. Member row b) c.row.ensures member)).1

pub loop-first-preserved : goal.loop-first-preserved
loop-first-preserved c =
    all_more (voters_above c.args.pairs.now) c.args.defeats.now c.loop-first.first c.loop-first.least c.least_strength_of.result
    c.weaker_of-least.result c.loop-first.invariant
    (subst (λ row. IsLeastOf (IsStrengthOver (voters_above c.args.pairs.now) c.loop-first.first (Member row)) c.least_strength_of.result) c.row.ensures
    c.least_strength_of.ensures)
    c.weaker_of-least.ensures

pub returns : goal.returns
returns c =
    let all : c.loop-first.first ≡ options_of_pairs c.args.pairs.now = omega arith in
    subst (λ n. IsLeastOf (IsStrengthIn (voters_above c.args.pairs.now) c.args.defeats.now n) c.loop-first.least) all c.loop-first.invariant
