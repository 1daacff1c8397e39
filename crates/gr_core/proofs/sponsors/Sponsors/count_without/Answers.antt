use Rattle.std.proofs.Common.{sym, ap, ◌∙◌, arith}
use Rattle.gr_core.specs.declared.sponsor.Sponsorship.TheVariants.{Withdrawn}
use Rattle.gr_core.proofs.Contents.SponsorLemmas.{one_if, sponsor_count-insert}
use Rattle.gr_core.proofs.sponsors.Sponsors.count_without.Goals as goal

pub overflow_sub-result : goal.overflow_sub-result
overflow_sub-result c =
    let change = sponsor_count-insert c.args.self.now c.args.choice c.args.login.now Withdrawn in
    omega (arith, change, ap one_if (sym c.has.ensures ∙ c.if-has.true), c.active_count-count.ensures.count)

pub returns-then-has : goal.returns-then-has
returns-then-has c =
    let change = sponsor_count-insert c.args.self.now c.args.choice c.args.login.now Withdrawn in
    omega (arith, change, ap one_if (sym c.has.ensures ∙ c.if-has.true), c.active_count-count.ensures.count)

pub returns-else-has : goal.returns-else-has
returns-else-has c =
    let change = sponsor_count-insert c.args.self.now c.args.choice c.args.login.now Withdrawn in
    omega (arith, change, ap one_if (sym c.has.ensures ∙ c.if-has.false), c.active_count-count.ensures.count)
