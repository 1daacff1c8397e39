use Rattle.std.proofs.Common.{sym, ap, ◌∙◌, arith}
use Rattle.gr_core.specs.declared.sponsor.Sponsorship.TheVariants.{Active}
use Rattle.gr_core.proofs.Contents.SponsorLemmas.{one_if, sponsor_count-insert}
use Rattle.gr_core.proofs.sponsors.Sponsors.count_with.Goals as goal

pub returns-then-has : goal.returns-then-has
returns-then-has c =
    let change = sponsor_count-insert c.args.self.now c.args.choice c.args.login.now Active in
    omega (arith, change, ap one_if (sym c.has.ensures ∙ c.if-has.true), c.active_count-count.ensures.count)

pub returns-else-has : goal.returns-else-has
returns-else-has c =
    let change = sponsor_count-insert c.args.self.now c.args.choice c.args.login.now Active in
    omega (arith, change, ap one_if (sym c.has.ensures ∙ c.if-has.false), c.active_count-count.ensures.count)
