use Rattle.std.proofs.Common.{sym, ap, ◌∙◌}
use Rattle.std.specs.Option.{option_copied}
use Rattle.std.specs.FinMap.{insert}
use Rattle.gr_core.specs.declared.sponsor.Sponsorship.TheVariants.{Withdrawn}
use Rattle.gr_core.specs.Parts.Sponsor.{sponsor_count}
use Rattle.gr_core.specs.Machine.Effect.{without_sponsor}
use Rattle.gr_core.proofs.Contents.SponsorLemmas.{sponsor_count-without}
use Rattle.gr_core.proofs.plan.sponsors.sponsors_beside.Goals as goal

pub returns-in-Some : goal.returns-in-Some
returns-in-Some c =
    let sponsors = c.args.tables.now.sponsors in
    let key = c.args.key in
    c.count_without.ensures
    ∙ ap (λ m. sponsor_count (insert m (key, c.in-Some.login.now) Withdrawn) key) c.sponsors.ensures
    ∙ sponsor_count-without sponsors key c.in-Some.login.now
    ∙ ap (λ login. sponsor_count (without_sponsor sponsors key login) key) (sym (ap option_copied c.in-Some.is)
    ∙ c.login.ensures)
