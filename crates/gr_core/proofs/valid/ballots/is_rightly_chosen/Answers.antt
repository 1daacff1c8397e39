use Rattle.std.proofs.Common.{◌≡◌, ◌↔◌, Bool, true, false, not, Some, IsTrue, refl, sym, subst, rules}
use Rattle.gr_core.specs.declared.resolution.Resolution.TheVariants.{Closed}
use Rattle.gr_core.specs.Desks.Valid.{IsRightlyChosen}
use Rattle.gr_core.proofs.Collections.PresenceLemmas.{not_false}
use Rattle.gr_core.proofs.valid.ballots.is_rightly_chosen.Goals as goal

-- a test that is false holds just of what does not
denied : (A : Type 0) (b : Bool) → IsTrue b ↔ A → IsTrue (not b) ↔ (¬ A)
denied A true told = (λ never. absurd (not_false never), λ no. absurd (no (told.0 refl)))
denied A false told = (λ _ holds. not_false (told.1 holds), λ _. refl)

pub returns-in-Closed-default-default-Some : goal.returns-in-Closed-default-default-Some
returns-in-Closed-default-default-Some c =
    let it = c.in-Closed-default-default-Some in
    let is : c.args.resolution ≡ Closed it.field-0 it.poll (Some it.place) = search (rules, it.is, it.field-2-is) in
    subst (λ resolution. IsTrue (not c.cannot_be_chosen.result) ↔ IsRightlyChosen c.args.tables.now c.args.number resolution) (sym is)
    (denied _ c.cannot_be_chosen.result c.cannot_be_chosen.ensures)
