use Rattle.std.proofs.Common.{◌≡◌, Option, None, [], ◌∷◌, ◌++◌, map, option_map, refl, sym, ap, ◌∙◌, subst}
use Rattle.std.specs.Prelude.{IfOk, option_to_list, if◌then◌else◌}
use Rattle.std.specs.FinMap.{insert}
use Rattle.gr_core.specs.declared.resolution.Resolution.{Resolution}
use Rattle.gr_core.specs.declared.sponsor.Sponsorship.TheVariants.{Active}
use Rattle.gr_core.specs.Parts.Resolution.{entered}
use Rattle.gr_core.specs.Parts.Choice.{ChoiceModel, choice_model}
use Rattle.gr_core.specs.Parts.Sponsor.{sponsor_count}
use Rattle.gr_core.specs.Machine.Bookkeeping.{gain_where, gain_at, gained}
use Rattle.gr_core.specs.Machine.Act.{Sponsor}
use Rattle.gr_core.specs.Machine.Row.{RowModel, ChoiceOf, ResolutionOf, row_of}
use Rattle.gr_core.specs.Machine.Effect.{is_gain, is_introduction, own}
use Rattle.gr_core.proofs.Effects.PutLemmas.{gain_where-counted, sponsor_puts}
use Rattle.gr_core.proofs.plan.sponsors.sponsor.Goals as goal

pub returns-clause-rows : goal.returns-clause-rows
returns-clause-rows c =
    let s = c.args.tables.now in
    let at = c.args.at in
    let key = c.args.found.now.key in
    let login = c.args.found.now.login.now in
    let t = own s at (Sponsor key login) in
    let row = choice_model c.args.found.now.choice.now in
    let gain = c.gain_with-gain.result in
    let sponsors : c.count_with.result ≡ sponsor_count (insert s.sponsors (key, login) Active) key =
    c.count_with.ensures ∙ ap (λ m. sponsor_count (insert m (key, login) Active) key) c.sponsors.ensures in
    let gains : gain_at t key ≡ gain = ap (gain_where t key) c.requires.choice
    ∙ gain_where-counted t key row row _ _ refl sponsors c.gain_with-gain.ensures in
    let entered_of : Option Resolution → Option RowModel =
    λ found. if is_introduction gain then option_map (λ resolution. ResolutionOf key.resolution (entered at resolution)) found else None in
    let gained_of : Option ChoiceModel → Option RowModel =
    λ found. if is_gain gain then option_map (λ choice. ChoiceOf key (gained gain at choice)) found else None in
    let resolution = c.entered_row-resolution.ensures ∙ ap entered_of (sym c.requires.resolution) in
    let choice = c.in_ok-choice.ensures ∙ ap gained_of (sym c.requires.choice) in
    subst (λ rows. IfOk c.rows.result (λ own. map row_of own.changes.items ≡ rows))
    ((λ i. option_to_list (resolution i) ++ option_to_list (choice i) ++ c.in_ok-sponsor.ensures i ∷ [])
    ∙ sym (sponsor_puts s at key login gain gains)) c.rows.ensures.rows
