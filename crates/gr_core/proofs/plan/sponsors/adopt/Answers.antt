use Rattle.std.proofs.Common.{◌≡◌, Option, Some, None, [], ◌∷◌, ◌++◌, map, option_map, sym, ap, ◌∙◌, subst}
use Rattle.std.specs.Prelude.{IfOk, option_to_list, if◌then◌else◌}
use Rattle.gr_core.specs.declared.resolution.Resolution.{Resolution}
use Rattle.gr_core.specs.Parts.Resolution.{entered}
use Rattle.std.specs.FinMap.{get}
use Rattle.gr_core.specs.declared.sponsor.Sponsorship.TheVariants.{Withdrawn}
use Rattle.gr_core.specs.Parts.Choice.{choice_model, proposer_of}
use Rattle.gr_core.specs.Machine.Bookkeeping.{gained, gain_where}
use Rattle.gr_core.specs.Machine.Act.{Adopt}
use Rattle.gr_core.specs.Machine.Row.{RowModel, ChoiceOf, ResolutionOf, SponsorOf, row_of}
use Rattle.gr_core.specs.Machine.Effect.{is_introduction, own, sponsors_put}
use Rattle.gr_core.proofs.Effects.PutLemmas.{gain_where-counted, entered_row, adopted, adopt_puts}
use Rattle.gr_core.proofs.plan.sponsors.adopt.Goals as goal

pub returns-clause-rows : goal.returns-clause-rows
returns-clause-rows c =
    let s = c.args.tables.now in
    let key = c.args.found.now.key in
    let proposer = proposer_of c.args.found.now.proposer.now in
    let t = own s c.args.at (Adopt key proposer) in
    let row = choice_model c.args.found.now.choice.now in
    let there = c.requires.choice in
    let entered_of : Option Resolution → Option RowModel =
    λ found. if is_introduction c.gain_with-gain.result
    then option_map (λ resolution. ResolutionOf key.resolution (entered c.args.at resolution)) found else None in
    let resolution = c.entered_row-resolution.ensures ∙ ap entered_of (sym c.requires.resolution) in
    let choice : choice_model c.proposed_by-choice.result ≡ adopted proposer row
    = c.proposed_by-choice.ensures
    ∙ (λ i. record (c.in_ok-copied.ensures i) { proposer = Some (c.in_ok-proposed.ensures i) }) in
    let gain : gain_where t key (option_map (adopted proposer) (get s.choices key)) ≡ c.gain_with-gain.result
    = ap (λ found. gain_where t key (option_map (adopted proposer) found)) there
    ∙ gain_where-counted t key _ (adopted proposer row) _ _ choice c.sponsors_beside.ensures c.gain_with-gain.ensures in
    let put : choice_model c.gained.result ≡ gained c.gain_with-gain.result c.args.at (adopted proposer row)
    = c.gained.ensures ∙ ap (gained c.gain_with-gain.result c.args.at) choice in
    subst (λ rows. IfOk c.rows.result (λ own. map row_of own.changes.items ≡ rows))
    ((λ i. option_to_list (resolution i) ++ ChoiceOf key (put i) ∷ [] ++ c.in_ok-sponsor.ensures i)
    ∙ (λ i. option_to_list (entered_row s c.args.at key.resolution c.gain_with-gain.result)
    ++ option_to_list (option_map (λ row. ChoiceOf key (gained c.gain_with-gain.result c.args.at (adopted proposer row))) (sym there i))
    ++ map (λ sponsor. SponsorOf sponsor Withdrawn) (sponsors_put s (Adopt key proposer)))
    ∙ sym (adopt_puts s c.args.at key proposer c.gain_with-gain.result gain)) c.rows.ensures.rows
