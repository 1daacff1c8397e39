use Rattle.std.proofs.Common.{◌≡◌, ◌+◌, Option, Some, None, [], ◌∷◌, ◌++◌, map, option_map, length, sym, ap, ◌∙◌, subst}
use Rattle.std.specs.Prelude.{IfOk, option_to_list, if◌then◌else◌}
use Rattle.gr_core.specs.declared.resolution.Resolution.{Resolution}
use Rattle.gr_core.specs.Parts.Resolution.{entered}
use Rattle.gr_core.specs.Parts.Choice.{choice_model, choice_key, choices_of, proposer_of, wording_of}
use Rattle.gr_core.specs.Parts.Sponsor.{sponsor_count}
use Rattle.gr_core.specs.Machine.Bookkeeping.{gained, gain_where}
use Rattle.gr_core.specs.Machine.Act.{AddChoice}
use Rattle.gr_core.specs.Machine.Row.{RowModel, ChoiceOf, ResolutionOf, row_of}
use Rattle.gr_core.specs.Machine.Effect.{is_introduction, next_choice_key, new_choice, own}
use Rattle.gr_core.proofs.Effects.PutLemmas.{gain_where-counted, add_choice_puts}
use Rattle.gr_core.proofs.plan.choices.add_choice.Goals as goal

pub returns-clause-rows : goal.returns-clause-rows
returns-clause-rows c =
    let s = c.args.tables.now in
    let at = c.args.at in
    let resolution = c.args.found.now.number in
    let proposer = proposer_of c.args.found.now.proposer.now in
    let wording = wording_of c.args.found.now.wording.now in
    let ratio = c.args.found.now.ratio in
    let row = new_choice proposer wording ratio in
    let gain = c.gain_with-gain.result in
    let number : c.len_of.result + 1 ≡ length (choices_of s.choices resolution) + 1
    = ap (λ n. n + 1) (c.len_of.ensures ∙ ap (λ m. length (choices_of m resolution)) c.choices.ensures) in
    let sponsors : c.active_count.result ≡ sponsor_count s.sponsors (next_choice_key s resolution)
    = c.active_count.ensures.count ∙ (λ i. sponsor_count (c.sponsors.ensures i) (choice_key resolution (number i))) in
    let is : gain_where (own s at (AddChoice resolution proposer wording ratio)) (next_choice_key s resolution) (Some row)
    ≡ gain
    = gain_where-counted (own s at (AddChoice resolution proposer wording ratio)) (next_choice_key s resolution) _ row _ gain
    c.in_ok-choice.ensures sponsors c.gain_with-gain.ensures in
    let entered_of : Option Resolution → Option RowModel =
    λ found. if is_introduction gain then option_map (λ row. ResolutionOf resolution (entered at row)) found else None in
    let entered_now = c.entered_row.ensures ∙ ap entered_of (sym c.requires.resolution) in
    let put : choice_model c.gained-choice.result ≡ gained gain at row = c.gained-choice.ensures
    ∙ ap (gained gain at) c.in_ok-choice.ensures in
    subst (λ rows. IfOk c.rows.result (λ own. map row_of own.changes.items ≡ rows))
    ((λ i. option_to_list (entered_now i) ++ ChoiceOf (choice_key resolution (number i)) (put i) ∷ [] ++ [])
    ∙ sym (add_choice_puts s at resolution proposer wording ratio gain is)) c.rows.ensures.rows
