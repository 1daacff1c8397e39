use Rattle.std.proofs.Common.{◌≡◌, ◌+◌, Some, [], ◌∷◌, map, refl, sym, ap, ◌∙◌, subst}
use Rattle.std.specs.Prelude.{IfOk, if◌then◌else◌}
use Rattle.std.specs.FinMap.{len}
use denote.Enum.Bare.{sameb}
use Rattle.gr_core.specs.contracts.bookkeeping.Gain.{the_type}
use Rattle.gr_core.specs.declared.bookkeeping.Gain.{Gain}
use Rattle.gr_core.specs.declared.bookkeeping.Gain.TheVariants.{Nothing, Introduction, Remedy}
use Rattle.gr_core.specs.declared.resolution.Resolution.TheVariants.{Draft}
use Rattle.gr_core.specs.Parts.Resolution.{entered}
use Rattle.gr_core.specs.Parts.Choice.{choice_model, choice_key, proposer_of, wording_of}
use Rattle.gr_core.specs.Parts.Sponsor.{sponsor_count}
use Rattle.gr_core.specs.Machine.Bookkeeping.{gained, gain_where}
use Rattle.gr_core.specs.Machine.Act.{Propose}
use Rattle.gr_core.specs.Machine.Row.{ResolutionOf, ChoiceOf, row_of}
use Rattle.gr_core.specs.Machine.Effect.{next_resolution, first_choice_key, new_choice, own, is_introduction}
use Rattle.gr_core.proofs.Effects.PutLemmas.{gain_where-counted, propose_puts}
use Rattle.gr_core.proofs.plan.choices.propose.Goals.{then-eq, else-eq}
use Rattle.gr_core.proofs.plan.choices.propose.Goals as goal

-- the test for an introduction
same-introduction : (gain : Gain) → sameb the_type gain Introduction ≡ is_introduction gain
same-introduction Nothing = refl
same-introduction Introduction = refl
same-introduction Remedy = refl

pub returns-clause-rows : goal.returns-clause-rows
returns-clause-rows c =
    let s = c.args.tables.now in
    let at = c.args.at in
    let proposer = proposer_of c.args.found.now.proposer.now in
    let wording = wording_of c.args.found.now.wording.now in
    let ratio = c.args.found.now.ratio in
    let row = new_choice proposer wording ratio in
    let gain = c.gain_with-gain.result in
    let number : c.len.result + 1 ≡ next_resolution s =
    ap (λ n. n + 1) (c.len.ensures ∙ ap len c.resolutions.ensures) in
    let sponsors : c.active_count.result ≡ sponsor_count s.sponsors (first_choice_key s)
    = c.active_count.ensures.count ∙ (λ i. sponsor_count (c.sponsors.ensures i) (choice_key (number i) 1)) in
    let is : gain_where (own s at (Propose proposer wording ratio)) (first_choice_key s) (Some row) ≡ gain
    = gain_where-counted (own s at (Propose proposer wording ratio)) (first_choice_key s) _ row _ gain c.in_ok-choice.ensures
    sponsors c.gain_with-gain.ensures in
    let resolution : c.if-eq.resolution ≡ (if is_introduction gain then entered at Draft else Draft) =
    elim c.if-eq.branch [
      | then-eq w ↦ w.resolution-is ∙ w.entered-resolution.ensures
          ∙ ap (λ b. if b then entered at Draft else Draft) (sym w.if-eq.true ∙ c.eq.ensures ∙ same-introduction gain)
      | else-eq w ↦ w.resolution-is
          ∙ ap (λ b. if b then entered at Draft else Draft) (sym w.if-eq.false ∙ c.eq.ensures ∙ same-introduction gain)
    ] in
    let put : choice_model c.gained-choice.result ≡ gained gain at row = c.gained-choice.ensures
    ∙ ap (gained gain at) c.in_ok-choice.ensures in
    subst (λ rows. IfOk c.rows.result (λ own. map row_of own.changes.items ≡ rows))
    ((λ i. ResolutionOf (number i) (resolution i) ∷ ChoiceOf (choice_key (number i) 1) (put i) ∷ [])
    ∙ sym (propose_puts s at proposer wording ratio gain is)) c.rows.ensures.rows
