use Rattle.std.proofs.Common.{◌≡◌, ◌∷◌, [], Some, None, map, sym, ap, ◌∙◌, subst}
use Rattle.std.specs.Prelude.{IfOk, if◌then◌else◌}
use Rattle.gr_core.specs.Parts.Choice.{ChoiceModel, choice_model}
use Rattle.gr_core.specs.Parts.Sponsor.{sponsor_count}
use Rattle.gr_core.specs.Machine.Bookkeeping.{becomes_short_where, shortened}
use Rattle.gr_core.specs.Machine.Act.{Withdraw}
use Rattle.gr_core.specs.Machine.Row.{ChoiceOf, row_of}
use Rattle.gr_core.specs.Machine.Effect.{own}
use Rattle.gr_core.proofs.Effects.PutLemmas.{becomes_short_where-counted, withdraw_puts}
use Rattle.gr_core.proofs.plan.sponsors.withdraw.Goals.{then-becomes_short_with, else-becomes_short_with}
use Rattle.gr_core.proofs.plan.sponsors.withdraw.Goals as goal

pub returns-clause-rows : goal.returns-clause-rows
returns-clause-rows c =
    let s = c.args.tables.now in
    let at = c.args.at in
    let key = c.args.found.now.key in
    let row = choice_model c.args.found.now.choice.now in
    let left = choice_model c.proposed_by-choice.result in
    let is : left ≡ record row { proposer = None } = c.proposed_by-choice.ensures
    ∙ ap (λ (r : ChoiceModel). record r { proposer = None }) c.in_ok-copied.ensures in
    let sponsors : c.active_count-sponsors.result ≡ sponsor_count s.sponsors key
    = c.active_count-sponsors.ensures.count ∙ ap (λ m. sponsor_count m key) c.sponsors.ensures in
    let short : c.becomes_short_with.result ≡ becomes_short_where (own s at (Withdraw key)) key (Some left)
    = becomes_short_where-counted (own s at (Withdraw key)) key left _ _ sponsors c.becomes_short_with.ensures in
    let choice : choice_model c.if-becomes_short_with.choice
    ≡ if becomes_short_where (own s at (Withdraw key)) key (Some left) then shortened at left else left
    = elim c.if-becomes_short_with.branch [
      | then-becomes_short_with w ↦ ap choice_model w.choice-is ∙ w.shortened-choice.ensures
          ∙ ap (λ b. if b then shortened at left else left) (sym w.if-becomes_short_with.true ∙ short)
      | else-becomes_short_with w ↦ ap choice_model w.choice-is
          ∙ ap (λ b. if b then shortened at left else left) (sym w.if-becomes_short_with.false ∙ short)
    ] in
    subst (λ rows. IfOk c.rows.result (λ own. map row_of own.changes.items ≡ rows))
    (ap (λ r. ChoiceOf key r ∷ []) choice ∙ sym (withdraw_puts s at key row left c.requires is)) c.rows.ensures.rows
