use Rattle.std.proofs.Common.{◌≡◌, Option, Some, None, [], ◌∷◌, ◌++◌, map, option_map, sym, ap, ◌∙◌, subst}
use Rattle.std.specs.Prelude.{IfOk, option_to_list, if◌then◌else◌}
use Rattle.std.specs.FinMap.{get, insert}
use Rattle.gr_core.specs.declared.sponsor.Sponsorship.TheVariants.{Withdrawn}
use Rattle.gr_core.specs.Parts.Choice.{ChoiceModel, choice_model}
use Rattle.gr_core.specs.Parts.Sponsor.{sponsor_count}
use Rattle.gr_core.specs.Machine.Bookkeeping.{becomes_short_where, shortened}
use Rattle.gr_core.specs.Machine.Act.{Unsponsor}
use Rattle.gr_core.specs.Machine.Row.{RowModel, ChoiceOf, row_of}
use Rattle.gr_core.specs.Machine.Effect.{own}
use Rattle.gr_core.proofs.Effects.PutLemmas.{becomes_short_where-counted, unsponsor_puts}
use Rattle.gr_core.proofs.plan.sponsors.unsponsor.Goals.{then-becomes_short_with+in_ok-copied, else-becomes_short_with}
use Rattle.gr_core.proofs.plan.sponsors.unsponsor.Goals as goal

pub returns-clause-rows : goal.returns-clause-rows
returns-clause-rows c =
    let s = c.args.tables.now in
    let at = c.args.at in
    let key = c.args.found.now.key in
    let login = c.args.found.now.login.now in
    let t = own s at (Unsponsor key login) in
    let row = choice_model c.args.found.now.choice.now in
    let short_row : Option ChoiceModel → Option RowModel =
    λ found. if becomes_short_where t key found then option_map (λ row. ChoiceOf key (shortened at row)) found else None in
    let sponsors : c.count_without-sponsors.result ≡ sponsor_count (insert s.sponsors (key, login) Withdrawn) key =
    c.count_without-sponsors.ensures
    ∙ ap (λ m. sponsor_count (insert m (key, login) Withdrawn) key) c.sponsors.ensures in
    let short : c.becomes_short_with.result ≡ becomes_short_where t key (Some row)
    = becomes_short_where-counted t key row _ _ sponsors c.becomes_short_with.ensures in
    let choice : option_map row_of c.if-becomes_short_with.choice ≡ short_row (get s.choices key) =
    elim c.if-becomes_short_with.branch [
      | then-becomes_short_with+in_ok-copied w ↦
          ap (option_map row_of) w.choice-is
          ∙ ap (λ r. Some (ChoiceOf key r)) (w.shortened-choice.ensures ∙ ap (shortened at) w.in_ok-copied.ensures)
          ∙ ap (λ b. if b then Some (ChoiceOf key (shortened at row)) else None) (sym w.if-becomes_short_with.true ∙ short)
          ∙ ap short_row (sym c.requires)
      | else-becomes_short_with w ↦
          ap (option_map row_of) w.choice-is
          ∙ ap (λ b. if b then Some (ChoiceOf key (shortened at row)) else None) (sym w.if-becomes_short_with.false ∙ short)
          ∙ ap short_row (sym c.requires)
    ] in
    subst (λ rows. IfOk c.rows.result (λ own. map row_of own.changes.items ≡ rows))
    ((λ i. option_to_list (choice i) ++ c.in_ok-sponsor.ensures i ∷ [])
    ∙ sym (unsponsor_puts s at key login)) c.rows.ensures.rows
