use Rattle.std.proofs.Common.{◌≡◌, Bool, Option, None, [], ◌∷◌, ◌++◌, map, option_map, option_and_then, is_some, refl, sym, ap, ◌∙◌, subst}
use Rattle.std.specs.Prelude.{IfOk, ◌&&◌, if◌then◌else◌, option_to_list}
use Rattle.std.specs.FinMap.{get}
use denote.Enum.Bare.{sameb}
use Rattle.gr_core.specs.contracts.command.Amendment.{the_type}
use Rattle.gr_core.specs.declared.command.Amendment.{Amendment}
use Rattle.gr_core.specs.declared.command.Amendment.TheVariants.{Substantial, Minor}
use Rattle.gr_core.specs.declared.resolution.Resolution.{Resolution}
use Rattle.gr_core.specs.declared.resolution.Resolution.TheVariants.{Discussing}
use Rattle.gr_core.specs.Parts.Resolution.{present_discussion, changed}
use Rattle.gr_core.specs.Parts.Choice.{choice_model, wording_of}
use Rattle.gr_core.specs.Machine.Row.{RowModel, ResolutionOf, ChoiceOf, row_of}
use Rattle.gr_core.proofs.Effects.PutLemmas.{is_substantial, amend_puts}
use Rattle.gr_core.proofs.plan.choices.amend.Goals.{then-eq+then-is_some, else-eq, else-eq-via-then-eq+else-is_some, else-eq-via-else-eq}
use Rattle.gr_core.proofs.plan.choices.amend.Goals as goal

-- the test for a substantial amendment
same-substantial : (amendment : Amendment) → sameb the_type amendment Substantial ≡ is_substantial amendment
same-substantial Substantial = refl
same-substantial Minor = refl

pub returns-clause-rows : goal.returns-clause-rows
returns-clause-rows c = λ s there stood.
    let at = c.args.at in
    let key = c.args.found.now.key in
    let row = choice_model c.args.found.now.choice.now in
    let row_by : Option Resolution → Option RowModel = λ found.
    option_map (λ discussion. ResolutionOf key.resolution (changed at (Discussing discussion))) (option_and_then present_discussion found) in
    let new_row : Option RowModel = row_by (get s.resolutions key.resolution) in
    let put_if : Bool → Option RowModel = λ b. if b then new_row else None in
    let substantial : c.eq.result ≡ is_substantial c.args.found.now.amendment = c.eq.ensures
    ∙ same-substantial c.args.found.now.amendment in
    let resolution : option_map row_of c.if-eq.resolution
    ≡ put_if (is_substantial c.args.found.now.amendment && is_some row.introduced) = elim c.if-eq.branch [
      | then-eq+then-is_some w ↦ ap (option_map row_of) w.resolution-is ∙ w.changed_row-resolution.ensures ∙ ap row_by (sym stood)
          ∙ (λ i. put_if ((sym w.if-eq.true ∙ substantial) i && (sym w.if-is_some.true ∙ w.is_some.ensures) i))
      | else-eq w ↦ ap (option_map row_of) w.resolution-is ∙ elim w.else-eq.branch [
        | else-eq-via-then-eq+else-is_some v ↦ λ i. put_if ((sym v.if-eq.true
            ∙ substantial) i && (sym v.if-is_some.false ∙ v.is_some.ensures) i)
        | else-eq-via-else-eq v ↦ λ i. put_if ((sym v.if-eq.false ∙ substantial) i && is_some row.introduced)
      ]
    ] in
    let put : record (choice_model c.in_ok-copied-2.field-0) { wording = wording_of c.in_ok-copied.field-0 }
    ≡ record row { wording = wording_of c.args.found.now.wording.now } =
    λ i. record (c.in_ok-copied-2.ensures i) { wording = c.in_ok-copied.ensures i } in
    subst (λ rows. IfOk c.rows.result (λ own. map row_of own.changes.items ≡ rows))
    ((λ i. option_to_list (resolution i) ++ ChoiceOf key (put i) ∷ [] ++ [])
    ∙ sym (amend_puts s at key c.args.found.now.amendment (wording_of c.args.found.now.wording.now) row there)) c.rows.ensures.rows
