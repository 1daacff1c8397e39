use Rattle.std.proofs.Common.{◌++◌, ◌∷◌, [], refl, sym, ◌∙◌}
use Rattle.gr_core.specs.Parts.Choice.{choice_model}
use Rattle.gr_core.specs.Columns.Fields.{choice_fields, FitsChoice}
use Rattle.gr_core.specs.Columns.Stored.{fields_of_choice}
use Rattle.gr_core.proofs.Collections.PairKeys.{choice_total, choice_only}
use Rattle.gr_core.proofs.Columns.StoredLemmas.{row_added, not_read, key_twice}
use Rattle.gr_core.proofs.Columns.FieldLemmas.{choice_fields-key}
use Rattle.gr_core.proofs.intake.entries.add_choice.Goals as goal

pub returns-in_err-key-clause-damaged : goal.returns-in_err-key-clause-damaged
returns-in_err-key-clause-damaged c rows behind are damaged table of =
    not_read choice_total choice_only choice_fields FitsChoice (rows ++ fields_of_choice c.args.row ∷ behind) rows (fields_of_choice c.args.row) behind refl
    (λ key value fit. c.in_err-key.ensures.err refl key value fit) table of

pub returns-then-earlier-clause-damaged : goal.returns-then-earlier-clause-damaged
returns-then-earlier-clause-damaged c rows behind are damaged table of =
    key_twice choice_total choice_only choice_fields FitsChoice choice_fields-key c.args.choices.now
    (rows ++ fields_of_choice c.args.row ∷ behind) rows (fields_of_choice c.args.row) behind refl
    c.in_ok-key.key (choice_model c.in_ok-key.choice) c.in_ok-key.ensures.ok.0
    (sym c.in_ok-earlier.ensures.earlier ∙ c.if-earlier.true)
    are table of

pub returns-clause-ok : goal.returns-clause-ok
returns-clause-ok c rows are =
    row_added choice_total choice_only choice_fields FitsChoice choice_fields-key c.args.choices.now c.put.new.self
    rows (rows ++ fields_of_choice c.args.row ∷ []) c.in_ok-key.key (choice_model c.in_ok-key.choice) (fields_of_choice c.args.row)
    (sym c.in_ok-earlier.ensures.earlier ∙ c.if-earlier.false)
    c.in_ok-key.ensures.ok.1 c.in_ok-key.ensures.ok.0 c.in_ok-earlier.ensures.ok refl are
