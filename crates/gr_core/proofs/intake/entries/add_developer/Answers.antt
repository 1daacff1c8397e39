use Rattle.std.proofs.Common.{◌++◌, ◌∷◌, [], refl, sym, ◌∙◌}
use Rattle.std.specs.Prelude.{string_bytes}
use Rattle.gr_core.specs.Parts.Developer.{developer_model}
use Rattle.gr_core.specs.Columns.Fields.{developer_fields}
use Rattle.gr_core.specs.Columns.Stored.{FitsDeveloper, fields_of_developer}
use Rattle.gr_core.proofs.Collections.TextKeys.{text_total, text_only}
use Rattle.gr_core.proofs.Columns.StoredLemmas.{row_added, not_read, key_twice}
use Rattle.gr_core.proofs.Columns.FieldLemmas.{developer_fields-key}
use Rattle.gr_core.proofs.intake.entries.add_developer.Goals as goal

pub returns-in_err-login-clause-damaged : goal.returns-in_err-login-clause-damaged
returns-in_err-login-clause-damaged c rows behind are damaged table of =
    not_read text_total text_only developer_fields FitsDeveloper (rows ++ fields_of_developer c.args.row ∷ behind) rows
    (fields_of_developer c.args.row) behind refl
    (λ key value fit. c.in_err-login.ensures.err refl key value) table of

pub returns-then-earlier-clause-damaged : goal.returns-then-earlier-clause-damaged
returns-then-earlier-clause-damaged c rows behind are damaged table of =
    key_twice text_total text_only developer_fields FitsDeveloper developer_fields-key c.args.roll.now
    (rows ++ fields_of_developer c.args.row ∷ behind) rows
    (fields_of_developer c.args.row) behind refl
    (string_bytes c.in_ok-login.login) (developer_model c.in_ok-login.developer) c.in_ok-login.ensures.ok
    (sym c.in_ok-earlier.ensures.earlier ∙ c.if-earlier.true)
    are table of

pub returns-clause-ok : goal.returns-clause-ok
returns-clause-ok c rows are =
    row_added text_total text_only developer_fields FitsDeveloper developer_fields-key c.args.roll.now c.put.new.self
    rows (rows ++ fields_of_developer c.args.row ∷ []) (string_bytes c.in_ok-login.login) (developer_model c.in_ok-login.developer)
    (fields_of_developer c.args.row)
    (sym c.in_ok-earlier.ensures.earlier ∙ c.if-earlier.false)
    tt c.in_ok-login.ensures.ok c.in_ok-earlier.ensures.ok refl are
