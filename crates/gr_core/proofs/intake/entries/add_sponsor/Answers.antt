use Rattle.std.proofs.Common.{◌++◌, ◌∷◌, [], refl, sym, ◌∙◌}
use Rattle.std.specs.Prelude.{string_bytes}
use Rattle.gr_core.specs.Columns.Fields.{sponsor_fields}
use Rattle.gr_core.specs.Columns.Stored.{FitsSponsor, fields_of_sponsor}
use Rattle.gr_core.proofs.Contents.SponsorLemmas.{sponsor_total, sponsor_only}
use Rattle.gr_core.proofs.Columns.StoredLemmas.{row_added, not_read, key_twice}
use Rattle.gr_core.proofs.Columns.FieldLemmas.{sponsor_fields-key}
use Rattle.gr_core.proofs.intake.entries.add_sponsor.Goals as goal

pub returns-in_err-choice-clause-damaged : goal.returns-in_err-choice-clause-damaged
returns-in_err-choice-clause-damaged c rows behind are damaged table of =
    not_read sponsor_total sponsor_only sponsor_fields FitsSponsor (rows ++ fields_of_sponsor c.args.row ∷ behind) rows
    (fields_of_sponsor c.args.row) behind refl
    (λ key value fit. c.in_err-choice.ensures.err refl key.0 key.1 value fit) table of

pub returns-then-earlier-clause-damaged : goal.returns-then-earlier-clause-damaged
returns-then-earlier-clause-damaged c rows behind are damaged table of =
    key_twice sponsor_total sponsor_only sponsor_fields FitsSponsor sponsor_fields-key c.args.sponsors.now
    (rows ++ fields_of_sponsor c.args.row ∷ behind) rows
    (fields_of_sponsor c.args.row) behind refl
    (c.in_ok-choice.choice, string_bytes c.in_ok-choice.login) c.in_ok-choice.sponsorship c.in_ok-choice.ensures.ok.0
    (sym c.in_ok-earlier.ensures.earlier ∙ c.if-earlier.true)
    are table of

pub returns-clause-ok : goal.returns-clause-ok
returns-clause-ok c rows are =
    row_added sponsor_total sponsor_only sponsor_fields FitsSponsor sponsor_fields-key c.args.sponsors.now c.put.new.self
    rows (rows ++ fields_of_sponsor c.args.row ∷ []) (c.in_ok-choice.choice, string_bytes c.in_ok-choice.login) c.in_ok-choice.sponsorship
    (fields_of_sponsor c.args.row)
    (sym c.in_ok-earlier.ensures.earlier ∙ c.if-earlier.false)
    c.in_ok-choice.ensures.ok.1 c.in_ok-choice.ensures.ok.0 c.in_ok-earlier.ensures.ok refl are
