use Rattle.std.proofs.Common.{◌++◌, ◌∷◌, [], refl, sym, ◌∙◌}
use Rattle.std.specs.Cmp.{nat_cmp_total}
use Rattle.std.specs.FinMap.{nat_cmp-IsAntisymmetric}
use Rattle.gr_core.specs.Columns.Fields.{resolution_fields, FitsResolution}
use Rattle.gr_core.specs.Columns.Stored.{fields_of_resolution}
use Rattle.gr_core.proofs.Columns.StoredLemmas.{row_added, not_read, key_twice}
use Rattle.gr_core.proofs.Columns.FieldLemmas.{resolution_fields-key}
use Rattle.gr_core.proofs.intake.entries.add_resolution.Goals as goal

pub returns-in_err-number-clause-damaged : goal.returns-in_err-number-clause-damaged
returns-in_err-number-clause-damaged c rows behind are damaged table of =
    not_read nat_cmp_total nat_cmp-IsAntisymmetric resolution_fields FitsResolution (rows ++ fields_of_resolution c.args.row ∷ behind) rows
    (fields_of_resolution c.args.row) behind refl
    (λ key value fit. c.in_err-number.ensures.err refl key value fit) table of

pub returns-then-earlier-clause-damaged : goal.returns-then-earlier-clause-damaged
returns-then-earlier-clause-damaged c rows behind are damaged table of =
    key_twice nat_cmp_total nat_cmp-IsAntisymmetric resolution_fields FitsResolution resolution_fields-key c.args.resolutions.now
    (rows ++ fields_of_resolution c.args.row ∷ behind) rows
    (fields_of_resolution c.args.row) behind refl
    c.in_ok-number.number c.in_ok-number.resolution c.in_ok-number.ensures.ok.0
    (sym c.in_ok-earlier.ensures.earlier ∙ c.if-earlier.true)
    are table of

pub returns-clause-ok : goal.returns-clause-ok
returns-clause-ok c rows are =
    row_added nat_cmp_total nat_cmp-IsAntisymmetric resolution_fields FitsResolution resolution_fields-key c.args.resolutions.now c.put.new.self
    rows (rows ++ fields_of_resolution c.args.row ∷ []) c.in_ok-number.number c.in_ok-number.resolution (fields_of_resolution c.args.row)
    (sym c.in_ok-earlier.ensures.earlier ∙ c.if-earlier.false)
    c.in_ok-number.ensures.ok.1 c.in_ok-number.ensures.ok.0 c.in_ok-earlier.ensures.ok refl are
