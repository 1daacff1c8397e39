use Rattle.gr_core.specs.declared.unfit.Unfit.TheVariants.{Damaged}
use Rattle.gr_core.specs.Columns.Rows1.{lifted_rows}
use Rattle.gr_core.proofs.Columns.IntakeLemmas.{failed_with}
use Rattle.gr_core.proofs.Columns.Rows1Lemmas.{lifted_has}
use Rattle.gr_core.proofs.Validity.LiftedLemmas.{lifted_fits, finished_lifts, none_lifts}
use Rattle.gr_core.proofs.intake.Intake.finish_1.Goals as goal

pub returns-in_err-header-clause-damaged : goal.returns-in_err-header-clause-damaged
returns-in_err-header-clause-damaged c rows taken is s valid has =
    c.in_err-header.ensures.damaged (lifted_rows rows) taken
    (failed_with c.from_residual.result c.in_err-header.field-0.0 Damaged c.from_residual.ensures.1 is) _ (lifted_fits s valid)
    (lifted_has s rows has)

pub returns-clause-ok : goal.returns-clause-ok
returns-clause-ok c rows taken =
    finished_lifts c.args.self rows c.in_ok-header.field-0 c.in_ok-header-2.header
    (c.in_ok-header.ensures.ok (lifted_rows rows) taken) c.in_ok-header-2.ensures.ok.1 c.in_ok-header-2.ensures.ok.0
    c.with_header.result c.with_header.ensures.ok c.with_header.ensures.valid

pub returns-clause-damaged : goal.returns-clause-damaged
returns-clause-damaged c rows taken is =
    none_lifts c.args.self rows c.in_ok-header.field-0 c.in_ok-header-2.header
    (c.in_ok-header.ensures.ok (lifted_rows rows) taken) c.in_ok-header-2.ensures.ok.1 (c.with_header.ensures.damaged is)
