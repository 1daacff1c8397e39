use Rattle.std.proofs.Common.{subst}
use Rattle.gr_core.specs.declared.unfit.Unfit.TheVariants.{Damaged}
use Rattle.gr_core.specs.Desks.Valid.{IsValid}
use Rattle.gr_core.proofs.Columns.FitLemmas.{fits}
use Rattle.gr_core.proofs.Columns.SameRowsLemmas.{same_state}
use Rattle.gr_core.proofs.Columns.IntakeLemmas.{failed_with, finished_has, kept_state}
use Rattle.gr_core.proofs.intake.Intake.finish.Goals as goal

pub returns-in_err-header-clause-damaged : goal.returns-in_err-header-clause-damaged
returns-in_err-header-clause-damaged c rows taken is s valid has =
    c.in_err-header.ensures.damaged rows taken
    (failed_with c.from_residual.result c.in_err-header.field-0.0 Damaged c.from_residual.ensures.1 is) s (fits s valid) has

pub returns-clause-ok : goal.returns-clause-ok
returns-clause-ok c rows taken =
    finished_has c.args.self rows c.in_ok-header.header (c.in_ok-header.ensures.ok rows taken) c.with_header.result
    c.with_header.ensures.ok

pub returns-clause-damaged : goal.returns-clause-damaged
returns-clause-damaged c rows taken is s valid has =
    let it = kept_state c.args.self rows c.in_ok-header.header (c.in_ok-header.ensures.ok rows taken) in
    c.with_header.ensures.damaged is (subst IsValid (same_state s _ rows (fits s valid) it.0 has it.1) valid)
