use Rattle.std.proofs.Common.{sym, subst}
use Rattle.std.specs.Prelude.{⊤}
use Rattle.gr_desk.specs.Failure.{failure_of_sheet}
use Rattle.gr_desk.specs.Steps.{PrintsSheet}
use Rattle.gr_desk.proofs.StepLemmas.{err_is, not_printed, printed}
use Rattle.gr_desk.proofs.steps.print_sheet.Goals as goal

pub returns : goal.returns
returns g c =
    printed c.args.office.now.desk c.args.kind c.args.number _ _ c.in_ok-text.text c.as_str.result.now c.print.result
    c.as_str.ensures.value c.in_ok-text.ensures c.print.ensures.whole c.print.ensures.lost

pub returns-in_err-text : goal.returns-in_err-text
returns-in_err-text g c =
    let old = g.O.Output.written c.args.output.now in
    let fault = c.in_err-text.field-0.0 in
    subst (PrintsSheet c.args.office.now.desk c.args.kind c.args.number old old)
    (sym (err_is c.from_residual.result (failure_of_sheet fault) c.from_residual.ensures.1))
    (not_printed ⊤ c.args.office.now.desk c.args.kind c.args.number old fault c.in_err-text.ensures)
