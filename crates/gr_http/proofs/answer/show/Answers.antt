use Rattle.std.proofs.Common.{subst}
use Rattle.gr_http.specs.Response.{sheet_response}
use Rattle.gr_http.specs.ReadyResponse.{IsReady}
use Rattle.gr_http.proofs.AnsweredRequests.{sheet_prepared, sheet_without_memory, sheet_refusal_prepared, sheet_fault_prepared}
use Rattle.gr_http.proofs.answer.show.Goals as goal

pub returns-in-Ok-of_sheet : goal.returns-in-Ok-of_sheet
returns-in-Ok-of_sheet g c = λ at.
    sheet_prepared c.args.office.now.desk at c.args.kind c.args.number c.in-Ok.text c.in-Ok-of_sheet.ready c.in-Ok.ensures
    (subst (λ body. IsReady c.in-Ok-of_sheet.ready (sheet_response body)) c.as_str.ensures.value c.in-Ok-of_sheet.ensures)

pub returns-in-Ok : goal.returns-in-Ok
returns-in-Ok g c = λ at.
    sheet_without_memory c.args.office.now.desk at c.args.kind c.args.number c.in-Ok.text c.of_fault.result c.in-Ok.ensures c.of_fault.ensures

pub returns-in-Err-Refused : goal.returns-in-Err-Refused
returns-in-Err-Refused g c = λ at.
    sheet_refusal_prepared c.args.office.now.desk at c.args.kind c.args.number c.in-Err-Refused.refusal c.of_refusal.result
    (rw c.in-Err-Refused.field-0-is at c.in-Err-Refused.ensures) (rw c.in-Err-Refused.field-0-is at c.of_refusal.ensures)

pub returns : goal.returns
returns g c = λ at.
    sheet_fault_prepared c.args.office.now.desk at c.args.kind c.args.number c.in-Err-Fault.fault c.of_fault-in-Err-Fault.result
    (rw c.in-Err-Fault.field-0-is at c.in-Err-Fault.ensures) (rw c.in-Err-Fault.field-0-is at c.of_fault-in-Err-Fault.ensures)
