use Rattle.std.proofs.Common.{Ok, Err, refl}
use Rattle.gr_http.proofs.AnsweredRequests.{problem_prepared}
use Rattle.gr_http.proofs.FateLemmas.{problem_leaves_alone, as_understood, request_prepared, request_without_memory}
use Rattle.gr_http.proofs.answer.respond.Goals as goal

pub returns-in-Ok-clause-ready : goal.returns-in-Ok-clause-ready
returns-in-Ok-clause-ready g c =
    request_prepared g.S.Store c.args.office.now c.respond_to.new.office c.args.at (g.I.Input.coming c.args.input.now) (Ok c.in-Ok.request)
    c.respond_to.result c.in-Ok.ensures.received c.respond_to.ensures

pub returns-in-Err-Problem-clause-ready : goal.returns-in-Err-Problem-clause-ready
returns-in-Err-Problem-clause-ready g c =
    let office = c.args.office.now in
    let problem = c.in-Err-Problem.problem in
    let ready = c.of_problem.result in
    request_prepared g.S.Store office office c.args.at (g.I.Input.coming c.args.input.now) (Err problem) ready
    (rw c.in-Err-Problem.field-0-is at c.in-Err-Problem.ensures.received)
    (as_understood g.S.Store office office c.args.at (Err problem) (Err problem) ready refl
    (problem_leaves_alone g.S.Store office c.args.at problem ready
    (problem_prepared office.desk c.args.at problem ready (rw c.in-Err-Problem.field-0-is at c.of_problem.ensures))))

pub returns-in-Err-Memory-clause-ready : goal.returns-in-Err-Memory-clause-ready
returns-in-Err-Memory-clause-ready g c =
    request_without_memory g.S.Store c.args.office.now c.args.at (g.I.Input.coming c.args.input.now) c.of_fault.result c.of_fault.ensures
