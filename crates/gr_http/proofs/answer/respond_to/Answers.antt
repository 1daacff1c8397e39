use Rattle.std.proofs.Common.{Ok, Err}
use Rattle.gr_http.specs.Demand.{Show, demand_of}
use Rattle.gr_http.proofs.AnsweredRequests.{problem_prepared}
use Rattle.gr_http.proofs.FateLemmas.{not_understood, sheet_leaves_alone, problem_leaves_alone, as_understood}
use Rattle.gr_http.proofs.answer.respond_to.Goals as goal

pub returns-in-Ok-Show : goal.returns-in-Ok-Show
returns-in-Ok-Show g c =
    let office = c.args.office.now in
    as_understood g.S.Store office office c.args.at (demand_of (Ok c.args.request.now))
    (Ok (Show c.in-Ok-Show.kind c.in-Ok-Show.number)) c.show.result
    (rw c.in-Ok-Show.field-0-is at c.in-Ok-Show.ensures)
    (sheet_leaves_alone g.S.Store office c.args.at c.in-Ok-Show.kind c.in-Ok-Show.number c.show.result (c.show.ensures c.args.at))

pub returns-in-Err-Problem : goal.returns-in-Err-Problem
returns-in-Err-Problem g c =
    let office = c.args.office.now in
    as_understood g.S.Store office office c.args.at (demand_of (Ok c.args.request.now)) (Err c.in-Err-Problem.problem) c.of_problem.result
    (rw c.in-Err-Problem.field-0-is at c.in-Err-Problem.ensures)
    (problem_leaves_alone g.S.Store office c.args.at c.in-Err-Problem.problem c.of_problem.result
    (problem_prepared office.desk c.args.at c.in-Err-Problem.problem c.of_problem.result
    (rw c.in-Err-Problem.field-0-is at c.of_problem.ensures)))

pub returns-in-Err-Memory : goal.returns-in-Err-Memory
returns-in-Err-Memory g c =
    not_understood g.S.Store c.args.office.now c.args.at (demand_of (Ok c.args.request.now)) c.of_fault.result c.of_fault.ensures
