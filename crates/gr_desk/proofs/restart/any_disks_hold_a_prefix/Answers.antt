use Rattle.gr_desk.proofs.AnswerLemmas.{IfOk-map, IfErr-map}
use Rattle.gr_desk.proofs.RestartLemmas.{files_back}
use Rattle.gr_desk.proofs.restart.any_disks_hold_a_prefix.Goals as goal

pub returns-in-Ok-clause-found : goal.returns-in-Ok-clause-found
returns-in-Ok-clause-found g c = IfOk-map c.reopened.result (λ office found now.
    let it = found now in it.1 (c.in-Ok.ensures.opens it.0) c.args.office (c.in-Ok.ensures.left it.0)) c.reopened.ensures.found

pub returns-in-Ok-clause-failed : goal.returns-in-Ok-clause-failed
returns-in-Ok-clause-failed g c = IfErr-map c.reopened.result (λ e failed now.
    let it = failed now in it.1 (c.in-Ok.ensures.opens it.0) c.args.office (c.in-Ok.ensures.left it.0)) c.reopened.ensures.failed

pub returns-in-Err-clause-failed : goal.returns-in-Err-clause-failed
returns-in-Err-clause-failed g c now =
    let e = c.in-Err.no_office in
    files_back c.args.office e.fault e.left c.in-Err.ensures.failed
