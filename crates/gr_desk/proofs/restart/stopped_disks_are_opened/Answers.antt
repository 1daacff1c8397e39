use Rattle.std.proofs.Common.{refl}
use Rattle.gr_desk.proofs.AnswerLemmas.{IfOk-map}
use Rattle.gr_desk.proofs.RestartLemmas.{is_clean}
use Rattle.gr_desk.proofs.restart.stopped_disks_are_opened.Goals as goal

pub returns-clause-opens : goal.returns-clause-opens
returns-clause-opens c =
    IfOk-map c.any_disks_are_opened.result (λ conn opens. let clean = is_clean (λ file. refl) conn.store in (clean, opens clean))
    c.any_disks_are_opened.ensures.opens

pub returns-clause-left : goal.returns-clause-left
returns-clause-left c =
    IfOk-map c.any_disks_are_opened.result (λ conn left. left (is_clean (λ file. refl) conn.store)) c.any_disks_are_opened.ensures.left
