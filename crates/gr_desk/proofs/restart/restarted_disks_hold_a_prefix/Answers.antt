use Rattle.std.proofs.Common.{refl}
use Rattle.gr_desk.proofs.AnswerLemmas.{IfOk-map}
use Rattle.gr_desk.proofs.RestartLemmas.{is_clean}
use Rattle.gr_desk.proofs.restart.restarted_disks_hold_a_prefix.Goals as goal

pub returns-clause-found : goal.returns-clause-found
returns-clause-found c =
    IfOk-map c.any_disks_hold_a_prefix.result (λ office found. found (is_clean (λ file. refl) office.conn.store))
    c.any_disks_hold_a_prefix.ensures.found
