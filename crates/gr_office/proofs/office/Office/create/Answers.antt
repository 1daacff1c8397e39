use Rattle.std.proofs.Common.{Some, ap, ◌≡◌, false}
use Rattle.std.proofs.lemmas.Bool.{false_from_ne_true}
use Rattle.gr_office.specs.NotOpened.{FailsToMake}
use Rattle.gr_office.proofs.ErrorLemmas.{is_error, told_so}
use Rattle.gr_office.proofs.office.Office.create.Goals as goal

pub returns-clause-new : goal.returns-clause-new
returns-clause-new g c clean live =
    let held = c.in_ok-store.ensures.holds clean live in
    record {
      desk = ap Some c.new.ensures.new;
      kept = record {
        tables = held.0;
        holds = held.1;
        settled = c.in_ok-store.ensures.settled clean;
      };
    }

pub returns-clause-vacant : goal.returns-clause-vacant
returns-clause-vacant g c =
    let it = c.in_ok-store.ensures in
    let outside : c.args.conn.in_transaction ≡ false
    = false_from_ne_true _ (λ begun. let told = it.inside begun in let never : ⊥ = cc in never) in
    false_from_ne_true _ (λ taken. let told = (it.occupied outside).0 taken in let never : ⊥ = cc in never)

pub returns-in_err-store-clause-failed : goal.returns-in_err-store-clause-failed
returns-in_err-store-clause-failed g c =
    let e = c.in_err-store.field-0.0 in
    let it = c.in_err-store.ensures in
    let fails : FailsToMake g.S.Store c.args.conn e.conn e.fault = record {
      can = it.faults;
      occupied = λ ended taken. told_so e c.args.conn _ ((it.occupied ended).0 taken);
      caused = it.caused;
      stops = it.failed;
      back = it.back;
    } in
    rw (is_error c.from_residual.result e c.from_residual.ensures.1) fails
