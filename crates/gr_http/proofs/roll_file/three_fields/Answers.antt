use Rattle.std.proofs.Common.{sym, arith}
use Rattle.gr_http.proofs.RollFileRows.{if-none, no-field, three-fields}
use Rattle.gr_http.proofs.roll_file.three_fields.Goals as goal

pub returns-in_err-get-clause-none : goal.returns-in_err-get-clause-none
returns-in_err-get-clause-none c =
    if-none _ (no-field _ 0 (omega arith) (sym (rw c.in_err-get.was at c.get.ensures.value)))

pub returns-in_err-get-2-clause-none : goal.returns-in_err-get-2-clause-none
returns-in_err-get-2-clause-none c =
    if-none _ (no-field _ 1 (omega arith) (sym (rw c.in_err-get-2.was at c.get-2.ensures.value)))

pub returns-in_err-get-3-clause-none : goal.returns-in_err-get-3-clause-none
returns-in_err-get-3-clause-none c =
    if-none _ (no-field _ 2 (omega arith) (sym (rw c.in_err-get-3.was at c.get-3.ensures.value)))

pub returns-clause-some : goal.returns-clause-some
returns-clause-some c =
    three-fields _ _ _ _ (omega arith) (sym (rw c.in_ok-get.was at c.get.ensures.value))
    (sym (rw c.in_ok-get-2.was at c.get-2.ensures.value))
    (sym (rw c.in_ok-get-3.was at c.get-3.ensures.value))
