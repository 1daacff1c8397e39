-- A number from 10 ^ k, and below 10 ^ (k + 1), has k + 1 digits. 0 has one.
use Rattle.std.proofs.Common.{arith}
use Rattle.gr_http.proofs.NumeralLemmas.{length-decimal-by_power, length-decimal-zero}
use Rattle.gr_http.proofs.number.digit_count.Goals as goal

pub returns-in-Some : goal.returns-in-Some
returns-in-Some c =
    let some = c.in-Some in
    length-decimal-by_power some.power c.args.number (omega arith) some.ensures.power_le some.ensures.next_power_gt

pub returns-in-None : goal.returns-in-None
returns-in-None c = length-decimal-zero c.args.number c.in-None.ensures.none
