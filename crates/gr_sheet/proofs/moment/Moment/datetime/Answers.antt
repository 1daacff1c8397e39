use Rattle.std.proofs.Common.{arith}
use Rattle.jiff_core.proofs.DateTimeLemmas.{civil_nanos-parts}
use Rattle.jiff_core.proofs.SignedLemmas.{signed_casts}
use Rattle.gr_sheet.proofs.moment.Moment.datetime.Goals as goal

pub returns-clause-date : goal.returns-clause-date
returns-clause-date c =
    omega (arith, signed_casts, civil_nanos-parts c.from_nanosecond_in_range.result, c.from_nanosecond_in_range.ensures)

pub returns-clause-time : goal.returns-clause-time
returns-clause-time c =
    omega (arith, signed_casts, civil_nanos-parts c.from_nanosecond_in_range.result, c.from_nanosecond_in_range.ensures)
