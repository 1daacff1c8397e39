use Rattle.std.proofs.Common.{arith}
use Rattle.gr_sheet.specs.Date.{days_at}
use Rattle.gr_sheet.proofs.DateLemmas.{date_after-is}
use Rattle.gr_sheet.proofs.laws.moments_have_one_date.Goals as goal

pub returns : goal.returns
returns c = λ at shown. (
  date_after-is (days_at at) (omega arith),
  record {
    hour = omega arith;
    minute = omega arith;
    second = omega arith;
    number = omega arith;
  },
)
