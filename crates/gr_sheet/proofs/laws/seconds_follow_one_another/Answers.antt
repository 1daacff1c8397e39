use Rattle.gr_sheet.proofs.SecondLemmas.{datetime_at-next}
use Rattle.gr_sheet.proofs.laws.seconds_follow_one_another.Goals as goal

pub returns : goal.returns
returns c = datetime_at-next
