use Rattle.gr_core.proofs.Effects.LeftResolutionLemmas.{leave_the_end}
use Rattle.gr_core.proofs.laws.withdrawals_and_minor_amendments_leave_the_end.Goals as goal

pub returns : goal.returns
returns c = leave_the_end
