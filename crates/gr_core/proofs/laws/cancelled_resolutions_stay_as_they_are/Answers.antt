use Rattle.gr_core.proofs.ResolutionLaws.UntouchedLemmas.{cancelled_stay}
use Rattle.gr_core.proofs.laws.cancelled_resolutions_stay_as_they_are.Goals as goal

pub returns : goal.returns
returns c = cancelled_stay
