use Rattle.gr_core.proofs.ResolutionLaws.LapseLemmas.{lapsed_stay}
use Rattle.gr_core.proofs.laws.lapsed_choices_stay_as_they_are.Goals as goal

pub returns : goal.returns
returns c = lapsed_stay
