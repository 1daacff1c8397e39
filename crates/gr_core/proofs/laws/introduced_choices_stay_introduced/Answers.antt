use Rattle.gr_core.proofs.ResolutionLaws.IntroducedLemmas.{stays_introduced}
use Rattle.gr_core.proofs.laws.introduced_choices_stay_introduced.Goals as goal

pub returns : goal.returns
returns c = stays_introduced
