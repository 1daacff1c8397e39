use Rattle.gr_core.proofs.VoteLaws.OutcomeLemmas.{chosen_stay}
use Rattle.gr_core.proofs.laws.chosen_places_stay.Goals as goal

pub returns : goal.returns
returns c = chosen_stay
