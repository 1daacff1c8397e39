use Rattle.gr_core.proofs.VoteLaws.OutcomeLemmas.{chosen_tied}
use Rattle.gr_core.proofs.laws.chosen_places_are_tied.Goals as goal

pub returns : goal.returns
returns c = chosen_tied
