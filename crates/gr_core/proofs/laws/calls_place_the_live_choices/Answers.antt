use Rattle.gr_core.proofs.ResolutionLaws.PlacedByCallLemmas.{calls_place}
use Rattle.gr_core.proofs.laws.calls_place_the_live_choices.Goals as goal

pub returns : goal.returns
returns c = calls_place
