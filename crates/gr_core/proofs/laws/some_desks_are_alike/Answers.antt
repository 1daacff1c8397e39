use Rattle.gr_core.proofs.VoteLaws.VotingDeskLemmas.{some_alike}
use Rattle.gr_core.proofs.laws.some_desks_are_alike.Goals as goal

pub returns : goal.returns
returns c = some_alike
