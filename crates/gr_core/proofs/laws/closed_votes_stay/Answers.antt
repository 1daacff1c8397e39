use Rattle.gr_core.proofs.VoteLaws.ClosedForGoodLemmas.{closed_votes_stay}
use Rattle.gr_core.proofs.laws.closed_votes_stay.Goals as goal

pub returns : goal.returns
returns c = closed_votes_stay
