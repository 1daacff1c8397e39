use Rattle.gr_core.proofs.VoteLaws.VoterLemmas.{closed_ballots_stay}
use Rattle.gr_core.proofs.laws.ballots_stay_once_closed.Goals as goal

pub returns : goal.returns
returns c = closed_ballots_stay
