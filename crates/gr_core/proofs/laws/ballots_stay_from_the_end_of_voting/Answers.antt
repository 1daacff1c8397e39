use Rattle.gr_core.proofs.VoteLaws.VoterLemmas.{late_ballots_stay}
use Rattle.gr_core.proofs.laws.ballots_stay_from_the_end_of_voting.Goals as goal

pub returns : goal.returns
returns c = late_ballots_stay
