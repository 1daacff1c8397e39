use Rattle.gr_core.proofs.VoteLaws.VoterLemmas.{last_votes}
use Rattle.gr_core.proofs.laws.ballots_are_the_last_votes.Goals as goal

pub returns : goal.returns
returns c = last_votes
