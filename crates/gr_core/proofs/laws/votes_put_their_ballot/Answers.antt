use Rattle.gr_core.proofs.VoteLaws.VoterLemmas.{vote_puts}
use Rattle.gr_core.proofs.laws.votes_put_their_ballot.Goals as goal

pub returns : goal.returns
returns c = vote_puts
