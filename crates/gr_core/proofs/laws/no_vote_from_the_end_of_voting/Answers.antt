use Rattle.gr_core.proofs.VoteLaws.VoterLemmas.{no_late_vote}
use Rattle.gr_core.proofs.laws.no_vote_from_the_end_of_voting.Goals as goal

pub returns : goal.returns
returns c = no_late_vote
