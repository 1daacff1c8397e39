use Rattle.gr_core.proofs.VoteLaws.VoterLemmas.{received_counts}
use Rattle.gr_core.proofs.laws.received_counts_the_votes.Goals as goal

pub returns : goal.returns
returns c = received_counts
