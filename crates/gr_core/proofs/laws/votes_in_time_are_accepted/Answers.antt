use Rattle.gr_core.proofs.Effects.UnrefusedVoteLemmas.{votes_accepted}
use Rattle.gr_core.proofs.laws.votes_in_time_are_accepted.Goals as goal

pub returns : goal.returns
returns c = votes_accepted
