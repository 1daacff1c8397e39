use Rattle.gr_core.proofs.Effects.UnrefusedVoteLemmas.{casts_accepted}
use Rattle.gr_core.proofs.laws.casting_votes_among_the_tied_are_accepted.Goals as goal

pub returns : goal.returns
returns c = casts_accepted
