use Rattle.gr_core.proofs.VoteLaws.OutcomeLemmas.{cast_chooses}
use Rattle.gr_core.proofs.laws.casting_votes_choose_among_the_tied.Goals as goal

pub returns : goal.returns
returns c = cast_chooses
