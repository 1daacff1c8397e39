use Rattle.gr_core.proofs.VoteLaws.ClosedForGoodLemmas.{alike_others}
use Rattle.gr_core.proofs.laws.alike_desks_have_the_same_other_ballots.Goals as goal

pub returns : goal.returns
returns c = alike_others
