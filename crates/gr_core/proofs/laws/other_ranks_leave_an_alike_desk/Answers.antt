use Rattle.gr_core.proofs.VoteLaws.SecrecyLemmas.{others_alike}
use Rattle.gr_core.proofs.laws.other_ranks_leave_an_alike_desk.Goals as goal

pub returns : goal.returns
returns c = others_alike
