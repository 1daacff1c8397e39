use Rattle.gr_core.proofs.VoteLaws.SecrecyLemmas.{plans_alike}
use Rattle.gr_core.proofs.laws.plans_reveal_nothing.Goals as goal

pub returns : goal.returns
returns c = plans_alike
