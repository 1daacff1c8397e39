use Rattle.gr_core.proofs.VoteLaws.SecrecyLemmas.{answers_same}
use Rattle.gr_core.proofs.laws.answers_reveal_nothing.Goals as goal

pub returns : goal.returns
returns c = answers_same
