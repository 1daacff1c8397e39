use Rattle.gr_core.proofs.Validity.RunLemmas.{one_outcome}
use Rattle.gr_core.proofs.laws.each_list_has_one_outcome.Goals as goal

pub returns : goal.returns
returns c = one_outcome
