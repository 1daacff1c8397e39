use Rattle.gr_core.proofs.Validity.RunLemmas.{some_outcome}
use Rattle.gr_core.proofs.laws.each_list_has_an_outcome.Goals as goal

pub returns : goal.returns
returns c = some_outcome
