use Rattle.gr_core.proofs.Validity.LiftedLemmas.{lifts_valid}
use Rattle.gr_core.proofs.laws.lifted_desks_are_valid.Goals as goal

pub returns : goal.returns
returns c = lifts_valid
