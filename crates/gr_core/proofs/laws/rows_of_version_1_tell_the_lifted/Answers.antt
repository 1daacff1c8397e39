use Rattle.gr_core.proofs.Validity.LiftedLemmas.{rows1_tell}
use Rattle.gr_core.proofs.laws.rows_of_version_1_tell_the_lifted.Goals as goal

pub returns : goal.returns
returns c = rows1_tell
