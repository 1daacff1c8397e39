use Rattle.gr_core.proofs.Effects.PutAllLemmas.{rows_make_steps}
use Rattle.gr_core.proofs.laws.rows_make_the_step.Goals as goal

pub returns : goal.returns
returns c = rows_make_steps
