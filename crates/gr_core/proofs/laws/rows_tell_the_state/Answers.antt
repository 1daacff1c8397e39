use Rattle.gr_core.proofs.Columns.SameRowsLemmas.{rows_tell}
use Rattle.gr_core.proofs.laws.rows_tell_the_state.Goals as goal

pub returns : goal.returns
returns c = rows_tell
