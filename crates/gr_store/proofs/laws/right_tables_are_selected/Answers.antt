use Rattle.gr_store.proofs.Reading.StepLimits.{selects_go_on}
use Rattle.gr_store.proofs.laws.right_tables_are_selected.Goals as goal

pub returns : goal.returns
returns c db has stopped = selects_go_on db has stopped
