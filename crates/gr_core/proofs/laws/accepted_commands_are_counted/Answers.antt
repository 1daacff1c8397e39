use Rattle.gr_core.proofs.Validity.RunLemmas.{counts}
use Rattle.gr_core.proofs.laws.accepted_commands_are_counted.Goals as goal

pub returns : goal.returns
returns c = counts
