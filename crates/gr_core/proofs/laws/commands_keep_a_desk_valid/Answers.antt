use Rattle.gr_core.proofs.Validity.RunLemmas.{keeps_valid}
use Rattle.gr_core.proofs.laws.commands_keep_a_desk_valid.Goals as goal

pub returns : goal.returns
returns c = keeps_valid
