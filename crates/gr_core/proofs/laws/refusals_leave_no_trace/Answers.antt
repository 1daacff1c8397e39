use Rattle.gr_core.proofs.Validity.RunLemmas.{no_trace}
use Rattle.gr_core.proofs.laws.refusals_leave_no_trace.Goals as goal

pub returns : goal.returns
returns c = no_trace
