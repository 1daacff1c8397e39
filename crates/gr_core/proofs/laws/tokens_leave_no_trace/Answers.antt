use Rattle.gr_core.proofs.VoteLaws.VoterLemmas.{tokens_vanish}
use Rattle.gr_core.proofs.laws.tokens_leave_no_trace.Goals as goal

pub returns : goal.returns
returns c = tokens_vanish
