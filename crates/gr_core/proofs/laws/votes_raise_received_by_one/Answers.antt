use Rattle.gr_core.proofs.VoteLaws.VoterLemmas.{raised_by_one}
use Rattle.gr_core.proofs.laws.votes_raise_received_by_one.Goals as goal

pub returns : goal.returns
returns c = raised_by_one
