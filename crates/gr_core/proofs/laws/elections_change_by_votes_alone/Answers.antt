use Rattle.gr_core.proofs.VoteLaws.OutcomeLemmas.{elections_change}
use Rattle.gr_core.proofs.laws.elections_change_by_votes_alone.Goals as goal

pub returns : goal.returns
returns c = elections_change
