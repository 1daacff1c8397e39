use Rattle.gr_core.proofs.VoteLaws.VoterLemmas.{others_leave}
use Rattle.gr_core.proofs.laws.only_votes_touch_ballots.Goals as goal

pub returns : goal.returns
returns c = others_leave
