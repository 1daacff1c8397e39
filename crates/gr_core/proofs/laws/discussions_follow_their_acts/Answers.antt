use Rattle.gr_core.proofs.ResolutionLaws.EventLemmas.{follow_acts}
use Rattle.gr_core.proofs.laws.discussions_follow_their_acts.Goals as goal

pub returns : goal.returns
returns c = follow_acts
