use Rattle.gr_core.proofs.ResolutionLaws.DiscussionLemmas.{start_stays}
use Rattle.gr_core.proofs.laws.starts_stay.Goals as goal

pub returns : goal.returns
returns c = start_stays
