use Rattle.gr_core.proofs.ResolutionLaws.DiscussionLemmas.{ends_grow}
use Rattle.gr_core.proofs.laws.only_variations_end_earlier.Goals as goal

pub returns : goal.returns
returns c = ends_grow
