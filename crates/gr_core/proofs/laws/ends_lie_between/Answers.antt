use Rattle.gr_core.proofs.ResolutionLaws.EndLemmas.{ends_between}
use Rattle.gr_core.proofs.laws.ends_lie_between.Goals as goal

pub returns : goal.returns
returns c = ends_between
