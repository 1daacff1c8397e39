use Rattle.gr_core.proofs.Effects.ResolutionLemmas.{stages_follow}
use Rattle.gr_core.proofs.laws.stages_follow_one_another.Goals as goal

pub returns : goal.returns
returns c = stages_follow
