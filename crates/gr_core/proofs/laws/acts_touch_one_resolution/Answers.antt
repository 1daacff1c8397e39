use Rattle.gr_core.proofs.Effects.LeftResolutionLemmas.{touches_one}
use Rattle.gr_core.proofs.laws.acts_touch_one_resolution.Goals as goal

pub returns : goal.returns
returns c = touches_one
