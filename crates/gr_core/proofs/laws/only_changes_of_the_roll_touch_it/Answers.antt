use Rattle.gr_core.proofs.Effects.LeftResolutionLemmas.{roll_left}
use Rattle.gr_core.proofs.laws.only_changes_of_the_roll_touch_it.Goals as goal

pub returns : goal.returns
returns c = roll_left
