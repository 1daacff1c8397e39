use Rattle.gr_core.proofs.Effects.LeftResolutionLemmas.{roll_changes_leave}
use Rattle.gr_core.proofs.laws.changes_of_the_roll_touch_nothing_else.Goals as goal

pub returns : goal.returns
returns c = roll_changes_leave
