use Rattle.gr_core.proofs.ResolutionLaws.LapseLemmas.{lapsed_refused}
use Rattle.gr_core.proofs.laws.acts_on_lapsed_choices_are_refused.Goals as goal

pub returns : goal.returns
returns c = lapsed_refused
