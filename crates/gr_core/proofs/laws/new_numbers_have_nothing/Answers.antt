use Rattle.gr_core.proofs.ResolutionLaws.UntouchedLemmas.{new_has_nothing}
use Rattle.gr_core.proofs.laws.new_numbers_have_nothing.Goals as goal

pub returns : goal.returns
returns c = new_has_nothing
