use Rattle.gr_core.proofs.Effects.RepeatedImportLemmas.{change_once}
use Rattle.gr_core.proofs.laws.imports_change_once.Goals as goal

pub returns : goal.returns
returns c = change_once
