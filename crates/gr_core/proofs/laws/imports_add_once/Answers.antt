use Rattle.gr_core.proofs.Effects.RepeatedImportLemmas.{add_once}
use Rattle.gr_core.proofs.laws.imports_add_once.Goals as goal

pub returns : goal.returns
returns c = add_once
