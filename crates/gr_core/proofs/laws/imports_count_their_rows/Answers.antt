use Rattle.gr_core.proofs.Effects.RollAfterImportLemmas.{counts_rows}
use Rattle.gr_core.proofs.laws.imports_count_their_rows.Goals as goal

pub returns : goal.returns
returns c = counts_rows
