use Rattle.gr_core.proofs.Effects.RollAfterImportLemmas.{puts_rows}
use Rattle.gr_core.proofs.laws.imports_put_their_rows.Goals as goal

pub returns : goal.returns
returns c = puts_rows
