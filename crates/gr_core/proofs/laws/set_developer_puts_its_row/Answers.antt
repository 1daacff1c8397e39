use Rattle.gr_core.proofs.Validity.ValidLemmas.{row_put}
use Rattle.gr_core.proofs.laws.set_developer_puts_its_row.Goals as goal

pub returns : goal.returns
returns c = row_put
