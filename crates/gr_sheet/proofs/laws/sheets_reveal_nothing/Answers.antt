use Rattle.gr_sheet.proofs.RevealLemmas.{reveal_nothing}
use Rattle.gr_sheet.proofs.laws.sheets_reveal_nothing.Goals as goal

pub returns : goal.returns
returns c = reveal_nothing
