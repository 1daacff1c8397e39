use Rattle.gr_sheet.proofs.SheetLemmas.{determined}
use Rattle.gr_sheet.proofs.laws.sheets_are_determined.Goals as goal

pub returns : goal.returns
returns c = determined c.findings_are_determined.ensures
