use Rattle.gr_sheet.proofs.SheetLemmas.{shown_or_refused}
use Rattle.gr_sheet.proofs.laws.sheets_are_shown_or_refused.Goals as goal

pub returns : goal.returns
returns c = shown_or_refused c.elections_have_findings.ensures
