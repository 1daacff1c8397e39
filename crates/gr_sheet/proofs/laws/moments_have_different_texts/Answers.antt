use Rattle.gr_sheet.proofs.TextLemmas.{moment_text-injective}
use Rattle.gr_sheet.proofs.laws.moments_have_different_texts.Goals as goal

pub returns : goal.returns
returns c = moment_text-injective
