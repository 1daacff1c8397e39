use Rattle.gr_sheet.proofs.RevealLemmas.{show_no_ballots}
use Rattle.gr_sheet.proofs.laws.only_tallies_and_results_show_ballots.Goals as goal

pub returns : goal.returns
returns c = show_no_ballots
