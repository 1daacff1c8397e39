use Rattle.gr_sheet.proofs.CountedAgain.{results_follow}
use Rattle.gr_sheet.proofs.laws.results_follow_from_tallies.Goals as goal

pub returns : goal.returns
returns c = results_follow c.votes_count_their_ballots.ensures c.ballots_are_right.ensures c.chosen_places_are_tied.ensures
