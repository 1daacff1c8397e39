use Rattle.gr_core.proofs.Contents.VoterCounts.{right_ballots}
use Rattle.gr_core.proofs.laws.ballots_are_right.Goals as goal

pub returns : goal.returns
returns c = right_ballots
