use Rattle.gr_core.proofs.Contents.VoterCounts.{counted_by_ballots}
use Rattle.gr_core.proofs.laws.votes_count_their_ballots.Goals as goal

pub returns : goal.returns
returns c = counted_by_ballots
