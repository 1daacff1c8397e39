use Rattle.gr_core.proofs.VoteLaws.VoterLemmas.{receipt_stands}
use Rattle.gr_core.proofs.laws.receipts_stand_until_the_next_vote.Goals as goal

pub returns : goal.returns
returns c = receipt_stands
