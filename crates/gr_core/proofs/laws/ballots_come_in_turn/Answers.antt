use Rattle.gr_core.proofs.Validity.BallotTurnLemmas.{come_in_turn}
use Rattle.gr_core.proofs.laws.ballots_come_in_turn.Goals as goal

pub returns : goal.returns
returns c = come_in_turn
