use Rattle.gr_count.proofs.DigitBallots.{taken, prefers_as_before}
use Rattle.gr_count.proofs.laws.ballots_of_digits_keep_their_meaning.Goals as goal

pub returns-clause-taken : goal.returns-clause-taken
returns-clause-taken c = taken

pub returns-clause-prefers : goal.returns-clause-prefers
returns-clause-prefers c = λ options text is. prefers_as_before text is.1
