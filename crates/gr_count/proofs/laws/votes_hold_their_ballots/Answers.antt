use Rattle.std.proofs.Common.{ap, is_some}
use Rattle.gr_count.proofs.HeldBallots.{held, none_removed, insert-remove}
use Rattle.gr_count.proofs.laws.votes_hold_their_ballots.Goals as goal

pub returns-clause-held : goal.returns-clause-held
returns-clause-held c = λ pairs vote login marks tally there. held vote login marks there pairs tally

pub returns-clause-removed : goal.returns-clause-removed
returns-clause-removed c = λ vote login. ap is_some (none_removed vote login)

pub returns-clause-replaced : goal.returns-clause-replaced
returns-clause-replaced c = insert-remove
