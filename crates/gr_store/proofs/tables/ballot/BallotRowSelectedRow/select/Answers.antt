use Rattle.gr_store.proofs.Reading.TableSelects.{ballot_selected}
use Rattle.gr_store.proofs.tables.ballot.BallotRowSelectedRow.select.Goals as goal

pub returns-clause-selects : goal.returns-clause-selects
returns-clause-selects c = ballot_selected
