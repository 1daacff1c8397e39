use Rattle.gr_store.proofs.Reading.TableSelects.{ballot1_selected}
use Rattle.gr_store.proofs.tables.ballot1.BallotRow1SelectedRow.select.Goals as goal

pub returns-clause-selects : goal.returns-clause-selects
returns-clause-selects c = ballot1_selected
