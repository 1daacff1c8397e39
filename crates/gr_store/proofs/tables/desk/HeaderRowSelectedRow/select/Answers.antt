use Rattle.gr_store.proofs.Reading.TableSelects.{desk_selected}
use Rattle.gr_store.proofs.tables.desk.HeaderRowSelectedRow.select.Goals as goal

pub returns-clause-selects : goal.returns-clause-selects
returns-clause-selects c = desk_selected
