use Rattle.gr_store.proofs.Reading.TableSelects.{developer_selected}
use Rattle.gr_store.proofs.tables.developer.DeveloperRowSelectedRow.select.Goals as goal

pub returns-clause-selects : goal.returns-clause-selects
returns-clause-selects c = developer_selected
