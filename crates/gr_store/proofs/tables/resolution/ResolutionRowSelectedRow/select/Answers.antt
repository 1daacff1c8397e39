use Rattle.gr_store.proofs.Reading.TableSelects.{resolution_selected}
use Rattle.gr_store.proofs.tables.resolution.ResolutionRowSelectedRow.select.Goals as goal

pub returns-clause-selects : goal.returns-clause-selects
returns-clause-selects c = resolution_selected
