use Rattle.gr_store.proofs.Reading.TableSelects.{choice_selected}
use Rattle.gr_store.proofs.tables.choice.ChoiceRowSelectedRow.select.Goals as goal

pub returns-clause-selects : goal.returns-clause-selects
returns-clause-selects c = choice_selected
