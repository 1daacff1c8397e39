use Rattle.gr_store.proofs.Reading.TableSelects.{sponsor_selected}
use Rattle.gr_store.proofs.tables.sponsor.SponsorRowSelectedRow.select.Goals as goal

pub returns-clause-selects : goal.returns-clause-selects
returns-clause-selects c = sponsor_selected
