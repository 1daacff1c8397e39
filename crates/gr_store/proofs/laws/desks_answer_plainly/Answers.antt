use Rattle.gr_store.proofs.Reading.NamedColumns.{has_columns}
use Rattle.gr_store.proofs.Reading.TableSelects.{desk_selected}
use Rattle.gr_store.proofs.laws.desks_answer_plainly.Goals as goal

pub returns : goal.returns
returns c = record { plainly = desk_selected.plain; columns = λ schema table has. has_columns has }
