use Rattle.std.proofs.Common.{refl}
use Rattle.gr_store.specs.Schema.{ballot1_table}
use Rattle.gr_store.proofs.Reading.NamedColumns.{find_between}
use Rattle.gr_store.proofs.laws.ballots_of_version_1_may_have_further_columns.Goals as goal

pub returns : goal.returns
returns c front more = record { name = refl; columns = find_between front ballot1_table.columns more 0; free = refl }
