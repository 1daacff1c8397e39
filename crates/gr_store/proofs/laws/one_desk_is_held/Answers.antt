use Rattle.gr_store.proofs.StoredDesks.LoadedDesks.{one_held}
use Rattle.gr_store.proofs.Reading.RightTables.{right_tables}
use Rattle.gr_store.proofs.laws.one_desk_is_held.Goals as goal

pub returns : goal.returns
returns c db has s t sound valid held holds = one_held s t db (right_tables db has) sound valid held holds
