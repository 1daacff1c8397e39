use Rattle.gr_store.proofs.Reading.RightTables.{right_of}
use Rattle.gr_store.proofs.laws.tables_made_are_right.Goals as goal

pub returns : goal.returns
returns c db made = right_of db.schema made.own
