use Rattle.sqlite.proofs.Callers.{memory_is_clean}
use Rattle.gr_office.proofs.laws.new_office_in_memory.Goals as goal

pub returns-in-Ok : goal.returns-in-Ok
returns-in-Ok c = c.in-Ok.ensures.new (memory_is_clean c.in-Ok.office.conn) c.in_ok-conn.ensures.empty.0.is_open
