use Rattle.sqlite.proofs.Callers.{memory_is_clean}
use Rattle.gr_store.proofs.laws.new_desk_in_memory.Goals as goal

pub returns-in-Ok-clause-holds : goal.returns-in-Ok-clause-holds
returns-in-Ok-clause-holds c =
    c.in-Ok.ensures.holds (memory_is_clean c.in-Ok.store.conn) c.in_ok-conn.ensures.empty.0.is_open

pub returns-in-Ok-clause-settled : goal.returns-in-Ok-clause-settled
returns-in-Ok-clause-settled c = c.in-Ok.ensures.settled (memory_is_clean c.in-Ok.store.conn)
