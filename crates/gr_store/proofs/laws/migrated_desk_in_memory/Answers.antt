use Rattle.std.proofs.Common.{subst}
use Rattle.sqlite.proofs.Callers.{memory_is_clean}
use Rattle.sqlite.specs.Held.{state}
use Rattle.sqlite.specs.Steps.{over_memory}
use Rattle.gr_store.specs.Holds.{Holds, HasDeskTables}
use Rattle.gr_store.specs.Version1.{new_state1}
use Rattle.gr_store.proofs.Migration.MigratedDesks.{new_lifted}
use Rattle.gr_store.proofs.laws.migrated_desk_in_memory.Goals as goal

pub returns-in-Ok-clause-holds : goal.returns-in-Ok-clause-holds
returns-in-Ok-clause-holds c =
    let desk1 = c.in_ok-conn.ensures.holds in
    let db = (state over_memory c.in-Ok.store.conn).now in
    subst (λ s. HasDeskTables db × Holds s db) new_lifted
    (c.in-Ok.ensures.migrates (memory_is_clean c.in-Ok.store.conn) desk1.0 new_state1 desk1.1 desk1.2)

pub returns-in-Ok-clause-settled : goal.returns-in-Ok-clause-settled
returns-in-Ok-clause-settled c = c.in-Ok.ensures.settled (memory_is_clean c.in-Ok.store.conn) c.in_ok-conn.ensures.settled
