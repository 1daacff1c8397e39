use Rattle.std.proofs.Common.{subst}
use Rattle.sqlite.proofs.Callers.{memory_is_clean}
use Rattle.sqlite.specs.Steps.{over_memory}
use Rattle.gr_store.specs.Version1.{new_state1}
use Rattle.gr_store.proofs.Migration.MigratedDesks.{new_lifted}
use Rattle.gr_office.specs.Office.{IsOpenWith}
use Rattle.gr_office.proofs.laws.migrated_office_in_memory.Goals as goal

pub returns-in-Ok : goal.returns-in-Ok
returns-in-Ok c =
    let desk1 = c.in_ok-conn.ensures.holds in
    subst (λ s. IsOpenWith over_memory s c.in-Ok.office) new_lifted
    (c.in-Ok.ensures.migrates (memory_is_clean c.in-Ok.office.conn) c.in_ok-conn.ensures.settled desk1.0 new_state1 desk1.1 desk1.2)
