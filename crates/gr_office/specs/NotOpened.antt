-- What is told where no office is opened, made or upgraded over a connection, and how the connection is handed back
-- then.
use Rattle.std.specs.Prelude.{◌≡◌, ◌⊎◌, false, IsTrue, None, codes}
use Rattle.gr_core.specs.Desks.State.{State}
use Rattle.gr_core.specs.Desks.Valid.{IsValid}
use Rattle.gr_core.specs.Desks.Version1.{IsValid1, lifted}
use Rattle.gr_store.specs.declared.fault.Fault.{Fault}
use Rattle.gr_store.specs.declared.fault.Fault.TheVariants as faults
use Rattle.gr_store.specs.Causes.{DiskFails, CannotMakeDesk, CannotSelect, CannotSelectBy}
use Rattle.gr_store.specs.Commits.{LeavesDesk, LeavesNewDesk}
use Rattle.gr_store.specs.Content.{WritesNothing}
use Rattle.gr_store.specs.Faults.{CanFailToLoad, CanFailToMigrate, IsOfStore}
use Rattle.gr_store.specs.Holds.{Holds, HasDeskTables1, IsTooNew, IsTooOld}
use Rattle.gr_store.specs.Migrates.{LeavesBallots}
use Rattle.gr_store.specs.Schema.{is_occupied}
use Rattle.gr_store.specs.SelectedTables.{HasPlainAnswer}
use Rattle.gr_store.specs.Selects.{ballot1_select, desk_select}
use Rattle.gr_store.specs.Tabled.{HasColumns1, HasTables}
use Rattle.gr_store.specs.Version1.{Holds1, HoldsValid1, OwnsValid1}
use Rattle.gr_office.specs.Office.{CannotBringUp}
use Rattle.sqlite.specs.Does.{lacks_sequence}
use Rattle.sqlite.specs.Held.{Held, state}
use Rattle.sqlite.specs.State.{HasCleanDisk, Survives}
use Rattle.sqlite_catalog.specs.Change.{is_used}
use Rattle.sqlite_schema.specs.Names.{table_named}
use Rattle.sqlite_trees.specs.declared.store.Store.{Ghosts}

-- No office is opened over a connection that is this before, for this reason. What the database holds stays.
pub record FailsToOpen {S : Type 0} (g : Ghosts S) (before after : Held S) (fault : Fault) : Type 0 where
  pub can : CanFailToLoad fault
      ⊎ ((fault ≡ faults.NotADesk) × (table_named (state g before).now.schema (codes "desk") ≡ None))
  pub no_desk : before.in_transaction ≡ false → table_named (state g before).now.schema (codes "desk") ≡ None
      → (fault ≡ faults.NotADesk) × (after ≡ before)
  pub valid : HasCleanDisk (state g after) → HasTables (state g before).now.schema
      → (s : State) → IsValid s → Holds s (state g before).now → IsOfStore fault
  pub damaged : HasCleanDisk (state g after) → fault ≡ faults.Damaged → HasTables (state g before).now.schema
      → (s : State) → IsValid s → ¬ (Holds s (state g before).now)
  pub too_new : HasCleanDisk (state g after) → fault ≡ faults.TooNew → IsTooNew (state g before).now
  pub later : HasCleanDisk (state g after) → HasPlainAnswer desk_select (state g before).now
      → IsTooNew (state g before).now
      → (fault ≡ faults.TooNew) ⊎ (IsOfStore fault ⊎ (fault ≡ faults.NotADesk))
  pub too_old : HasCleanDisk (state g after) → fault ≡ faults.TooOld → IsTooOld (state g before).now
  pub earlier : HasCleanDisk (state g after) → HasPlainAnswer desk_select (state g before).now
      → IsTooOld (state g before).now
      → (fault ≡ faults.TooOld) ⊎ (IsOfStore fault ⊎ (fault ≡ faults.NotADesk))
  pub caused : HasCleanDisk (state g after) → fault ≡ faults.Store
      → DiskFails (state g before) (state g after)
      ⊎ (CannotSelect (state g before).step_limit (state g before).now ⊎ IsTrue before.in_transaction)
  pub wrote_nothing : WritesNothing (state g before) (state g after)
  pub back : after.in_transaction ≡ before.in_transaction

-- No desk is made over a connection that is this before, for this reason. A stop leaves what was there, or the tables
-- of a new desk.
pub record FailsToMake {S : Type 0} (g : Ghosts S) (before after : Held S) (fault : Fault) : Type 0 where
  pub can : IsOfStore fault
      ⊎ ((fault ≡ faults.Occupied) × IsTrue (is_occupied (state g before).now.schema))
  pub occupied : before.in_transaction ≡ false → IsTrue (is_occupied (state g before).now.schema)
      → (fault ≡ faults.Occupied) × (after ≡ before)
  pub caused : HasCleanDisk (state g after) → fault ≡ faults.Store
      → DiskFails (state g before) (state g after)
      ⊎ (CannotMakeDesk (state g before).step_limit (state g before).now ⊎ IsTrue before.in_transaction)
  pub stops : Survives (state g before) (state g after) (LeavesNewDesk (state g before).now)
  pub back : after.in_transaction ≡ before.in_transaction

-- No desk is upgraded to this version over a connection that is this before, for this reason. A stop leaves what was
-- there, or of a valid desk of version 1 the same desk in this version.
pub record FailsToMigrate {S : Type 0} (g : Ghosts S) (before after : Held S) (fault : Fault) : Type 0 where
  pub can : CanFailToMigrate fault
      ⊎ ((fault ≡ faults.NotADesk) × (table_named (state g before).now.schema (codes "desk") ≡ None))
  -- a disk that returns what was written has done so before
  pub clean : HasCleanDisk (state g after) → HasCleanDisk (state g before)
  pub no_desk : before.in_transaction ≡ false → table_named (state g before).now.schema (codes "desk") ≡ None
      → (fault ≡ faults.NotADesk) × (after ≡ before)
  pub finds : HasCleanDisk (state g after) → HasDeskTables1 (state g before).now → HoldsValid1 (state g before).now
      → IsOfStore fault ⊎ ((fault ≡ faults.Occupied)
      × IsTrue (is_used (state g before).now.schema (codes "ballot2")))
  pub current : HasCleanDisk (state g after) → HasTables (state g before).now.schema
      → (s : State) → IsValid s → Holds s (state g before).now → IsOfStore fault
  pub later : HasCleanDisk (state g after) → HasPlainAnswer desk_select (state g before).now
      → IsTooNew (state g before).now
      → (fault ≡ faults.TooNew) ⊎ (IsOfStore fault ⊎ (fault ≡ faults.NotADesk))
  pub too_new : HasCleanDisk (state g after) → OwnsValid1 (state g before).now → fault ≡ faults.TooNew
      → IsTooNew (state g before).now
  pub damaged : HasCleanDisk (state g after) → fault ≡ faults.Damaged
      → (HasDeskTables1 (state g before).now → ¬ (HoldsValid1 (state g before).now))
      × (HasTables (state g before).now.schema → (s : State) → IsValid s → ¬ (Holds s (state g before).now))
  pub occupied : HasCleanDisk (state g after) → fault ≡ faults.Occupied
      → IsTrue (is_used (state g before).now.schema (codes "ballot2")) × HoldsValid1 (state g before).now
  -- where the name of the table is taken, nothing of the migration itself has failed
  pub taken : HasCleanDisk (state g after) → HasColumns1 (state g before).now.schema
      → HoldsValid1 (state g before).now → IsTrue (is_used (state g before).now.schema (codes "ballot2"))
      → (fault ≡ faults.Occupied) ⊎ ((fault ≡ faults.Memory)
      ⊎ ((fault ≡ faults.Store) × (IsTrue before.in_transaction ⊎ (DiskFails (state g before) (state g after)
      ⊎ CannotSelectBy ballot1_select (state g before).step_limit (state g before).now))))
  pub caused : HasCleanDisk (state g after) → (tables : OwnsValid1 (state g before).now) → fault ≡ faults.Store
      → IsTrue before.in_transaction
      ⊎ (DiskFails (state g before) (state g after) ⊎ CannotBringUp (state g before) tables)
  pub spared : ¬ (HoldsValid1 (state g before).now) → WritesNothing (state g before) (state g after)
  pub unwritten : HasCleanDisk (state g after) → OwnsValid1 (state g before).now → ¬ (IsOfStore fault)
      → WritesNothing (state g before) (state g after)
  pub stops : HasDeskTables1 (state g before).now → (s : State) → IsValid1 s → Holds1 s (state g before).now
      → Survives (state g before) (state g after) (LeavesDesk (lifted s))
  pub leaves : (tables : HasDeskTables1 (state g before).now) → lacks_sequence (state g before).now.schema ≡ false
      → Survives (state g before) (state g after) (LeavesBallots (state g before).now tables.has.own)
  pub back : after.in_transaction ≡ before.in_transaction
