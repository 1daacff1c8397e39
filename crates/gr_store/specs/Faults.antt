-- Which faults come of what.
use Rattle.std.specs.Prelude.{◌≡◌, ◌⊎◌, ℕ, Bool, true, false, List, codes, if◌then◌else◌}
use Rattle.sqlite.specs.declared.error.Error.{Error}
use Rattle.sqlite.specs.declared.error.Error.TheVariants.{SqliteFailure, SqlInputError}
use Rattle.sqlite.specs.declared.error.Error.TheVariants.{InvalidColumnIndex, InvalidColumnType}
use Rattle.sqlite.specs.declared.error.Error.TheVariants.{IntegralValueOutOfRange, Utf8Error}
use Rattle.sqlite.specs.declared.error.ErrorCode.TheVariants.{OutOfMemory}
use Rattle.gr_core.specs.declared.rows.NoRow.{NoRow}
use Rattle.gr_core.specs.declared.rows.NoRow.TheVariants as no_row
use Rattle.gr_core.specs.declared.unfit.Unfit.{Unfit}
use Rattle.gr_core.specs.declared.unfit.Unfit.TheVariants as unfit
use Rattle.gr_store.specs.declared.fault.Fault.{Fault}
use Rattle.gr_store.specs.declared.fault.Fault.TheVariants.{Memory, Store, Closed, Damaged, TooNew, TooOld, NotADesk, Occupied}

-- running out of memory, or another failure of the database
abbrev pub IsOfStore : Fault → Type 0
IsOfStore fault = (fault ≡ Memory) ⊎ (fault ≡ Store)

-- an error of the engine: it wants memory, or failed for another cause
abbrev pub fault_of_error : Error → Fault
fault_of_error (SqliteFailure OutOfMemory) = Memory
fault_of_error _ = Store

-- the text of a select does not fit the schema, or a row of its answer has not the columns that it is read by
abbrev pub is_unreadable : Error → Bool
is_unreadable (SqlInputError e) = true
is_unreadable (InvalidColumnIndex at) = true
is_unreadable (InvalidColumnType at kind) = true
is_unreadable (IntegralValueOutOfRange at) = true
is_unreadable (Utf8Error at) = true
is_unreadable _ = false

-- an error of a select, or of the reading of its rows
abbrev pub fault_of_read : Error → Fault
fault_of_read e = if is_unreadable e then Damaged else fault_of_error e

-- what a select that fails, or whose rows cannot be read, may be answered with
abbrev pub CanBeUnread : Fault → Type 0
CanBeUnread fault = IsOfStore fault ⊎ (fault ≡ Damaged)

-- what a load that fails may be answered with
abbrev pub CanFailToLoad : Fault → Type 0
CanFailToLoad fault = CanBeUnread fault ⊎ ((fault ≡ TooNew) ⊎ (fault ≡ TooOld))

-- what a migration that fails may be answered with
abbrev pub CanFailToMigrate : Fault → Type 0
CanFailToMigrate fault = CanBeUnread fault ⊎ ((fault ≡ TooNew) ⊎ (fault ≡ Occupied))

-- rows that make no desk, and running out of memory for one
abbrev pub fault_of_unfit : Unfit → Fault
fault_of_unfit unfit.Damaged = Damaged
fault_of_unfit unfit.Memory = Memory

-- a number that is too great for its column, and running out of memory for a row
abbrev pub fault_of_no_row : NoRow → Fault
fault_of_no_row no_row.TooGreat = Store
fault_of_no_row no_row.Memory = Memory

-- what is printed of a fault
abbrev pub fault_text : Fault → List ℕ
fault_text Memory = codes "out of memory"
fault_text Store = codes "the database failed"
fault_text Closed = codes "closed by an earlier fault"
fault_text Damaged = codes "the rows of no valid desk"
fault_text TooNew = codes "a desk of a later version"
fault_text TooOld = codes "a desk of an earlier version"
fault_text NotADesk = codes "no table desk"
fault_text Occupied = codes "a name of the tables is taken"
