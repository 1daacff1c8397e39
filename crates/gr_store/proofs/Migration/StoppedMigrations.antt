-- What is read after a migration that does nothing more, and what such a migration leaves and answers.
use Rattle.std.proofs.Common.{◌≡◌, ◌≢◌, ◌⊎◌, Result, Ok, Err, IfErr, OnOk, inl, inr}
use Rattle.sqlite.specs.State.{State as Connection, HasCleanDisk, Survives}
use Rattle.sqlite.proofs.StateLemmas.{survives_then}
use Rattle.sqlite_trees.specs.Tree.{Trees}
use Rattle.gr_store.specs.declared.fault.Fault.{Fault}
use Rattle.gr_store.specs.declared.fault.Fault.TheVariants as faults
use Rattle.gr_store.specs.Faults.{IsOfStore, CanBeUnread}
use Rattle.gr_store.specs.Causes.{DiskFails, CannotSelect}
use Rattle.gr_store.specs.Content.{WritesNothing}
use Rattle.gr_store.specs.Selects.{ballot_select}
use Rattle.gr_store.specs.Migrates.{StaysCurrent}
use Rattle.gr_store.proofs.Failures.FailedTexts.{failed_then}
use Rattle.gr_store.proofs.Connections.StepsInTurn.{was_clean}
use Rattle.gr_store.proofs.Failures.UnreadTables.{selects_told}

-- ==== what is read after a migration

-- where a database of this version stays, what cannot be read after it could not be read before it
pub stays_told : (old mid new : Connection) → StaysCurrent old mid → WritesNothing mid new → HasCleanDisk new
    → DiskFails mid new ⊎ CannotSelect mid.step_limit mid.now → DiskFails old new ⊎ CannotSelect old.step_limit old.now
stays_told old mid new stays none clean = selects_told ballot_select old mid new stays.none (λ _. stays.same) none clean

-- a disk that fails after it has failed since before it
pub disk_told : (old mid new : Connection) (P : Trees → Type 0) → Survives old mid P → WritesNothing mid new
    → HasCleanDisk new → DiskFails mid new → DiskFails old new
disk_told old mid new P first none clean =
    failed_then old mid new P first (was_clean mid new (λ _. ⊥) none.leaves clean) none.leaves.counts

-- ==== what a migration that does nothing more makes of a connection

-- where nothing could have been migrated, nothing was written
pub never_written : (old mid new : Connection) (P : Trees → Type 0) → WritesNothing old mid → Survives mid new P
    → (HasCleanDisk mid → ⊥) → WritesNothing old new
never_written old mid new P first second never = record {
  leaves = survives_then old mid new (λ _. ⊥) P (λ _. ⊥) (λ _ db none. none) (λ clean db left. never (back clean)) first.leaves second;
  was_open = λ clean live. absurd (never (back clean));
  stays = λ clean live settled. absurd (never (back clean));
}
  where
    back : HasCleanDisk new → HasCleanDisk mid
    back = was_clean mid new P second

-- ==== what it answers

-- a fault that is none of these is of the store
pub of_store : (fault : Fault) → CanBeUnread fault ⊎ (fault ≡ faults.TooNew) → fault ≢ faults.Damaged
    → fault ≢ faults.TooNew → IsOfStore fault
of_store fault (inl (inl of)) whole known = of
of_store fault (inl (inr is)) whole known = absurd (whole is)
of_store fault (inr is) whole known = absurd (known is)

-- one of the store is not that a name is taken
pub not_occupied : {X : Type 0} (r : Result X Fault) → IfErr r IsOfStore → r ≢ Err faults.Occupied
not_occupied (Ok x) of is = absurd (cc)
not_occupied (Err fault) (inl memory) is = absurd (let same : fault ≡ faults.Occupied = cc in cc)
not_occupied (Err fault) (inr store) is = absurd (let same : fault ≡ faults.Occupied = cc in cc)

pub fails_so : {X : Type 0} (r : Result X Fault) (P Q : Fault → Type 0) → ((fault : Fault) → P fault → Q fault) → IfErr r P
    → IfErr r Q
fails_so (Ok x) P Q then h = tt
fails_so (Err fault) P Q then h = then fault h

pub ok_then : {X E P : Type 0} (r : Result X E) → P → OnOk r P
ok_then (Ok x) p = p
ok_then (Err e) p = tt
