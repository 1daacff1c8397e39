-- What a stop leaves of the two files of a desk, and what their close leaves.
use Rattle.std.specs.Prelude.{◌≡◌, List}
use Rattle.sqlite_disk.specs.declared.Disk as disk
use Rattle.sqlite_disk.specs.declared.Files.{Files}
use Rattle.sqlite_trees.specs.Tree.{Trees}
use Rattle.sqlite_trees.specs.View.{IsClean}
use Rattle.sqlite_wal.specs.Files.{outcomes}
use Rattle.sqlite_wal.specs.Reads.{AreClean}
use Rattle.sqlite_wal.specs.Recovery.{Image}
use Rattle.sqlite_store.specs.declared.store.FileStore.{FileStore}
use Rattle.sqlite_store.specs.FileStore as store
use Rattle.sqlite.specs.Closing.{HoldsAlone}
use Rattle.sqlite.specs.Files.{over_files, HoldsDatabase}
use Rattle.sqlite.specs.Held.{Held}
use Rattle.gr_core.specs.Desks.State.{State}
use Rattle.gr_store.specs.Commits.{LeavesDesk}
use Rattle.gr_office.specs.History.{Attempt, AreMade, LeavesPrefix}
use Rattle.gr_office.specs.Office.{Office, IsOpenWith}

-- These attempts led from an office that was open with the state s to this one, whose files are these now. Then each
-- pair of contents that a stop may leave of them holds the database of a desk after a prefix of the accepted commands.
-- (That there is one is proved; which one it is, the contents tell.)
abbrev pub StoppedFilesHoldAPrefix : {D : Type 0} {g : disk.Ghosts D} → Office (FileStore D g) → FileStore D g → Type 0
StoppedFilesHoldAPrefix {D} {g} last files = IsClean (store.view files)
    → (s : State) (first : Office (FileStore D g)) (attempts : List Attempt)
    → IsOpenWith over_files s first → AreMade over_files first attempts last
    → (left : Image) → (store.state files).may_leave left
    → ∥ ((db : Trees) × HoldsDatabase left db × LeavesPrefix s attempts db) ∥₁

-- An office was open with the state s, and these attempts led from it to this one. A stop falls then, and these
-- contents are some that it may leave of the files of this one: its connection was not closed.
pub record IsStoppedAt {D : Type 0} {g : disk.Ghosts D} (s : State) (attempts : List Attempt)
    (last : Office (FileStore D g))
    (contents : Image) : Type 0 where
  pub first : Office (FileStore D g)
  pub from_state : IsOpenWith over_files s first
  pub made : AreMade over_files first attempts last
  pub may : (store.state last.conn.store).may_leave contents

-- Whatever a stop may leave then holds the database of a desk after a prefix of the accepted commands. It is so where
-- the disk had returned what was written up to the end of the connection, which comes after it. These are the files
-- then.
abbrev pub StopsHoldAPrefix : {D : Type 0} {g : disk.Ghosts D} → Office (FileStore D g) → FileStore D g → Type 0
StopsHoldAPrefix {D} {g} last ended = IsClean (store.view ended)
    → (s : State) (attempts : List Attempt) (contents : Image) → IsStoppedAt s attempts last contents
    → ∥ ((db : Trees) × HoldsDatabase contents db × LeavesPrefix s attempts db) ∥₁

-- These attempts led from an office that was open with the state s to this one, whose files were closed, with all of
-- the log copied. Then there is a database of a desk after a prefix of the accepted commands, that of the office's own
-- desk where it was still open: each pair of contents that a stop may leave of the files holds it, and so does the file
-- of such a pair with no log.
abbrev pub FileAloneHoldsAPrefix : {D : Type 0} {g : disk.Ghosts D} → Office (FileStore D g) → Files D → Type 0
FileAloneHoldsAPrefix {D} {g} last files = AreClean g files.log files.db
    → (s : State) (first : Office (FileStore D g)) (attempts : List Attempt)
    → IsOpenWith over_files s first → AreMade over_files first attempts last
    → (db : Trees) × LeavesPrefix s attempts db
    × ((t : State) → IsOpenWith over_files t last → LeavesDesk t db)
    × ((left : Image) → outcomes g files.log files.db left → HoldsAlone left db)

-- These attempts led from an office that was open with the state s to this one, the log of which could not be copied,
-- and this is its store. Whatever may be recovered from what a stop leaves of the store's files is the database of a
-- desk after a prefix of the accepted commands.
abbrev pub StoreHoldsAPrefix : {D : Type 0} {g : disk.Ghosts D} → Office (FileStore D g) → FileStore D g → Type 0
StoreHoldsAPrefix {D} {g} last left = IsClean (store.view left)
    → (s : State) (first : Office (FileStore D g)) (attempts : List Attempt)
    → IsOpenWith over_files s first → AreMade over_files first attempts last
    → (db : Trees) → store.recovers left db → LeavesPrefix s attempts db

-- so it is of each office that had this connection last
abbrev pub ClosedFilesHoldAPrefix : {D : Type 0} {g : disk.Ghosts D} → Held (FileStore D g) → Files D → Type 0
ClosedFilesHoldAPrefix {D} {g} conn files =
    (last : Office (FileStore D g)) → last.conn ≡ conn → FileAloneHoldsAPrefix last files

-- and where the log could not be copied
abbrev pub UnclosedStoreHoldsAPrefix : {D : Type 0} {g : disk.Ghosts D} → Held (FileStore D g) → FileStore D g → Type 0
UnclosedStoreHoldsAPrefix {D} {g} conn left =
    (last : Office (FileStore D g)) → last.conn ≡ conn → StoreHoldsAPrefix last left
