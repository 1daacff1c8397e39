-- What is told where no desk is opened in a file, and what is left of the file then.
use Rattle.std.specs.Prelude.{◌≡◌, ◌⊎◌, ⊤, Option, None, Some}
use Rattle.sqlite_disk.specs.declared.Disk as disk
use Rattle.sqlite_disk.specs.declared.Files.{Files}
use Rattle.sqlite_trees.specs.Tree.{Trees}
use Rattle.sqlite_wal.specs.Files.{outcomes}
use Rattle.sqlite_wal.specs.Recovery.{Image}
use Rattle.sqlite_pool.specs.Stored.{StandsAs}
use Rattle.sqlite_store.specs.declared.store.FileStore.{FileStore}
use Rattle.sqlite_store.specs.FileStore.{recovers}
use Rattle.sqlite_store.specs.Unopened.{state_of}
use Rattle.sqlite.specs.declared.error.Error.{Error}
use Rattle.sqlite.specs.declared.file.Leftover.{Leftover}
use Rattle.sqlite.specs.declared.file.Leftover.TheVariants as rest
use Rattle.sqlite.specs.Files.{file_state, image_of, over_files, FailsToOpenFiles, IsCleanLeft, IsOpened, LeavesFiles}
use Rattle.sqlite.specs.Held.{Held, IsNew}
use Rattle.sqlite.specs.Start.{FindsIn}
use Rattle.sqlite.specs.State.{HasCleanDisk}
use Rattle.gr_core.specs.Desks.State.{State}
use Rattle.gr_store.specs.declared.fault.Fault.{Fault}
use Rattle.gr_store.specs.Commits.{LeavesDesk}
use Rattle.gr_store.specs.Faults.{IsOfStore, fault_of_error}
use Rattle.gr_office.specs.NotOpened.{FailsToOpen}
use Rattle.gr_office.specs.Office.{StillKeeps}
use Rattle.gr_desk.specs.declared.no_office.Left.{Left}
use Rattle.gr_desk.specs.declared.no_office.Left.TheVariants as given

-- the two files hold these contents, and a crash leaves nothing else of them
pub record Hold {D : Type 0} (g : disk.Ghosts D) (contents : Image) (files : Files D) : Type 0 where
  pub seen : image_of g files ≡ contents
  pub only : (left : Image) → outcomes g files.log files.db left → left ≡ contents

module _ {D : Type 0} {g : disk.Ghosts D} where
  -- the connection was just opened over these contents
  pub record IsOpenedOver (contents : Image) (conn : Held (FileStore D g)) : Type 0 where
    pub fresh : IsNew conn
    pub opened : HasCleanDisk (file_state conn) → IsOpened conn
    pub found : HasCleanDisk (file_state conn) → FindsIn contents (file_state conn)

  -- No connection was made over files that held these contents. The fault is the engine's error, which has its cause,
  -- and what it leaves of the files is what it says.
  pub record FailsToConnect (contents : Image) (reason : Fault) (left : Leftover D g) : Type 0 where
    pub error : Error
    pub fault : reason ≡ fault_of_error error
    pub files : Files D
    pub hold : Hold g contents files
    pub cause : IsCleanLeft left → FailsToOpenFiles files left error
    pub leaves : IsCleanLeft left → LeavesFiles files left

  -- what is given back, where the engine gives this back
  abbrev pub given_back : Option (Leftover D g) → Left D g
  given_back None = given.Nothing
  given_back (Some left) = given.Files left

  -- no connection was made over these contents
  abbrev pub IsNotConnected : Image → Fault → Left D g → Type 0
  IsNotConnected contents fault given.Nothing = IsOfStore fault
  IsNotConnected contents fault (given.Files left) = IsOfStore fault × FailsToConnect contents fault left
  IsNotConnected contents fault (given.Connection conn) = ⊥

  -- no office was opened over these contents
  abbrev pub IsNotOpened : Image → Fault → Left D g → Type 0
  IsNotOpened contents fault given.Nothing = IsOfStore fault
  IsNotOpened contents fault (given.Files left) = IsOfStore fault × FailsToConnect contents fault left
  IsNotOpened contents fault (given.Connection conn) =
      (before : Held (FileStore D g)) × IsOpenedOver contents before × FailsToOpen over_files before conn fault

  -- the disk of what is given back has returned what was written
  abbrev pub HasCleanLeft : Left D g → Type 0
  HasCleanLeft given.Nothing = ⊤
  HasCleanLeft (given.Files left) = IsCleanLeft left
  HasCleanLeft (given.Connection conn) = HasCleanDisk (file_state conn)

  -- Whatever a stop leaves of files that held these contents, with a desk of this state, is these contents, or stands
  -- for the same pages, or holds that desk.
  abbrev pub AreStill : Image → State → Leftover D g → Type 0
  AreStill contents s (rest.Files files) = (image : Image) → outcomes g files.log files.db image → image ≡ contents
  AreStill contents s (rest.Unopened files) =
      (image : Image) → (state_of files).may_leave image
      → (image ≡ contents) ⊎ StandsAs (state_of files).page_size contents image
  AreStill contents s (rest.Store store) = (trees : Trees) → recovers store trees → LeavesDesk s trees

  -- What is given back of contents that held a desk of this state has it still. A connection that is open keeps it, and
  -- a stop leaves it, whether the connection is open or not.
  abbrev pub HasStill : Image → State → Left D g → Type 0
  HasStill contents s given.Nothing = ⊤
  HasStill contents s (given.Files left) = AreStill contents s left
  HasStill contents s (given.Connection conn) = StillKeeps over_files s conn
