-- The life of a desk in a file: what line after line makes of it, and what each one finds.
use Rattle.std.specs.Prelude.{◌≡◌, ℕ, List, [], ◌∷◌, Option, Some}
use Rattle.sqlite_trees.specs.Tree.{Trees}
use Rattle.sqlite_trees.specs.declared.store.Store.{Ghosts}
use Rattle.sqlite_disk.specs.declared.Disk as disk
use Rattle.sqlite_disk.specs.declared.Files.{Files}
use Rattle.sqlite_wal.specs.Files.{outcomes}
use Rattle.sqlite_wal.specs.Reads.{AreClean}
use Rattle.sqlite_wal.specs.Recovery.{Image}
use Rattle.sqlite_store.specs.FileStore as store
use Rattle.sqlite_store.specs.declared.store.FileStore.{FileStore}
use Rattle.sqlite_trees.specs.View.{IsClean}
use Rattle.sqlite.specs.Files.{HoldsDatabase, image_of, over_files}
use Rattle.sqlite.specs.Held.{Held, state}
use Rattle.sqlite.specs.State.{HasCleanDisk}
use Rattle.gr_core.specs.Desks.State.{State}
use Rattle.gr_office.specs.Crash.{IsAfterPrefix}
use Rattle.gr_office.specs.History.{Attempt, desk}
use Rattle.gr_desk.specs.declared.ending.Ending.{Ending}
use Rattle.gr_desk.specs.declared.ending.Ending.TheVariants as ending
use Rattle.gr_desk.specs.declared.line.Line.{Line}
use Rattle.gr_desk.specs.declared.line.Line.TheVariants.{Import, Once, Serve}
use Rattle.gr_desk.specs.Connections.{Refusals}
use Rattle.gr_desk.specs.Host.{Bytes, Content, HasDesk, Known}
use Rattle.gr_desk.specs.Lines.{Stopped}
use Rattle.gr_desk.specs.Program.{LineDoes, file_of}

-- What may be in the file of a connection that a line left, whose disk has returned what was written: contents that
-- hold a database which a stop may leave of it. (That there is one is said; which one it is, the contents tell.)
pub record IsLeftOf {S : Type 0} (g : Ghosts S) (conn : Held S) (image : Image) : Type 0 where
  pub clean : HasCleanDisk (state g conn)
  pub left : ∥ ((db : Trees) × (state g conn).may_leave db × HoldsDatabase image db) ∥₁

-- The files that are left of a connection: what they hold now may be left of it, and so may whatever a crash leaves.
abbrev pub AreLeftOf : {D : Type 0} {g : disk.Ghosts D} → Held (FileStore D g) → Files D → Type 0
AreLeftOf {D} {g} conn files = AreClean g files.log files.db
    → IsLeftOf over_files conn (image_of g files)
    × ((image : Image) → outcomes g files.log files.db image → IsLeftOf over_files conn image)

-- The store that is left of a connection whose log could not be copied: each database that may be recovered from what a
-- crash leaves of it is one that a stop may leave of the connection.
abbrev pub IsLeftOver : {D : Type 0} {g : disk.Ghosts D} → Held (FileStore D g) → FileStore D g → Type 0
IsLeftOver conn left = IsClean (store.view left)
    → HasCleanDisk (state over_files conn)
    × ((db : Trees) → store.recovers left db → (state over_files conn).may_leave db)

-- At most one database is in a file with this content, and at most one desk, whatever its version.
pub record HoldsOne (content : Content) : Type 0 where
  pub database : (image : Image) → content ≡ Bytes image → (one other : Trees)
      → HoldsDatabase image one → HoldsDatabase image other → one ≡ other
  pub desk : (s t : State) → HasDesk content s → HasDesk content t → s ≡ t

-- What the next line finds in the file after one that found this there and left that: the desk that it found itself,
-- where it left no connection; and else what a stop may leave of the connection, whether it is closed or not.
abbrev pub IsNext : {S : Type 0} → Ghosts S → Content → Ending S → Content → Type 0
IsNext g found ending.Nothing next = (s : State) → HasDesk found s → HasDesk next s
IsNext g found (ending.Close conn) next = (image : Image) × (next ≡ Bytes image) × IsLeftOf g conn image
IsNext g found (ending.LetGo conn) next = (image : Image) × (next ≡ Bytes image) × IsLeftOf g conn image

module _ {S : Type 0} (g : Ghosts S) (known : Known) (Refused : Refusals) (IsMoment : ℕ → Type 0)
    (coming old new : Option (List ℕ))
    (status : ℕ)
    (said : Option (List ℕ)) where
  -- The attempts of a line: those that led from the office that it opened to the one that it left. There are none where
  -- it opened none, and where it reads alone.
  abbrev pub attempts_of : (line : Line) (left : Ending S)
      → LineDoes g known Refused line IsMoment coming old new status said left → List Attempt
  attempts_of (Once file at) (ending.Close conn) (outcome, is, once) = once.attempts
  attempts_of (Import file roll at) (ending.Close conn) (done, is, imported) = imported.attempts
  attempts_of (Serve file port count at) (ending.Close conn) (done, is, served) = served.1.attempts
  attempts_of (Serve file port count at) (ending.LetGo conn) (done, is, Stopped err served) = served.attempts
  attempts_of line left does = []

module _ {S : Type 0} (g : Ghosts S) (Refused : Refusals) (IsMoment : ℕ → Type 0) (file : List ℕ) where
  -- A line ran over a host whose file had this content, at such moments. These are its attempts, and the next line may
  -- find this in the file.
  pub record IsRun (found : Content) (attempts : List Attempt) (next : Content) : Type 0 where
    pub line : Line
    pub known : Known
    pub coming : Option (List ℕ)
    pub old : Option (List ℕ)
    pub new : Option (List ℕ)
    pub status : ℕ
    pub said : Option (List ℕ)
    pub left : Ending S
    pub over : file_of line ≡ file
    pub there : known.content file ≡ Some found
    pub does : LineDoes g known Refused line IsMoment coming old new status said left
    pub its : attempts ≡ attempts_of g known Refused IsMoment coming old new status said line left does
    pub leaves : IsNext g found left next

  -- lines ran one after the other, each with its attempts, and the file had these two before them and after
  abbrev pub AreRuns : Content → List (List Attempt) → Content → Type 0
  AreRuns first [] last = last ≡ first
  AreRuns first (life ∷ lives) last = (next : Content) × IsRun first life next × AreRuns next lives last

-- From s the state t is reached by the finished attempts of each of these lists, one list after the other, and at most
-- one more accepted one of each.
abbrev pub IsAfterLives : State → List (List Attempt) → State → Type 0
IsAfterLives s [] t = t ≡ s
IsAfterLives s (life ∷ lives) t = (mid : State) × IsAfterPrefix {m = desk} s life mid × IsAfterLives mid lives t

-- Whatever lines ran over a file with a desk, in this version or in version 1: it has the desk after a prefix of the
-- accepted commands of each.
abbrev pub RunsLeadToAPrefix : {S : Type 0} → Ghosts S → Refusals → (ℕ → Type 0) → Type 0
RunsLeadToAPrefix g Refused IsMoment = (file : List ℕ) (first last : Content) (lives : List (List Attempt)) (s : State)
    → HasDesk first s → AreRuns g Refused IsMoment file first lives last
    → ∥ ((t : State) × IsAfterLives s lives t × HasDesk last t) ∥₁
