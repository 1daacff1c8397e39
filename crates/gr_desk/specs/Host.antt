-- What is known of a host, what is found in its files, and what was asked of it.
use Rattle.std.specs.Prelude.{◌≡◌, ◌≢◌, ◌⊎◌, ⊤, ℕ, Bool, true, false, List, Option, None, Some, MatchOption}
use Rattle.sqlite_trees.specs.Tree.{Trees}
use Rattle.sqlite_trees.specs.declared.store.Store.{Ghosts}
use Rattle.sqlite_wal.specs.Recovery.{Image}
use Rattle.sqlite.specs.Files.{HoldsDatabase, IsBlankAs}
use Rattle.sqlite.specs.Held.{Held, state}
use Rattle.sqlite.specs.Start.{FindsIn}
use Rattle.sqlite.specs.State.{HasCleanDisk, IsLive, Opens}
use Rattle.gr_core.specs.Desks.State.{State, new_state}
use Rattle.gr_core.specs.Desks.Valid.{IsValid}
use Rattle.gr_core.specs.Desks.Version1.{IsValid1, lifted}
use Rattle.gr_store.specs.Commits.{LeavesDesk}
use Rattle.gr_store.specs.Version1.{Holds1, LeavesDesk1}
use Rattle.gr_store.specs.declared.fault.Fault.{Fault}
use Rattle.gr_store.specs.declared.fault.Fault.TheVariants as faults
use Rattle.gr_store.specs.Content.{IsSettled, WritesNothing}
use Rattle.gr_store.specs.Faults.{IsOfStore}
use Rattle.gr_store.specs.Holds.{Holds, HasDeskTables1}
use Rattle.gr_office.specs.NotOpened.{FailsToOpen}
use Rattle.gr_office.specs.Office.{IsOpenWith, Keeps, Office}
use Rattle.gr_desk.specs.declared.ending.Ending.{Ending}
use Rattle.gr_desk.specs.declared.ending.Ending.TheVariants as ending
use Rattle.gr_desk.specs.declared.failure.Failure.{Failure}
use Rattle.gr_desk.specs.declared.failure.Failure.TheVariants as failures
use Rattle.gr_desk.specs.Spans.{ComesNext}
use Rattle.gr_desk.specs.Sums.{HasWrongSum}

-- what a file has: these bytes, of its log and of itself; or a new desk, as memory has it
pub data Content : Type 0 where
  Bytes : Image → Content
  NewDesk : Content

-- What is known of a host: nothing at each name and port for which it is None.
pub record Known : Type 0 where
  -- whether something is under a name
  pub there : List ℕ → Option Bool
  -- what the file with a name has, if there is one
  pub content : List ℕ → Option Content
  -- the bytes of the roll file with a name
  pub roll : List ℕ → Option (List ℕ)
  -- what the connections to come on a port bring, each its bytes up to their end
  pub awaited : ℕ → Option (List (List ℕ))

-- of whose names and ports nothing is known
abbrev pub nothing_known : Known
nothing_known = record { there = λ _. None; content = λ _. None; roll = λ _. None; awaited = λ _. None }

-- What a host was asked for and gave.
pub data Access : Type 0 where
  -- a connection to the file with this name, which was there
  ToOpen : List ℕ → Access
  -- a connection to the file with this name, which was made where there was none: with sums on its pages, or without
  ToMake : List ℕ → Bool → Access
  -- the bytes of the roll file with this name
  ToRead : List ℕ → Access
  -- the connections of this port
  ToListen : ℕ → Access

-- What is known of a host that stands behind another one, and what it was asked for and gave.
pub record Behind : Type 0 where
  pub known : Known
  -- the first one first; None where it does not say
  pub asked : Option (List Access)
  -- by which reference it is reached
  pub name : ℕ

-- of which nothing is known
abbrev pub nobody : Behind
nobody = record { known = nothing_known; asked = None; name = 0 }

-- a file with this content holds a desk of this state
abbrev pub HoldsDesk : Content → State → Type 0
HoldsDesk (Bytes image) s = IsValid s × ((db : Trees) × HoldsDatabase image db × LeavesDesk s db)
HoldsDesk NewDesk s = s ≡ new_state

-- it holds a desk of version 1
abbrev pub HoldsDesk1 : Content → State → Type 0
HoldsDesk1 (Bytes image) s = IsValid1 s × ((db : Trees) × HoldsDatabase image db × LeavesDesk1 s db)
HoldsDesk1 NewDesk s = ⊥

-- a file with this content holds the desk of this state, in this version; or in version 1, and that becomes this one
abbrev pub HasDesk : Content → State → Type 0
HasDesk content s = HoldsDesk content s ⊎ ((desk1 : State) × (s ≡ lifted desk1) × HoldsDesk1 content desk1)

-- so do the trees of a database
abbrev pub KeepsDesk : State → Trees → Type 0
KeepsDesk s trees =
    (IsValid s × LeavesDesk s trees)
    ⊎ ((desk1 : State) × (s ≡ lifted desk1) × IsValid1 desk1 × LeavesDesk1 desk1 trees)

-- The connection keeps a desk of version 1, as `Keeps` has it of one of this version.
pub record KeepsDesk1 {S : Type 0} (g : Ghosts S) (s : State) (conn : Held S) : Type 0 where
  pub settled : IsSettled (state g conn)
  pub tables : HasDeskTables1 (state g conn).now
  pub holds : Holds1 s (state g conn).now

-- whatever a stop may leave of the connection has it
abbrev pub StopsKeepDesk : {S : Type 0} → Ghosts S → State → Held S → Type 0
StopsKeepDesk g s conn = (trees : Trees) → (state g conn).may_leave trees → KeepsDesk s trees

-- the connection shows what a file with this content has
abbrev pub Finds : {S : Type 0} → Ghosts S → Content → Held S → Type 0
Finds g (Bytes image) conn =
    Opens (state g conn) × IsLive (state g conn) × FindsIn image (state g conn)
Finds g NewDesk conn = Keeps g new_state conn

-- The connection was opened over a file, of which this was known.
pub record IsConnected {S : Type 0} (g : Ghosts S) (known : Option Content) (conn : Held S) : Type 0 where
  pub found : HasCleanDisk (state g conn) → MatchOption known ⊤ (λ content. Finds g content conn)

-- no database has been made in a file with this content yet, with sums on its pages or without
abbrev pub IsBlankFor : Bool → Content → Type 0
IsBlankFor has_sums (Bytes image) = IsBlankAs has_sums image
IsBlankFor has_sums NewDesk = ⊥

-- Where no database had been made in the file, so far as is known of it, each page of the one that the connection shows
-- ends in its sum just where that was asked for.
abbrev pub HasSumsAsAsked : {S : Type 0} → Ghosts S → Bool → Option Content → Held S → Type 0
HasSumsAsAsked g has_sums known conn = HasCleanDisk (state g conn)
    → MatchOption known ⊤ (λ content. IsBlankFor has_sums content → (g.view conn.store).has_sums ≡ has_sums)

-- No page of a file has another sum than the file says, so far as is known of it.
abbrev pub HasRightSums : Option Content → Type 0
HasRightSums None = ⊤
HasRightSums (Some (Bytes image)) = ¬ (HasWrongSum image)
HasRightSums (Some NewDesk) = ⊤

-- What is known of the ports is what was known of them.
abbrev pub LeavesPorts : Known → Known → Type 0
LeavesPorts old new = (port : ℕ) → new.awaited port ≡ old.awaited port

-- What is known of the files and the roll files is what was known of them.
abbrev pub LeavesFiles : Known → Known → Type 0
LeavesFiles old new = (name : List ℕ)
    → (new.there name ≡ old.there name) × (new.content name ≡ old.content name) × (new.roll name ≡ old.roll name)

-- What is known of each other file, and of each roll file, is what was known of it.
abbrev pub LeavesOthers : List ℕ → Known → Known → Type 0
LeavesOthers file old new =
    ((name : List ℕ) → name ≢ file → (new.there name ≡ old.there name)
    × MatchOption (new.content name) ⊤ (λ it. old.content name ≡ Some it))
    × ((name : List ℕ) → new.roll name ≡ old.roll name)

-- Of the host behind, at most this was asked, for nothing that is a file of its own: its files stay as they are.
abbrev pub AsksBehind : Behind → Behind → Access → Type 0
AsksBehind old new access =
    LeavesFiles old.known new.known × ((new.asked ≡ old.asked) ⊎ ComesNext old.asked new.asked access)
    × (new.name ≡ old.name)

-- something is there, or nothing, where that is known
abbrev pub IsThere : Option Bool → Type 0
IsThere there = MatchOption there ⊤ (λ it. it ≡ true)

abbrev pub IsAbsent : Option Bool → Type 0
IsAbsent there = MatchOption there ⊤ (λ it. it ≡ false)

-- no database is in a file with this content
abbrev pub HasNoDatabase : Content → Type 0
HasNoDatabase (Bytes image) = (db : Trees) → ¬ (HoldsDatabase image db)
HasNoDatabase NewDesk = ⊥

-- A file has no database, if it is known whether it is there and what it has.
abbrev pub IsNoDatabase : Option Bool → Option Content → Type 0
IsNoDatabase there content = MatchOption there ⊤ (λ _. MatchOption content ⊤ HasNoDatabase)

-- Why there is no connection to a file: there is none; or there is one that could not be opened, or that has no
-- database; or memory ran out, also before it was looked whether there is.
abbrev pub IsUnconnected : Option Bool → Option Content → Failure → Type 0
IsUnconnected there content failures.NoFile = IsAbsent there
IsUnconnected there content (failures.Fault fault) =
    (fault ≡ faults.Memory)
    ⊎ (IsThere there × (IsOfStore fault ⊎ ((fault ≡ faults.NotADesk) × IsNoDatabase there content)))
IsUnconnected there content other = ⊥

-- Why a roll file was not read: it cannot be, which is never said where it is known what it has; or memory ran out.
abbrev pub IsUnreadable : Option (List ℕ) → Failure → Type 0
IsUnreadable roll failures.CannotRead = roll ≡ None
IsUnreadable roll (failures.Fault fault) = fault ≡ faults.Memory
IsUnreadable roll other = ⊥

-- Why a port was not listened on: it cannot be, which is never said where it is known what its connections bring; or
-- memory ran out.
abbrev pub IsTaken : Option (List (List ℕ)) → Failure → Type 0
IsTaken awaited failures.CannotListen = awaited ≡ None
IsTaken awaited (failures.Fault fault) = fault ≡ faults.Memory
IsTaken awaited other = ⊥

-- By what was asked before and after: where a connection is left, it was asked for as well, and else nothing was.
abbrev pub AsksFor : {S : Type 0} → Ending S → Access → Option (List Access) → Option (List Access) → Type 0
AsksFor ending.Nothing access was now = now ≡ was
AsksFor other access was now = ComesNext was now access

module _ {S : Type 0} (g : Ghosts S) (known : Option Content) where
  -- The connection keeps the desk that the file held, in the version that it had there, where that is known.
  pub record KeepsItsDesk (conn : Held S) : Type 0 where
    pub current : HasCleanDisk (state g conn)
        → MatchOption known ⊤ (λ content. (s : State) → HoldsDesk content s → IsValid s × Keeps g s conn)
    pub desk1 : HasCleanDisk (state g conn)
        → MatchOption known ⊤ (λ content. (s : State) → HoldsDesk1 content s → IsValid1 s × KeepsDesk1 g s conn)

  -- Whatever a stop may leave of the connection has the desk that the file held, where that is known.
  abbrev pub StillHasDesk : Held S → Type 0
  StillHasDesk conn = HasCleanDisk (state g conn)
      → MatchOption known ⊤ (λ content. (s : State) → HasDesk content s → StopsKeepDesk g s conn)

module _ {S : Type 0} (g : Ghosts S) (known : Known) (file : List ℕ) where
  -- The office was opened over a file of which this was known: it was there, and a connection showed what it had, with
  -- nothing written to it. Where the connection that is left at last has a clean disk, the database held a valid desk,
  -- which is the office's; and where this was known of the file, the office was open with the desk that the file held,
  -- which was of this version, and no page of the file had a wrong sum.
  pub record IsDeskOf (office : Office S) (last : Held S) : Type 0 where
    pub before : Held S
    pub there : IsThere (known.there file)
    pub connected : IsConnected g (known.content file) before
    pub wrote_nothing : WritesNothing (state g before) (state g office.conn)
    pub found : HasCleanDisk (state g last)
        → (s : State) × (office.desk ≡ Some s) × IsValid s × Holds s (state g before).now
    pub open_with : HasCleanDisk (state g last)
        → MatchOption (known.content file) ⊤ (λ content. (s : State) → HoldsDesk content s → IsOpenWith g s office)
    pub not_desk1 : HasCleanDisk (state g last)
        → MatchOption (known.content file) ⊤ (λ content. (s : State) → ¬ (HoldsDesk1 content s))
    pub right_sums : HasCleanDisk (state g last) → HasRightSums (known.content file)

  -- No office was opened over the file, for this reason: there is no connection; or there was one that showed what the
  -- file had, and nothing was written to it, so that it has its desk still.
  abbrev pub IsUnopened : Failure → Ending S → Type 0
  IsUnopened failure ending.Nothing = IsUnconnected (known.there file) (known.content file) failure
  IsUnopened failure (ending.LetGo conn) =
      (fault : Fault) × (failure ≡ failures.Fault fault) × IsThere (known.there file)
      × (before : Held S) × IsConnected g (known.content file) before × FailsToOpen g before conn fault
      × StillHasDesk g (known.content file) conn
  IsUnopened failure (ending.Close conn) = ⊥
