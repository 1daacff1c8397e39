-- What is found in the files of a desk after a stop.
use Rattle.std.specs.Prelude.{ℕ, List, Option, Some}
use Rattle.sqlite_disk.specs.declared.Disk as disk
use Rattle.sqlite_store.specs.declared.store.FileStore.{FileStore}
use Rattle.sqlite.specs.Files.{over_files}
use Rattle.sqlite.specs.Held.{Held}
use Rattle.gr_core.specs.Desks.State.{State}
use Rattle.gr_store.specs.declared.fault.Fault.{Fault}
use Rattle.gr_store.specs.Faults.{IsOfStore}
use Rattle.gr_office.specs.Crash.{IsAfterPrefix}
use Rattle.gr_office.specs.History.{Attempt, AreMade, IsLeftBy, IsStart}
use Rattle.gr_office.specs.Office.{Office, IsOpenWith, ShowsSheet, StillKeeps}
use Rattle.gr_desk.specs.declared.no_office.Left.{Left}
use Rattle.gr_desk.specs.declared.no_office.Left.TheVariants as given
use Rattle.gr_desk.specs.declared.restart.Asked.{Asked}
use Rattle.gr_desk.specs.declared.restart.Found.{Found}
use Rattle.gr_desk.specs.Steps.{IsAnswered}

-- An office was opened with the state t. It showed the sheet that was asked of it, and answered a request with these
-- bytes, where they are known, by what went to the output.
pub record IsFoundWith {D : Type 0} {g : disk.Ghosts D} (t : State) (asked : Asked) (coming : Option (List ℕ))
    (before after : Option (List ℕ))
    (found : Found D g) : Type 0 where
  pub opened : Office (FileStore D g)
  pub with_state : IsOpenWith over_files t opened
  pub shows : ShowsSheet (Some t) asked.kind asked.number found.sheet
  pub answered : IsAnswered over_files opened asked.at coming before after found.served found.office

-- Whatever attempts led to this office, the connection shows what a stop left of them. (That one was left is proved;
-- which one it is, the files tell.)
abbrev pub IsLeftBehind : {D : Type 0} {g : disk.Ghosts D} → Office (FileStore D g) → Held (FileStore D g) → Type 0
IsLeftBehind {D} {g} last conn = (s : State) (first : Office (FileStore D g)) (attempts : List Attempt)
    → IsOpenWith over_files s first → AreMade over_files first attempts last
    → ∥ IsLeftBy over_files s attempts conn ∥₁

-- Whatever attempts led to the one office, the other is open with the desk after a prefix of the accepted commands.
-- (That there is one is proved; which one it is, the files tell.)
abbrev pub FindsAPrefix : {D : Type 0} {g : disk.Ghosts D} → Office (FileStore D g) → Office (FileStore D g) → Type 0
FindsAPrefix {D} {g} last reopened = (s : State) (first : Office (FileStore D g)) (attempts : List Attempt)
    → IsStart s → IsOpenWith over_files s first → AreMade over_files first attempts last
    → ∥ ((t : State) × IsAfterPrefix s attempts t × IsOpenWith over_files t reopened) ∥₁

-- No connection was made over files, which are given back.
abbrev pub GivesFilesBack : {D : Type 0} {g : disk.Ghosts D} → Fault → Left D g → Type 0
GivesFilesBack fault (given.Files left) = IsOfStore fault
GivesFilesBack fault other = ⊥

-- No office was opened, for memory or by a failure of the database. Where there is a connection, it has the desk after
-- a prefix of the accepted commands still, whatever attempts led to this office. What files with no connection hold is
-- not said.
abbrev pub StillHasAPrefix : {D : Type 0} {g : disk.Ghosts D} → Office (FileStore D g) → Fault → Left D g → Type 0
StillHasAPrefix {D} {g} last fault (given.Connection conn) =
    (s : State) (first : Office (FileStore D g)) (attempts : List Attempt)
    → IsStart s → IsOpenWith over_files s first → AreMade over_files first attempts last
    → ∥ ((t : State) × IsAfterPrefix s attempts t × IsOfStore fault × StillKeeps over_files t conn) ∥₁
StillHasAPrefix last fault left = GivesFilesBack fault left
