-- The crash prefix: what stands after calls on an office, whatever they were and wherever a stop fell among them (this
-- project's profile). It is the crash theorem, of the desk as a machine and an office as what keeps it.
--
-- The store says that after a write that failed what was before may be left, or its commit. The disk returns what was
-- written (`HasCleanDisk`), and nobody else writes the file. Each answer that a list holds counts as acknowledged.
use Rattle.std.specs.Prelude.{◌≡◌, ◌⊎◌, ℕ, List, [], ◌∷◌, ◌++◌, length, map, take, drop, Some, None, Option, Result}
use Rattle.std.specs.Prelude.{Ok, Err, Vec}
use Rattle.std.specs.declared.alloc.Global.{Global}
use Rattle.gr_core.specs.declared.refusal.Refusal as core
use Rattle.gr_core.specs.declared.reply.Reply.{Reply}
use Rattle.gr_core.specs.Desks.State.{State, new_state}
use Rattle.gr_core.specs.Desks.Valid.{IsValid}
use Rattle.gr_core.specs.Desks.Version1.{IsValid1, lifted}
use Rattle.gr_core.specs.Machine.Act.{Act}
use Rattle.gr_core.specs.Machine.Effect.{rows_by, effect, counted}
use Rattle.gr_core.specs.Machine.Row.{RowModel}
use Rattle.gr_core.specs.Machine.Run.{After, accepted_acts}
use Rattle.gr_core.specs.Machine.Step as step
use Rattle.gr_store.specs.declared.fault.Fault.TheVariants.{Closed, Store}
use Rattle.gr_store.specs.Causes.{DiskFails}
use Rattle.gr_store.specs.Commits.{LeavesDesk, PutsAll}
use Rattle.gr_office.specs.declared.fault.ActFault.{ActFault}
use Rattle.gr_office.specs.declared.fault.ActFault.TheVariants as answered
use Rattle.gr_office.specs.declared.run.Stopped.{Stopped}
use Rattle.gr_office.specs.Crash as crash
use Rattle.gr_office.specs.Crash.{Machine, Keeper, Acknowledged, Refused, NotDone, Interrupted, IsAfterPrefix}
use Rattle.gr_office.specs.Office.{Office, CannotKeep, IsOpenWith, Spares, answer_of}
use Rattle.sqlite.specs.Held.{Held, state}
use Rattle.sqlite.specs.State.{HasCleanDisk}
use Rattle.sqlite_trees.specs.Tree.{Trees}
use Rattle.sqlite_trees.specs.declared.store.Store.{Ghosts}

-- ==== the machine, and what keeps it

-- a command is an act at a moment
abbrev pub desk : Machine
desk = record {
  State = State;
  Command = ℕ × Act;
  Reply = Reply;
  Refusal = core.Refusal;
  Accepts = λ s command reply t. step.Step s command.0 command.1 (step.Accepted reply) t;
  Refuses = λ s command refusal. step.Step s command.0 command.1 (step.Refused refusal) s;
}

-- an office, over what its connection shows
abbrev pub keeper : {S : Type 0} → Ghosts S → Keeper desk
keeper {S} g = record {
  Place = Office S;
  IsOpen = IsOpenWith g;
  IsShut = λ office. office.desk ≡ None;
  IsClean = λ office. HasCleanDisk (state g office.conn);
  Content = Trees;
  MayLeave = λ office. (state g office.conn).may_leave;
  Holds = LeavesDesk;
}

abbrev pub Fate : Type 0
Fate = crash.FateOf desk

abbrev pub Attempt : Type 0
Attempt = crash.AttemptOf desk

-- what an attempt makes of an office
abbrev pub Makes : {S : Type 0} → Ghosts S → Office S → Attempt → Office S → Type 0
Makes g = crash.MakesOn (keeper g)

-- the attempts are made one after the other, and lead from the first office to the last one
abbrev pub AreMade : {S : Type 0} → Ghosts S → Office S → List Attempt → Office S → Type 0
AreMade g = crash.AreMadeOn (keeper g)

-- ==== what becomes of a command

-- what became of a command that was answered so, by the desk after it
abbrev pub fate_of : Result Reply ActFault → Option State → Fate
fate_of (Ok reply) after = Acknowledged reply
fate_of (Err (answered.Refused refusal)) after = Refused refusal
fate_of (Err (answered.Fault Closed)) after = NotDone
fate_of (Err (answered.Fault other)) (Some s) = NotDone
fate_of (Err (answered.Fault other)) None = Interrupted

-- the attempt of an act that was answered so
abbrev pub act_attempt : ℕ → Act → Result Reply ActFault → Option State → Attempt
act_attempt at act answer after = record { command = (at, act); fate = fate_of answer after }

-- what became of a command of a list that was answered so
abbrev pub listed_fate : Result Reply core.Refusal → Fate
listed_fate (Ok reply) = Acknowledged reply
listed_fate (Err refusal) = Refused refusal

-- The attempts of a list of which the first commands were answered so. The next one met this fate, and of those after
-- it nothing was done.
abbrev pub list_attempts : List (ℕ × Act) → List (Result Reply core.Refusal) → Fate → List Attempt
list_attempts [] answers next = []
list_attempts (command ∷ commands) [] next =
    record { command = command; fate = next } ∷ list_attempts commands [] NotDone
list_attempts (command ∷ commands) (answer ∷ answers) next =
    record { command = command; fate = listed_fate answer } ∷ list_attempts commands answers next

-- the attempts of a list that was run (where all commands were answered, there is no next one)
abbrev pub run_attempts : List (ℕ × Act) → Result (Vec (Result Reply core.Refusal) Global) Stopped → Option State
    → List Attempt
run_attempts commands (Ok answers) after = list_attempts commands answers.items NotDone
run_attempts commands (Err stopped) after =
    list_attempts commands stopped.answers.items (fate_of (Err (answered.Fault stopped.fault)) after)

-- ==== what a stop leaves

-- a content that a stop may leave is that of a desk after a prefix
abbrev pub LeavesPrefix : State → List Attempt → Trees → Type 0
LeavesPrefix s attempts trees = (t : State) × IsAfterPrefix {m = desk} s attempts t × LeavesDesk t trees

-- The content of this connection is one that a stop may have left, when these attempts were made on an office that was
-- open with the state s.
pub record IsLeftBy {S : Type 0} (g : Ghosts S) (s : State) (attempts : List Attempt) (conn : Held S) : Type 0 where
  pub first : Office S
  pub last : Office S
  pub from_state : IsOpenWith g s first
  pub made : AreMade g first attempts last
  pub clean : HasCleanDisk (state g last.conn)
  pub left : (state g last.conn).may_leave (state g conn).now.trees

-- ==== with which desk a life begins

-- A desk that a life begins with: a new one; one that was upgraded to this version from a valid one of version 1; or
-- one that an opening found, which is valid.
pub data IsStart (s : State) : Type 0 where
  New : s ≡ new_state → IsStart s
  Migrated : (desk1 : State) → IsValid1 desk1 → s ≡ lifted desk1 → IsStart s
  Found : IsValid s → IsStart s

-- each of them is valid
abbrev pub StartsAreValid : Type 0
StartsAreValid = (s : State) → IsStart s → IsValid s

-- The state after a prefix is again one: so what is said of one life of a desk goes on over all of them.
abbrev pub PrefixesAreStarts : Type 0
PrefixesAreStarts = (s t : State) (attempts : List Attempt) → IsStart s → IsAfterPrefix {m = desk} s attempts t
    → IsStart t

-- ==== what a list puts

-- the rows of these acts, each accepted on the state after those before it: those of the first act first
abbrev pub rows_by_all : State → List (ℕ × Act) → List RowModel
rows_by_all s [] = []
rows_by_all s (act ∷ acts) = rows_by s act.0 act.1 ++ rows_by_all (counted (effect s act.0 act.1) act.0) acts

-- Of these commands, answered so one after the other, the accepted ones put their rows. That made the database of an
-- office that was open with the state s what it is now.
abbrev pub AcceptedArePut : {S : Type 0} → Ghosts S → State → Office S → List (ℕ × Act)
    → List (Result Reply core.Refusal) → Office S → Type 0
AcceptedArePut g s first commands answers now =
    (is : IsOpenWith g s first) → PutsAll is.kept.tables.own
    (rows_by_all s (accepted_acts commands (map answer_of answers))) (state g first.conn).now (state g now.conn).now

-- ==== why a list ended

-- The database failed in a command of a list, on an office that was open with the state s before the list. The commands
-- before it are answered, and by these attempts it came to an office that was open with the state after them, over the
-- database that the rows of the accepted ones made. The command was made on this one, and failed: the disk failed in
-- it, or its rows cannot be put there.
pub record FailsAt {S : Type 0} (g : Ghosts S) (s : State) (first : Office S) (commands : List (ℕ × Act))
    (answers : List (Result Reply core.Refusal)) (last : Office S) : Type 0 where
  pub reached : State
  pub ran : After s (take (length answers) commands) (map answer_of answers) reached
  pub before : Office S
  pub made : AreMade g first (list_attempts (take (length answers) commands) answers NotDone) before
  pub put : AcceptedArePut g s first (take (length answers) commands) answers before
  pub spared : Spares g first before
  pub was_open : IsOpenWith g reached before
  pub command : ℕ × Act
  pub behind : List (ℕ × Act)
  pub next : drop (length answers) commands ≡ command ∷ behind
  pub failed : Makes g before (act_attempt command.0 command.1 (Err (answered.Fault Store)) last.desk) last
  pub cause : DiskFails (state g before.conn) (state g last.conn)
      ⊎ CannotKeep reached command.0 command.1 (state g before.conn)
