-- An office (this project's profile): the desk in memory, and the database that it is kept in.
use Rattle.std.specs.Prelude.{◌≡◌, ◌⊎◌, ℕ, List, [], ◌∷◌, length, map, take, drop, Option, Some, None, Result, Ok, Err}
use Rattle.std.specs.Prelude.{codes, false, string_bytes, IsSome, IsTrue, String, Vec, refl}
use Rattle.std.specs.Coded.{Coded, code_by, coded×}
use Rattle.std.specs.declared.alloc.Global.{Global}
use Rattle.gr_core.specs.declared.reply.Reply.{Reply}
use Rattle.gr_core.specs.Desks.State.{State}
use Rattle.gr_core.specs.Desks.Version1.{lifted}
use Rattle.gr_core.specs.declared.command.Command.{Command}
use Rattle.gr_core.specs.declared.refusal.Refusal.{Refusal}
use Rattle.gr_core.specs.Machine.Act.{Act, act_of}
use Rattle.gr_core.specs.Machine.Refusal.{Refuses, IsAccepted}
use Rattle.gr_core.specs.Machine.Run.{After}
use Rattle.gr_core.specs.declared.plan.Plan.{Plan}
use Rattle.gr_core.specs.Machine.Effect.{rows_by}
use Rattle.gr_core.specs.Machine.Plan.{IsPlanFor}
use Rattle.gr_core.specs.Machine.Step as step
use Rattle.gr_store.specs.declared.fault.Fault.{Fault}
use Rattle.gr_store.specs.declared.fault.Fault.TheVariants.{Memory, Closed}
use Rattle.gr_store.specs.Causes.{CannotMigrate, CannotPutAll, CannotSelect, CannotSelectBy}
use Rattle.gr_store.specs.Commits.{LeavesDesk, KeepsBeside, LeavesBeside}
use Rattle.gr_store.specs.Content.{IsSettled}
use Rattle.gr_store.specs.Faults.{IsOfStore}
use Rattle.gr_store.specs.Holds.{Holds, HasDeskTables, IsCurrent}
use Rattle.gr_store.specs.Selects.{ballot1_select}
use Rattle.gr_store.specs.Version1.{HoldsValid1, OwnsValid1}
use Rattle.gr_office.specs.declared.fault.ActFault.{ActFault}
use Rattle.gr_office.specs.declared.fault.ActFault.TheVariants as answered
use Rattle.gr_office.specs.declared.run.Stopped.{Stopped}
use Rattle.gr_sheet.specs.declared.kind.Kind.{Kind}
use Rattle.gr_sheet.specs.Sheet.{IsSheet, IsRefused}
use Rattle.gr_office.specs.declared.fault.SheetFault.{SheetFault}
use Rattle.gr_office.specs.declared.fault.SheetFault.TheVariants as sheets
use Rattle.sqlite.specs.Held.{Held, held_code, state}
use Rattle.sqlite.specs.Effect.{Database}
use Rattle.sqlite.specs.State as shown
use Rattle.sqlite.specs.State.{HasCleanDisk}
use Rattle.sqlite_catalog.specs.Change.{is_used}
use Rattle.sqlite_trees.specs.Tree.{Trees}
use Rattle.sqlite_trees.specs.declared.store.Store.{Ghosts}

-- An office, as a contract sees it: the state of its desk, or `None` once a fault has closed it; that fault; and the
-- connection to its database.
pub record Office (S : Type 0) : Type 0 where
  pub desk : Option State
  pub closed_by : Option Fault
  pub conn : Held S

abbrev pub office_code : {S : Type 0} → Coded (Option State) → Coded (Option Fault) → Coded S → Coded (Office S)
office_code {S} desk fault store =
    code_by (Option State × (Option Fault × Held S)) (coded× desk (coded× fault (held_code store)))
    (λ o. (o.desk, (o.closed_by, o.conn))) (λ p. record { desk = p.0; closed_by = p.1.0; conn = p.1.1 }) (λ _. refl)

-- A connection keeps a desk with this state: its database has the six tables of a desk, beside whatever else, and holds
-- the state. It is settled: a crash leaves what it shows, and nothing else.
pub record Keeps {S : Type 0} (g : Ghosts S) (s : State) (conn : Held S) : Type 0 where
  pub settled : IsSettled (state g conn)
  pub tables : HasDeskTables (state g conn).now
  pub holds : Holds s (state g conn).now

-- an office is open with this state: its desk has it, and its connection keeps it
pub record IsOpenWith {S : Type 0} (g : Ghosts S) (s : State) (office : Office S) : Type 0 where
  pub desk : office.desk ≡ Some s
  pub kept : Keeps g s office.conn

-- A connection over which no office was opened has the desk still: it keeps it, unless a failure has shut it; and a
-- stop leaves it, whether it is shut or not.
pub record StillKeeps {S : Type 0} (g : Ghosts S) (s : State) (conn : Held S) : Type 0 where
  pub keeps : IsTrue (state g conn).is_open → Keeps g s conn
  pub leaves : (trees : Trees) → (state g conn).may_leave trees → LeavesDesk s trees

-- What planning an act at this moment answers: a plan for it on the desk of an open office, or why there is none. It
-- wants memory only for an act that no refusal meets.
abbrev pub PlansFor : Option State → ℕ → Act → Result Plan ActFault → Type 0
PlansFor (Some s) at asked (Ok plan) = IsPlanFor s at asked plan
PlansFor (Some s) at asked (Err (answered.Refused refusal)) = Refuses s at asked refusal
PlansFor (Some s) at asked (Err (answered.Fault fault)) = (fault ≡ Memory) × IsAccepted s at asked
PlansFor None at asked answer = answer ≡ Err (answered.Fault Closed)

-- What an office answers to an act at this moment, by the desk before the act and the desk after it. An open office
-- takes the step of its desk. A fault comes only where no refusal meets the act; it is running out of memory and leaves
-- the desk as it was, or it is that or another failure of the database and closes the office. A closed office answers
-- that alone, and stays closed.
abbrev pub Acts : Option State → ℕ → Act → Result Reply ActFault → Option State → Type 0
Acts (Some s) at asked (Ok reply) after = (t : State) × step.Step s at asked (step.Accepted reply) t × (after ≡ Some t)
Acts (Some s) at asked (Err (answered.Refused refusal)) after =
    step.Step s at asked (step.Refused refusal) s × (after ≡ Some s)
Acts (Some s) at asked (Err (answered.Fault fault)) after =
    IsAccepted s at asked × (((fault ≡ Memory) × (after ≡ Some s)) ⊎ (IsOfStore fault × (after ≡ None)))
Acts None at asked answer after = (answer ≡ Err (answered.Fault Closed)) × (after ≡ None)

-- the fault that an act met, if it met one
abbrev pub fault_of_act : Result Reply ActFault → Option Fault
fault_of_act (Ok reply) = None
fault_of_act (Err (answered.Refused refusal)) = None
fault_of_act (Err (answered.Fault fault)) = Some fault

-- the fault that stopped a list, if one did
abbrev pub fault_of_run : Result (Vec (Result Reply Refusal) Global) Stopped → Option Fault
fault_of_run (Ok answers) = None
fault_of_run (Err stopped) = Some stopped.fault

-- Which fault an office remembers after a call that met this one or none, by the desk before the call and the desk
-- after it: the fault that closed the office in this call; or what it remembered before, where nothing closed it.
abbrev pub remembered : Option Fault → Option State → Option State → Option Fault → Option Fault
remembered (Some met) (Some s) None was = Some met
remembered met before after was = was

-- The rows of the act cannot be put in the desk's tables, one after the other, where a connection shows this.
abbrev pub CannotKeep : State → ℕ → Act → shown.State → Type 0
CannotKeep s at asked conn =
    (tables : HasDeskTables conn.now) × CannotPutAll tables.own conn.step_limit (rows_by s at asked) conn.now

-- A select of this version is stopped in the opening after a migration of what a connection shows: the database has
-- this version already; or it holds a valid desk of version 1, the name of the table of ballots of this version is not
-- taken, and the opening is of one that holds this desk lifted.
abbrev pub CannotOpenBehind : shown.State → Type 0
CannotOpenBehind conn =
    (IsCurrent conn.now × CannotSelect conn.step_limit conn.now)
    ⊎ ((is_used conn.now.schema (codes "ballot2") ≡ false)
    × (desk1 : HoldsValid1 conn.now) × (db : Database) × HasDeskTables db × Holds (lifted desk1.0) db
    × CannotSelect conn.step_limit db)

-- The database refuses what a migration asks of it, where a connection shows this: a select of version 1, a step of the
-- migration of the desk that it holds, or a select of the opening after that.
abbrev pub CannotBringUp : (conn : shown.State) → OwnsValid1 conn.now → Type 0
CannotBringUp conn tables =
    CannotSelectBy ballot1_select conn.step_limit conn.now
    ⊎ (CannotMigrate conn.step_limit conn.now tables ⊎ CannotOpenBehind conn)

-- a command of a list, without its memory
abbrev pub command_of : ℕ × Command → ℕ × Act
command_of command = (command.0, act_of command.1)

-- the answer to a command of a list, as the machine gives it
abbrev pub answer_of : Result Reply Refusal → step.Answer
answer_of (Ok reply) = step.Accepted reply
answer_of (Err refusal) = step.Refused refusal

-- there is a next command, which no refusal meets
abbrev pub IsNextAccepted : State → List (ℕ × Act) → Type 0
IsNextAccepted t [] = ⊥
IsNextAccepted t (command ∷ behind) = IsAccepted t command.0 command.1

-- What stopped a list on an open office, after these answers, with these commands ahead. Running out of memory that
-- left the office open was for the room for all answers, so that there is none, or in the next command, which no
-- refusal meets. A fault that closed the office was in the next command, which no refusal meets.
abbrev pub StopsAt : List (Result Reply Refusal) → State → List (ℕ × Act) → Fault → Option State → Type 0
StopsAt answers t ahead fault (Some u) =
    (fault ≡ Memory) × (u ≡ t) × ((answers ≡ []) ⊎ IsNextAccepted t ahead)
StopsAt answers t ahead fault None = IsOfStore fault × IsNextAccepted t ahead

-- What an office answers to a list of commands, by the desk before it and the desk after it. An open office answers as
-- the machine does: the whole list, or the first commands of it, and then a fault. A closed one answers no command.
abbrev pub Runs : Option State → List (ℕ × Act) → Result (Vec (Result Reply Refusal) Global) Stopped → Option State
    → Type 0
Runs (Some s) commands (Ok answers) after =
    (t : State) × After s commands (map answer_of answers.items) t × (after ≡ Some t)
Runs (Some s) commands (Err stopped) after =
    (t : State) × After s (take (length stopped.answers.items) commands) (map answer_of stopped.answers.items) t
    × StopsAt stopped.answers.items t (drop (length stopped.answers.items) commands) stopped.fault after
Runs None commands (Ok answers) after = ⊥
Runs None commands (Err stopped) after =
    (stopped.answers.items ≡ []) × (stopped.fault ≡ Closed) × (after ≡ None)

-- What a call leaves alone, on an office that was open: each table beside the six that has no foreign key. An office
-- that is open still has it as it was, and so has whatever a stop leaves. No failure of the disk is forgotten.
pub record Spares {S : Type 0} (g : Ghosts S) (before after : Office S) : Type 0 where
  pub rows : HasCleanDisk (state g after.conn) → (s : State) → (is : IsOpenWith g s before) → IsSome after.desk
      → KeepsBeside is.kept.tables.own (state g before.conn).now (state g after.conn).now
  pub leaves : HasCleanDisk (state g after.conn) → (s : State) → (is : IsOpenWith g s before)
      → shown.Survives (state g before.conn) (state g after.conn)
      (LeavesBeside is.kept.tables.own (state g before.conn).now)

-- What an office answers to the wish for a sheet: that of the state of an open one, or why its desk refuses it, or a
-- want of memory for one that is not refused; a closed one is closed.
abbrev pub ShowsSheet : Option State → Kind → ℕ → Result (String Global) SheetFault → Type 0
ShowsSheet (Some s) kind number (Ok text) = IsSheet s kind number (string_bytes text)
ShowsSheet (Some s) kind number (Err (sheets.Refused refusal)) = IsRefused s kind number refusal
ShowsSheet (Some s) kind number (Err (sheets.Fault fault)) =
    (fault ≡ Memory) × ((refusal : Refusal) → ¬ (IsRefused s kind number refusal))
ShowsSheet None kind number answer = answer ≡ Err (sheets.Fault Closed)
