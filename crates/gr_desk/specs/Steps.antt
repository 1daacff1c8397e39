-- What the steps of a line write, and what they leave.
use Rattle.std.specs.Prelude.{◌≡◌, ◌⊎◌, ℕ, List, Option, Result, Ok, Err, IfOk, OnErr, IsSome, String, string_bytes}
use Rattle.std.specs.Io.KnownBytes.{Appends}
use Rattle.std.specs.declared.alloc.Global.{Global}
use Rattle.sqlite.specs.Held.{state}
use Rattle.sqlite.specs.State.{HasCleanDisk}
use Rattle.sqlite_trees.specs.declared.store.Store.{Ghosts}
use Rattle.gr_core.specs.declared.reply.Reply.{Reply}
use Rattle.gr_core.specs.Desks.State.{State}
use Rattle.gr_core.specs.Machine.Act.{Act, ImportRoll}
use Rattle.gr_core.specs.Machine.Import.{RollRow}
use Rattle.gr_store.specs.declared.fault.Fault.TheVariants.{Store}
use Rattle.gr_store.specs.Causes.{DiskFails}
use Rattle.gr_office.specs.declared.fault.ActFault.{ActFault}
use Rattle.gr_office.specs.declared.fault.ActFault.TheVariants as answered
use Rattle.gr_office.specs.History.{Makes, act_attempt}
use Rattle.gr_sheet.specs.declared.kind.Kind.{Kind}
use Rattle.gr_office.specs.declared.fault.SheetFault.TheVariants as sheets
use Rattle.gr_office.specs.Office.{Acts, CannotKeep, IsOpenWith, Office, ShowsSheet, Spares}
use Rattle.gr_http.specs.declared.answer.Lost.{Lost}
use Rattle.gr_http.specs.declared.answer.Lost.TheVariants as lost
use Rattle.gr_http.specs.declared.answer.Served.{Served}
use Rattle.gr_http.specs.Exchange.{IsExchange}
use Rattle.gr_http.specs.Fates.{delivered, undelivered}
use Rattle.gr_http.specs.Line.{reply_line}
use Rattle.gr_http.specs.Response.{Response, response_bytes}
use Rattle.gr_http.specs.Streams.{AppendsBeginning}
use Rattle.gr_desk.specs.declared.failure.Failure.{Failure}
use Rattle.gr_desk.specs.declared.failure.Failure.TheVariants as failures

-- What was written of a sheet of an office, whose desk is this, and what is answered then. Where it is lost, a
-- beginning of the sheet was written; and where there is none, nothing.
abbrev pub PrintsSheet : {T : Type 0} → Option State → Kind → ℕ → Option (List ℕ) → Option (List ℕ) → Result T Failure
    → Type 0
PrintsSheet desk kind number old new (Ok done) =
    (text : String Global) × ShowsSheet desk kind number (Ok text) × Appends old new (string_bytes text)
PrintsSheet desk kind number old new (Err failures.Lost) =
    (text : String Global) × ShowsSheet desk kind number (Ok text) × AppendsBeginning old new (string_bytes text)
PrintsSheet desk kind number old new (Err (failures.Refused refusal)) =
    ShowsSheet desk kind number (Err (sheets.Refused refusal)) × (new ≡ old)
PrintsSheet desk kind number old new (Err (failures.Fault fault)) =
    ShowsSheet desk kind number (Err (sheets.Fault fault)) × (new ≡ old)
PrintsSheet desk kind number old new (Err other) = ⊥

-- what one act makes of an office that answers it so: all that `Office::act` says
pub record IsActed {S : Type 0} (g : Ghosts S) (before : Office S) (at : ℕ) (act : Act) (answer : Result Reply ActFault)
    (after : Office S) : Type 0 where
  pub acts : Acts before.desk at act answer after.desk
  pub kept : OnErr answer (IsSome after.desk → after ≡ before)
  pub spares : Spares g before after
  pub caused : HasCleanDisk (state g after.conn) → (s : State) → IsOpenWith g s before
      → answer ≡ Err (answered.Fault Store)
      → DiskFails (state g before.conn) (state g after.conn) ⊎ CannotKeep s at act (state g before.conn)
  pub makes : Makes g before (act_attempt at act answer after.desk) after

-- What was written of the reply to one command with these rows, and what is answered then. Where it is lost, a
-- beginning of its line was written, and the rows are imported. Where there is no reply, nothing was written.
abbrev pub ImportsRows : {S T : Type 0} → Ghosts S → Office S → ℕ → List RollRow → Option (List ℕ) → Option (List ℕ)
    → Result T Failure → Office S → Type 0
ImportsRows g before at rows old new (Ok done) after =
    (reply : Reply) × Appends old new (reply_line reply)
    × IsActed g before at (ImportRoll rows) (Ok reply) after
ImportsRows g before at rows old new (Err failures.Lost) after =
    (reply : Reply) × AppendsBeginning old new (reply_line reply)
    × IsActed g before at (ImportRoll rows) (Ok reply) after
ImportsRows g before at rows old new (Err (failures.Refused refusal)) after =
    (new ≡ old) × IsActed g before at (ImportRoll rows) (Err (answered.Refused refusal)) after
ImportsRows g before at rows old new (Err (failures.Fault fault)) after =
    (new ≡ old) × IsActed g before at (ImportRoll rows) (Err (answered.Fault fault)) after
ImportsRows g before at rows old new (Err other) after = ⊥

-- One request came to an office at this moment, with these bytes where they are known, and was answered so: by a whole
-- response, by a beginning of one where a write failed, or by nothing where a read failed.
pub record IsAnswered {S : Type 0} (g : Ghosts S) (before : Office S) (at : ℕ) (coming old new : Option (List ℕ))
    (served : Result Served Lost)
    (after : Office S) : Type 0 where
  pub whole : IfOk served (λ it. (response : Response) × (it.status ≡ response.status)
      × Appends old new (response_bytes response)
      × IsExchange g before at coming response delivered after)
  pub cut_off : served ≡ Err lost.Write → (response : Response) × AppendsBeginning old new (response_bytes response)
      × IsExchange g before at coming response undelivered after
  pub unread : served ≡ Err lost.Read → (after ≡ before) × (new ≡ old)
