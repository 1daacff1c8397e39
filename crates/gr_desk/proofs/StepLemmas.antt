-- What the steps of a line wrote and left, by how they ended.
use Rattle.std.proofs.Common.{◌≡◌, ℕ, List, Option, Result, Ok, Err, refl, sym, ap, subst}
use Rattle.std.specs.Prelude.{IfErr, IsErrAnd, OnOk, String, string_bytes}
use Rattle.std.specs.Io.KnownBytes.{Appends}
use Rattle.std.specs.declared.alloc.Global.{Global}
use Rattle.gr_core.specs.Desks.State.{State}
use Rattle.gr_sheet.specs.declared.kind.Kind.{Kind}
use Rattle.gr_core.specs.declared.reply.Reply.{Reply}
use Rattle.gr_core.specs.Machine.Act.{ImportRoll}
use Rattle.gr_core.specs.Machine.Import.{RollRow}
use Rattle.gr_office.specs.declared.fault.ActFault.{ActFault}
use Rattle.gr_office.specs.declared.fault.ActFault.TheVariants as act
use Rattle.gr_office.specs.declared.fault.SheetFault.{SheetFault}
use Rattle.gr_office.specs.declared.fault.SheetFault.TheVariants as sheet
use Rattle.gr_office.specs.Office.{Office, ShowsSheet}
use Rattle.gr_http.specs.Line.{reply_line}
use Rattle.sqlite_trees.specs.declared.store.Store.{Ghosts}
use Rattle.gr_http.specs.Streams.{AppendsBeginning}
use Rattle.gr_desk.specs.declared.failure.Failure.{Failure}
use Rattle.gr_desk.specs.declared.failure.Failure.TheVariants as failures
use Rattle.gr_desk.specs.Failure.{failure_of_act, failure_of_sheet}
use Rattle.gr_desk.specs.Steps.{ImportsRows, IsActed, PrintsSheet}

-- the bytes that were printed are those of the sheet
pub printed : {T : Type 0} (desk : Option State) (kind : Kind) (number : ℕ) (old new : Option (List ℕ)) (text : String Global)
    (bytes : List ℕ)
    (done : Result T Failure) → bytes ≡ string_bytes text → ShowsSheet desk kind number (Ok text)
    → OnOk done (Appends old new bytes)
    → IfErr done (λ failure. (failure ≡ failures.Lost) × AppendsBeginning old new bytes)
    → PrintsSheet desk kind number old new done
printed {T} desk kind number old new text bytes (Ok x) same shows whole lost =
    (text, shows, subst (Appends old new) same whole)
printed {T} desk kind number old new text bytes (Err failure) same shows whole (is, begun) =
    subst (λ failure. PrintsSheet {T = T} desk kind number old new (Err failure)) (sym is)
    (text, shows, subst (AppendsBeginning old new) same begun)

-- what was written of the reply to an import
pub imported : {S T : Type 0} (g : Ghosts S) (before after : Office S) (at : ℕ) (rows : List RollRow)
    (old new : Option (List ℕ))
    (reply : Reply)
    (bytes : List ℕ)
    (done : Result T Failure) → bytes ≡ reply_line reply → IsActed g before at (ImportRoll rows) (Ok reply) after
    → OnOk done (Appends old new bytes)
    → IfErr done (λ failure. (failure ≡ failures.Lost) × AppendsBeginning old new bytes)
    → ImportsRows g before at rows old new done after
imported {S} {T} g before after at rows old new reply bytes (Ok x) same acted whole lost =
    (reply, subst (Appends old new) same whole, acted)
imported {S} {T} g before after at rows old new reply bytes (Err failure) same acted whole (lost, begun) =
    subst (λ failure. ImportsRows {T = T} g before at rows old new (Err failure) after) (sym lost)
    (reply, subst (AppendsBeginning old new) same begun, acted)

-- an error that a conversion gave
pub err_is : {A E : Type 0} (made : Result A E) (e : E) → IsErrAnd made (λ x. x ≡ e) → made ≡ Err e
err_is (Ok a) e given = absurd given
err_is (Err x) e given = ap Err given

-- there is no sheet, and nothing was written
pub not_printed : (T : Type 0) (desk : Option State) (kind : Kind) (number : ℕ) (old : Option (List ℕ)) (fault : SheetFault)
    → ShowsSheet desk kind number (Err fault) → PrintsSheet {T = T} desk kind number old old (Err (failure_of_sheet fault))
not_printed T desk kind number old (sheet.Refused refusal) shows = (shows, refl)
not_printed T desk kind number old (sheet.Fault fault) shows = (shows, refl)

-- the rows were not imported, and nothing was written
pub not_imported : {S : Type 0} (T : Type 0) (g : Ghosts S) (before after : Office S) (at : ℕ) (rows : List RollRow) (old : Option (List ℕ))
    (fault : ActFault) → IsActed g before at (ImportRoll rows) (Err fault) after
    → ImportsRows {T = T} g before at rows old old (Err (failure_of_act fault)) after
not_imported T g before after at rows old (act.Refused refusal) acted = (refl, acted)
not_imported T g before after at rows old (act.Fault fault) acted = (refl, acted)
