-- Why a line was not done: the line on error output, and the exit status.
use Rattle.std.specs.Prelude.{ℕ, List, [], ◌∷◌, Option, None, Some, Result, Ok, Err, codes, decimal}
use Rattle.std.specs.List.{concat}
use Rattle.gr_office.specs.declared.fault.ActFault.{ActFault}
use Rattle.gr_office.specs.declared.fault.ActFault.TheVariants as act
use Rattle.gr_office.specs.declared.fault.SheetFault.{SheetFault}
use Rattle.gr_office.specs.declared.fault.SheetFault.TheVariants as sheet
use Rattle.gr_http.specs.Line.{refusal_line}
use Rattle.gr_http.specs.Response.{fault_line}
use Rattle.gr_desk.specs.declared.failure.Failure.{Failure}
use Rattle.gr_desk.specs.declared.failure.Failure.TheVariants.{Refused, TooLarge, BadRoll, Fault, NoFile, CannotRead}
use Rattle.gr_desk.specs.declared.failure.Failure.TheVariants.{CannotListen, CannotAccept, Lost}

-- the failure of a command that was not carried out
abbrev pub failure_of_act : ActFault → Failure
failure_of_act (act.Refused refusal) = Refused refusal
failure_of_act (act.Fault fault) = Fault fault

-- and that of a sheet that is not shown
abbrev pub failure_of_sheet : SheetFault → Failure
failure_of_sheet (sheet.Refused refusal) = Refused refusal
failure_of_sheet (sheet.Fault fault) = Fault fault

-- the line on error output
abbrev pub line_of : Failure → List ℕ
line_of (Refused refusal) = refusal_line refusal
line_of TooLarge = codes "too large\n"
line_of (BadRoll number) = concat (codes "bad roll " ∷ decimal number ∷ codes "\n" ∷ [])
line_of (Fault fault) = fault_line fault
line_of NoFile = codes "no file\n"
line_of CannotRead = codes "cannot read\n"
line_of CannotListen = codes "cannot listen\n"
line_of CannotAccept = codes "cannot listen\n"
line_of Lost = codes "lost\n"

-- the exit status: 1 where something was refused, and else 3
abbrev pub exit_of : Failure → ℕ
exit_of (Refused refusal) = 1
exit_of TooLarge = 1
exit_of (BadRoll number) = 1
exit_of other = 3

-- the exit status of a line that came to this: 0 where it was done
abbrev pub status_of_done : {T : Type 0} → Result T Failure → ℕ
status_of_done (Ok done) = 0
status_of_done (Err failure) = exit_of failure

-- what is said on error output of a line that came to this: nothing where it was done
abbrev pub said_of_done : {T : Type 0} → Result T Failure → Option (List ℕ)
said_of_done (Ok done) = None
said_of_done (Err failure) = Some (line_of failure)
