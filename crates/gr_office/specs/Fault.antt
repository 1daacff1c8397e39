-- Which fault of an office a missing plan or a missing sheet is, and what is printed of one.
use Rattle.std.specs.Prelude.{ℕ, List}
use Rattle.gr_core.specs.Machine.Refusal.{printed}
use Rattle.gr_core.specs.declared.plan.NoPlan.{NoPlan}
use Rattle.gr_core.specs.declared.plan.NoPlan.TheVariants as plans
use Rattle.gr_store.specs.declared.fault.Fault as store
use Rattle.gr_store.specs.declared.fault.Fault.TheVariants.{Memory, Damaged, TooOld, NotADesk}
use Rattle.gr_store.specs.Faults.{fault_text}
use Rattle.gr_office.specs.declared.fault.ActFault.{ActFault}
use Rattle.gr_office.specs.declared.fault.ActFault.TheVariants.{Refused, Fault}
use Rattle.gr_office.specs.declared.fault.SheetFault.{SheetFault}
use Rattle.gr_office.specs.declared.fault.SheetFault.TheVariants as sheets
use Rattle.gr_sheet.specs.declared.no_sheet.NoSheet.{NoSheet}
use Rattle.gr_sheet.specs.declared.no_sheet.NoSheet.TheVariants as missing

abbrev pub fault_of_plan : NoPlan → ActFault
fault_of_plan (plans.Refused refusal) = Refused refusal
fault_of_plan plans.Memory = Fault Memory

-- what is printed of it
abbrev pub act_fault_text : ActFault → List ℕ
act_fault_text (Refused refusal) = printed refusal
act_fault_text (Fault fault) = fault_text fault

abbrev pub fault_of_sheet : NoSheet → SheetFault
fault_of_sheet (missing.Refused refusal) = sheets.Refused refusal
fault_of_sheet missing.Memory = sheets.Fault Memory

-- what is printed of it
abbrev pub sheet_fault_text : SheetFault → List ℕ
sheet_fault_text (sheets.Refused refusal) = printed refusal
sheet_fault_text (sheets.Fault fault) = fault_text fault

-- what an opening after a migration tells by its fault: where there is no desk of this version still, the database
-- does not hold what it should
abbrev pub fault_behind : store.Fault → store.Fault
fault_behind TooOld = Damaged
fault_behind NotADesk = Damaged
fault_behind fault = fault
