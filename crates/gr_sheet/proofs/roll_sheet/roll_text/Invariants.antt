use Rattle.std.proofs.Common.{◌≡◌, ◌++◌, map, string_bytes}
use Rattle.std.specs.List.{flat_map}
use Rattle.gr_core.specs.InMemory.Tables.{developer_entry}
use Rattle.gr_sheet.specs.RollSheet.{developer_line, roll_sheet}
use Rattle.gr_sheet.proofs.roll_sheet.roll_text.Given as goal

-- the lines so far and those of the entries that are left are the whole sheet
abbrev pub invariant-loop-login : goal.invariant-loop-login
invariant-loop-login l = string_bytes l.text ++ flat_map developer_line (map developer_entry l.login-iterator) ≡ roll_sheet l.fn.desk
