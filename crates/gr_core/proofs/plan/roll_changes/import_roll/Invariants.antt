use Rattle.std.proofs.Common.{◌≡◌, map, take}
use Rattle.gr_core.specs.Machine.Row.{row_of}
use Rattle.gr_core.specs.Machine.Import.{roll_row, news_of}
use Rattle.gr_core.specs.Machine.Effect.{imported_row}
use Rattle.gr_core.proofs.plan.roll_changes.import_roll.Given as goal

abbrev pub invariant-loop-row : goal.invariant-loop-row
invariant-loop-row l =
    map row_of l.changes.items ≡ map imported_row (news_of l.roll (map roll_row (take l.row-index l.rows)))
