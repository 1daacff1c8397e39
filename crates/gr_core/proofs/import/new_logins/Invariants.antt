use Rattle.std.proofs.Common.{◌≡◌, ◌+◌, ◌≤◌, map, take, Some, slice_get}
use Rattle.std.specs.FinMap.{len}
use Rattle.gr_core.specs.declared.import.RollRow as rust
use Rattle.gr_core.specs.Machine.Import.{roll_row, imported, AreUpTo}
use Rattle.gr_core.proofs.import.new_logins.Given as goal

-- the new logins so far are counted, and no row so far is above the highest
abbrev pub invariant-loop-index : goal.invariant-loop-index
invariant-loop-index l =
    (len l.roll + l.count ≡ len (imported l.roll (map roll_row (take l.index l.rows)))) × (l.count ≤ l.index) × (l.highest ≤ l.index)
    × ((row : rust.RollRow) → slice_get l.rows l.highest ≡ Some row → AreUpTo (map roll_row (take l.index l.rows)) (roll_row row))
