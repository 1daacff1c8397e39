use Rattle.std.proofs.Common.{◌≡◌, ◌≤◌, map, take, Some, slice_get}
use Rattle.gr_core.specs.declared.import.RollRow as rust
use Rattle.gr_core.specs.Machine.Import.{roll_row, AreUpTo, HasNoBadRow}
use Rattle.gr_core.proofs.import.first_bad_line.Given as goal

-- no row so far is bad, and none is above the highest
abbrev pub invariant-loop-index : goal.invariant-loop-index
invariant-loop-index l =
    HasNoBadRow (map roll_row (take l.index l.rows)) × (l.highest ≤ l.index)
    × ((row : rust.RollRow) → slice_get l.rows l.highest ≡ Some row → AreUpTo (map roll_row (take l.index l.rows)) (roll_row row))
