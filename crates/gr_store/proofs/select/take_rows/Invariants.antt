use Rattle.std.proofs.Common.{◌≡◌, List, map}
use Rattle.gr_core.specs.Columns.Fields.{Field}
use Rattle.gr_core.specs.Columns.Intake.{HasTaken, with_more}
use Rattle.gr_core.specs.Columns.Stored.{Stored}
use Rattle.gr_store.specs.Rows.{value_of}
use Rattle.gr_store.proofs.Connections.RowByRow.{HasReadOn}
use Rattle.gr_store.proofs.select.take_rows.Given as goal

-- the rows so far begin the answer, and are taken
abbrev pub invariant-rows : goal.invariant-rows
invariant-rows g l =
    (l.rows.conn.ghost_name ≡ l.initial.rows.conn.ghost_name)
    × ((kept : List (List Field))
    × HasReadOn g.T.SelectedRow.select_text g.S.Store l.fn.conn l.rows.conn.now (map (map value_of) kept)
    × ((before : Stored) → HasTaken before l.fn.intake → HasTaken (with_more g.T.IntoRow.table_name before (map g.T.IntoRow.meant kept)) l.intake))
