use Rattle.std.proofs.Common.{◌∙◌, ◌∷◌, [], ap, map, arith}
use Rattle.std.proofs.lemmas.List.{map-append}
use Rattle.gr_core.specs.Machine.Import.{roll_row}
use Rattle.gr_http.proofs.RollFileRows.{behind-next}
use Rattle.gr_http.proofs.roll_file.read_roll.Goals as goal

pub loop-rows-preserved : goal.loop-rows-preserved
loop-rows-preserved c =
    let found = c.if-branch.true in
    let read = c.in_ok-read_next-2.ensures in
    let row = rw c.in-Some.is at c.in_ok-row.ensures in
    let pushed = c.in_ok-push.ensures in
    let before = c.loop-rows.rows.items in
    let items = ap (map roll_row) pushed.items ∙ map-append roll_row before (c.in-Some.row ∷ []) in
    record {
      between = read.between found;
      rest = behind-next _ _ _ _ _ _ _ _ _ c.loop-rows.invariant.rest (rw found at read.takes) row items (omega (arith, pushed.len));
    }
