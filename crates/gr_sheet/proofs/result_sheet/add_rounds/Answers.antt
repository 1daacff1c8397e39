use Rattle.std.proofs.Common.{◌+◌, string_bytes, arith}
use Rattle.std.specs.List.{flat_map}
use Rattle.gr_count.specs.Shown.{voters_above}
use Rattle.gr_sheet.specs.ResultSheet.{is_dropped_in, round_line, round_numbers}
use Rattle.gr_sheet.proofs.LoopLemmas.{grown, flat_map-range_more}
use Rattle.gr_sheet.proofs.result_sheet.add_rounds.Goals as goal

pub loop-before-preserved : goal.loop-before-preserved
loop-before-preserved c =
    let line = round_line (voters_above c.args.pairs.now) (is_dropped_in c.args.count.now) c.args.all.now in
    let n = c.loop-before.before in
    grown (string_bytes c.args.text.now) (flat_map line (round_numbers n)) (line (n + 1)) c.loop-before.invariant c.in_ok-add_round.ensures
    (flat_map-range_more line 1 n (n + 1) (omega arith))
