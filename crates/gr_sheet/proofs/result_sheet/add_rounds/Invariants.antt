use Rattle.std.proofs.Common.{◌≡◌, ◌++◌, string_bytes}
use Rattle.std.specs.List.{flat_map}
use Rattle.gr_count.specs.Shown.{voters_above}
use Rattle.gr_sheet.specs.ResultSheet.{is_dropped_in, round_line, round_numbers}
use Rattle.gr_sheet.proofs.result_sheet.add_rounds.Given as goal

-- the lines of the rounds so far were added
abbrev pub invariant-loop-before : goal.invariant-loop-before
invariant-loop-before l = string_bytes l.text ≡ string_bytes l.fn.text
    ++ flat_map (round_line (voters_above l.pairs) (is_dropped_in l.count) l.all) (round_numbers l.before)
