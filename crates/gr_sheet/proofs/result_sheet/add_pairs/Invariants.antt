use Rattle.std.proofs.Common.{◌≡◌, ◌++◌, cond, [], take, string_bytes}
use Rattle.std.specs.List.{flat_map}
use Rattle.gr_count.specs.Shown.{voters_above, keeps}
use Rattle.gr_sheet.specs.ResultSheet.{is_compared, pair_line}
use Rattle.gr_sheet.proofs.result_sheet.add_pairs.Given as goal

-- the lines of the pairs so far were added
abbrev pub invariant-loop-pair : goal.invariant-loop-pair
invariant-loop-pair l = string_bytes l.text ≡ string_bytes l.fn.text
    ++ flat_map (λ pair. cond (is_compared (keeps l.count) pair) (pair_line (voters_above l.pairs) pair) []) (take l.pair-index l.all)
