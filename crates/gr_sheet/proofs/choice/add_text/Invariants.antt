use Rattle.std.proofs.Common.{◌≡◌, ◌++◌, map, string_bytes}
use Rattle.std.specs.List.{flat_map}
use Rattle.gr_sheet.specs.StatusSheet.{bar_line}
use Rattle.gr_sheet.proofs.choice.add_text.Given as goal

-- the text has the lines so far
abbrev pub invariant-loop-line : goal.invariant-loop-line
invariant-loop-line l =
    string_bytes l.text ≡ string_bytes l.fn.text ++ flat_map bar_line (map (λ line. line.now) l.yielded)
