use Rattle.std.proofs.Common.{◌≡◌, ◌++◌, cond, [], codes, decimal, string_bytes}
use Rattle.std.specs.List.{flat_map}
use Rattle.gr_count.specs.Options.{options_below}
use Rattle.gr_count.specs.Shown.{is_member}
use Rattle.gr_sheet.specs.ResultSheet.{place_of_option}
use Rattle.gr_sheet.proofs.result_sheet.add_outcome.Given as goal

-- the members among the options so far were added
abbrev pub invariant-loop-option : goal.invariant-loop-option
invariant-loop-option l = string_bytes l.text ≡ string_bytes l.fn.text ++ (codes "Schwartz:"
    ++ flat_map (λ option. cond (is_member l.count option) (codes " " ++ decimal (place_of_option option)) []) (options_below l.option))
