use Rattle.std.proofs.Common.{◌≡◌, ◌++◌, map, string_bytes}
use Rattle.std.specs.List.{filter_map, flat_map}
use Rattle.gr_core.specs.Parts.Choice.{choices_of}
use Rattle.gr_core.specs.InMemory.Tables.{choice_entry}
use Rattle.gr_sheet.specs.Ballot.{option_line, place_and_summary}
use Rattle.gr_sheet.proofs.ballot.add_options.Given as goal

-- the lines so far and those of the choices that are left are all of them
abbrev pub invariant-loop-choice : goal.invariant-loop-choice
invariant-loop-choice l =
    string_bytes l.text ++ flat_map option_line (filter_map place_and_summary (map choice_entry l.choice-iterator))
    ≡ string_bytes l.fn.text ++ flat_map option_line (filter_map place_and_summary (choices_of l.fn.desk.choices l.fn.number))
