use Rattle.std.proofs.Common.{◌≡◌, ◌++◌, map, string_bytes}
use Rattle.std.specs.List.{All, flat_map}
use Rattle.gr_core.specs.Parts.Choice.{choices_of}
use Rattle.gr_core.specs.InMemory.Tables.{choice_entry}
use Rattle.gr_sheet.specs.StatusSheet.{choice_lines, AreShownMoments}
use Rattle.gr_sheet.proofs.status_sheet.status.Given as goal

-- the choices so far and those that are left are all of them, and their moments have texts
abbrev pub invariant-loop-key : goal.invariant-loop-key
invariant-loop-key l = record {
  text : string_bytes l.text ++ flat_map (choice_lines l.fn.desk.sponsors) (map choice_entry l.key-iterator)
      ≡ string_bytes l.initial.text ++ flat_map (choice_lines l.fn.desk.sponsors) (choices_of l.fn.desk.choices l.fn.number);
  shown : All (λ entry. AreShownMoments entry.1) (map choice_entry l.key-iterator);
  can_next : (goal.iterator-loop-key).can_next l.key-iterator;
  finite : (goal.iterator-loop-key).is_finite l.key-iterator;
}
