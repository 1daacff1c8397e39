use Rattle.std.proofs.Common.{◌≡◌, ◌++◌, map, string_bytes}
use Rattle.std.specs.List.{All}
use Rattle.gr_core.specs.Parts.Choice.{choices_of}
use Rattle.gr_core.specs.Desks.Outcome.{election_at, ratios_on_ballot}
use Rattle.gr_core.specs.InMemory.Tables.{choice_entry}
use Rattle.gr_sheet.proofs.TestLemmas.{IsPlaced, HasRatio, tests_of}
use Rattle.gr_sheet.proofs.result_sheet.add_tests.Given as goal

-- the lines so far and those of the choices that are left are all of them, and these choices are rightly placed
abbrev pub invariant-loop-choice : goal.invariant-loop-choice
invariant-loop-choice l = record {
  text : string_bytes l.text ++ tests_of (election_at l.desk l.number l.poll) l.count (map choice_entry l.choice-iterator)
      ≡ string_bytes l.fn.text ++ tests_of (election_at l.desk l.number l.poll) l.count (choices_of l.desk.choices l.number);
  placed : All (IsPlaced (ratios_on_ballot l.desk.choices l.number)) (map choice_entry l.choice-iterator);
  ratios : All HasRatio (map choice_entry l.choice-iterator);
}
