use Rattle.std.proofs.Common.{◌≡◌, ◌++◌, [], ◌∷◌, map, sym, ap, ◌∙◌, string_bytes, rules}
use Rattle.std.proofs.lemmas.List.{append_assoc, append-nil}
use Rattle.std.proofs.lemmas.List.Elements.{All-head, All-rest, All-same}
use Rattle.gr_core.specs.Parts.Choice.{choices_of}
use Rattle.gr_core.specs.Desks.Outcome.{election_at, ratios_on_ballot}
use Rattle.gr_core.specs.InMemory.Tables.{choice_entry}
use Rattle.gr_sheet.proofs.TestLemmas.{IsPlaced, HasRatio, tests_of, tests_by_place, placed_on_ballot, have_ratios, few_developers, on_the_ballot, same_test}
use Rattle.gr_sheet.proofs.result_sheet.add_tests.Goals as goal

pub loop-choice-init : goal.loop-choice-init
loop-choice-init c =
    let desk = c.args.desk.now in
    let number = c.args.number in
    let poll = c.args.poll in
    let choices = c.choices-choice-items.ensures in
    let same : map choice_entry c.into_iter-choice-iterator.result ≡ choices_of desk.choices number =
    ap (map choice_entry) c.into_iter-choice-iterator.ensures.into_iter_gives ∙ choices.rows in
    record {
      text = ap (λ entries. string_bytes c.args.text.now ++ tests_of (election_at desk number poll) c.args.count.now entries) same;
      placed = All-same (IsPlaced (ratios_on_ballot desk.choices number)) _ _ same (placed_on_ballot desk number poll choices.valid c.requires.poll);
      ratios = All-same HasRatio _ _ same (have_ratios desk number (choices_of desk.choices number) choices.each);
    }

pub loop-choice-preserved : goal.loop-choice-preserved
loop-choice-preserved c =
    let desk = c.args.desk.now in
    let number = c.args.number in
    let poll = c.args.poll in
    let count = c.args.count.now in
    let e = election_at desk number poll in
    let entry = choice_entry (c.in-Some.field-0-0.now, c.in-Some.choice.now) in
    let rest = map choice_entry c.next.new.self in
    let steps : map choice_entry c.loop-choice.choice-iterator ≡ entry ∷ rest = ap (map choice_entry) c.in-Some.ensures.steps in
    let kept = c.loop-choice.invariant in
    let ratios = ratios_on_ballot desk.choices number in
    let here = All-head (IsPlaced ratios) entry rest (All-same (IsPlaced ratios) _ _ (sym steps) kept.placed) in
    record {
      text = ap (λ text. text ++ tests_of e count rest) c.in_ok-add_test.ensures
          ∙ append_assoc (string_bytes c.loop-choice.text) _ (tests_of e count rest)
          ∙ ap (λ line. string_bytes c.loop-choice.text ++ (line ++ tests_of e count rest))
          (same_test desk number poll c.args.pairs.now count entry.1.ratio entry.1.place c.requires.options c.requires.tally here)
          ∙ ap (λ entries. string_bytes c.loop-choice.text ++ tests_of e count entries) (sym steps)
          ∙ kept.text;
      placed = All-rest (IsPlaced ratios) entry rest _ steps kept.placed;
      ratios = All-rest HasRatio entry rest _ steps kept.ratios;
    }

pub add_test-requires : goal.add_test-requires
add_test-requires c =
    let desk = c.args.desk.now in
    let number = c.args.number in
    let entry = choice_entry (c.in-Some.field-0-0.now, c.in-Some.choice.now) in
    let rest = map choice_entry c.next.new.self in
    let steps : map choice_entry c.loop-choice.choice-iterator ≡ entry ∷ rest = ap (map choice_entry) c.in-Some.ensures.steps in
    let kept = c.loop-choice.invariant in
    let ratios = ratios_on_ballot desk.choices number in
    record {
      same = c.requires.same;
      developers = few_developers desk number c.args.poll c.choices-choice-items.ensures.valid c.requires.poll;
      ratio = All-head HasRatio entry rest (All-same HasRatio _ _ (sym steps) kept.ratios);
      place = on_the_ballot desk number _ entry.1.ratio entry.1.place c.requires.options
          (All-head (IsPlaced ratios) entry rest (All-same (IsPlaced ratios) _ _ (sym steps) kept.placed));
    }

pub returns : goal.returns
returns c =
    let desk = c.args.desk.now in
    let number = c.args.number in
    let e = election_at desk number c.args.poll in
    let ended : c.loop-choice.choice-iterator ≡ [] = search rules in
    sym (append-nil (string_bytes c.loop-choice.text))
    ∙ ap (λ entries. string_bytes c.loop-choice.text ++ tests_of e c.args.count.now (map choice_entry entries)) (sym ended)
    ∙ c.loop-choice.invariant.text
    ∙ ap (λ lines. string_bytes c.args.text.now ++ lines) (tests_by_place e c.args.count.now (choices_of desk.choices number))
