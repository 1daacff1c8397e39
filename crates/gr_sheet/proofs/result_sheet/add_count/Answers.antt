use Rattle.std.proofs.Common.{◌≡◌, ◌++◌, ap, ◌∙◌, string_bytes}
use Rattle.std.specs.Prelude.{filter}
use Rattle.std.specs.List.{flat_map}
use Rattle.std.proofs.lemmas.List.Elements.{All-same}
use Rattle.gr_count.specs.Shown.{voters_above, keeps, is_member, rounds_in, options_of_pairs}
use Rattle.gr_core.specs.Parts.Choice.{choices_of}
use Rattle.gr_core.specs.Desks.Outcome.{place_count, election_at}
use Rattle.gr_core.specs.Desks.Valid.{places_of}
use Rattle.gr_sheet.specs.ResultSheet.{IsPairBelow, findings_of, test_at, test_line, is_compared, pair_line, pairs_below, is_dropped_in, round_line, round_numbers, members_of, schwartz_line}
use Rattle.gr_sheet.proofs.AppendLemmas.{on_ok_then}
use Rattle.gr_sheet.proofs.LoopLemmas.{added_four}
use Rattle.gr_sheet.proofs.PairLemmas.{pairs_are_below}
use Rattle.gr_sheet.proofs.result_sheet.add_count.Goals as goal

pub add_pairs-requires-clause-inside : goal.add_pairs-requires-clause-inside
add_pairs-requires-clause-inside c =
    let options = options_of_pairs c.args.pairs.now in
    let items : c.deref.result.now ≡ pairs_below options = c.deref.ensures.value ∙ c.in_ok-all.ensures ∙ ap pairs_below c.options.ensures.value in
    All-same (IsPairBelow options) _ _ items (pairs_are_below options)

pub add_rounds-requires-clause-inside : goal.add_rounds-requires-clause-inside
add_rounds-requires-clause-inside c =
    let options = options_of_pairs c.args.pairs.now in
    let items : c.deref-2.result.now ≡ pairs_below options = c.deref-2.ensures.value ∙ c.in_ok-all.ensures ∙ ap pairs_below c.options.ensures.value in
    All-same (IsPairBelow options) _ _ items (pairs_are_below options)

pub returns : goal.returns
returns c =
    let s = c.args.desk.now in
    let count = c.args.count.now in
    let e = election_at s c.args.number c.args.poll in
    let places = place_count s.choices c.args.number in
    let all = pairs_below places in
    let shown = voters_above c.args.pairs.now in
    let compared = is_compared (keeps count) in
    let rounds = round_numbers (rounds_in count) in
    let same = ap pairs_below (c.options.ensures.value ∙ c.requires.options) in
    let counts = c.requires.tally.counts in
    on_ok_then c.add_outcome.result
    (λ is. added_four (string_bytes c.args.text.now)
    (flat_map (λ place. test_line (test_at e (findings_of e count) place)) (places_of (choices_of s.choices c.args.number)))
    (flat_map (pair_line e.preference) (filter compared all))
    (flat_map (round_line e.preference (is_dropped_in count) all) rounds)
    (schwartz_line (members_of (is_member count) places))
    c.in_ok-add_tests.ensures
    (c.in_ok-add_pairs.ensures
    ∙ ap (λ pairs. string_bytes c.add_tests.new.text ++ flat_map (pair_line shown) (filter compared pairs)) (c.deref.ensures.value ∙ c.in_ok-all.ensures ∙ same)
    ∙ (λ i. string_bytes c.add_tests.new.text ++ flat_map (pair_line (λ a b. counts a b i)) (filter compared all)))
    (c.in_ok-add_rounds.ensures
    ∙ ap (λ pairs. string_bytes c.add_pairs.new.text ++ flat_map (round_line shown (is_dropped_in count) pairs) rounds)
    (c.deref-2.ensures.value ∙ c.in_ok-all.ensures ∙ same)
    ∙ (λ i. string_bytes c.add_pairs.new.text ++ flat_map (round_line (λ a b. counts a b i) (is_dropped_in count) all) rounds))
    (is ∙ ap (λ n. string_bytes c.add_rounds.new.text ++ schwartz_line (members_of (is_member count) n)) (c.requires.same ∙ c.requires.options)))
    c.add_outcome.ensures
