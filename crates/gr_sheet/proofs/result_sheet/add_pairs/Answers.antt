use Rattle.std.proofs.Common.{◌++◌, List, [], cond, take, get_or, ap, ◌∙◌, ℕ, string_bytes}
use Rattle.std.specs.List.{flat_map}
use Rattle.std.proofs.lemmas.List.{take_all}
use Rattle.gr_count.specs.Shown.{voters_above, keeps}
use Rattle.gr_sheet.specs.declared.option_pair.OptionPair.{OptionPair}
use Rattle.gr_sheet.specs.ResultSheet.{is_compared, pair_line}
use Rattle.gr_sheet.proofs.AppendLemmas.{flat_map-filter}
use Rattle.gr_sheet.proofs.LoopLemmas.{grown, flat_map-take_more}
use Rattle.gr_sheet.proofs.result_sheet.add_pairs.Goals as goal

pub loop-pair-preserved : goal.loop-pair-preserved
loop-pair-preserved c =
    let V = voters_above c.args.pairs.now in
    let kept = keeps c.args.count.now in
    let line : OptionPair → List ℕ = λ pair. cond (is_compared kept pair) (pair_line V pair) [] in
    let all = c.args.all.now in
    let i = c.loop-pair.pair-index in
    let none : OptionPair = record { first = 0; second = 0 } in
    grown (string_bytes c.args.text.now) (flat_map line (take i all)) (line (get_or all i none)) c.loop-pair.invariant c.in_ok-add_pair.ensures
    (flat_map-take_more line all i none c.loop-pair-test.true)

pub returns : goal.returns
returns c =
    let V = voters_above c.args.pairs.now in
    let kept = keeps c.args.count.now in
    let old = string_bytes c.args.text.now in
    let line : OptionPair → List ℕ = λ pair. cond (is_compared kept pair) (pair_line V pair) [] in
    c.loop-pair.invariant
    ∙ ap (λ pairs. old ++ flat_map line pairs) (take_all c.loop-pair.pair-index c.args.all.now c.loop-pair-test.false)
    ∙ ap (λ lines. old ++ lines) (flat_map-filter (pair_line V) (is_compared kept) c.args.all.now)
