use Rattle.std.proofs.Common.{◌≡◌, ◌++◌, Bool, true, false, refl, sym, ap, ◌∙◌, take, get_or, codes, decimal, string_bytes}
use lib.Utf8.{encode}
use Rattle.std.specs.Prelude.{filter}
use Rattle.std.specs.List.{join_by}
use Rattle.std.proofs.lemmas.List.{take_all}
use Rattle.gr_count.specs.Shown.{voters_above}
use Rattle.gr_sheet.specs.declared.option_pair.OptionPair.{OptionPair}
use Rattle.gr_sheet.specs.ResultSheet.{is_dropped_in, drop_text}
use Rattle.gr_sheet.proofs.AppendLemmas.{on_ok_then}
use Rattle.gr_sheet.proofs.ResultLemmas.{separator_after, join_by-push, separator_after-push, filter-take_yes, filter-take_no, drop_added}
use Rattle.gr_sheet.proofs.result_sheet.add_round.Goals as goal
use Rattle.gr_sheet.proofs.result_sheet.add_round.Goals.{then-is_dropped_in+in_ok-add_drop, else-is_dropped_in}

pub loop-pair-preserved : goal.loop-pair-preserved
unfolding encode
loop-pair-preserved c =
    let V = voters_above c.args.pairs.now in
    let text = drop_text V in
    let passes : OptionPair → Bool = λ pair. is_dropped_in c.args.count.now c.args.round pair.first pair.second in
    let all = c.args.all.now in
    let i = c.loop-pair.pair-index in
    let old = string_bytes c.args.text.now in
    let done = filter passes (take i all) in
    let kept = c.loop-pair.invariant in
    let inside = c.loop-pair-test.true in
    let none : OptionPair = record { first = 0; second = 0 } in
    let pair = get_or all i none in
    elim c.if-is_dropped_in.branch [
      | then-is_dropped_in+in_ok-add_drop w ↦
          let passed : passes pair ≡ true = sym c.is_dropped_in.ensures ∙ w.if-is_dropped_in.true in
          let one_more = filter-take_yes passes all i none inside passed in
          record {
            text = ap string_bytes w.text-is
                ∙ drop_added old c.args.round (join_by text (codes ", ") done) (separator_after (codes ", ") done ++ text pair) kept.text
                (w.in_ok-add_drop.ensures ∙ ap (λ separator. string_bytes c.loop-pair.text ++ (separator ++ text pair)) kept.next)
                (ap (join_by text (codes ", ")) one_more ∙ join_by-push text (codes ", ") done pair);
            utf8 = rw w.separator-is (codes ", ", (refl, refl));
            next = ap (λ b. b.now) w.separator-is ∙ sym (separator_after-push (codes ", ") done pair)
                ∙ ap (separator_after (codes ", ")) (sym one_more);
          }
      | else-is_dropped_in w ↦
          let fails : passes pair ≡ false = sym c.is_dropped_in.ensures ∙ w.if-is_dropped_in.false in
          let same = filter-take_no passes all i none inside fails in
          record {
            text = ap string_bytes w.text-is ∙ kept.text
                ∙ ap (λ drops. old ++ (codes "Round " ++ (decimal c.args.round ++ (codes ": drop " ++ join_by text (codes ", ") drops)))) (sym same);
            utf8 = rw w.separator-is kept.utf8;
            next = ap (λ b. b.now) w.separator-is ∙ kept.next ∙ ap (separator_after (codes ", ")) (sym same);
          }
    ]

pub returns : goal.returns
returns c =
    let text = drop_text (voters_above c.args.pairs.now) in
    let passes : OptionPair → Bool = λ pair. is_dropped_in c.args.count.now c.args.round pair.first pair.second in
    let drops = join_by text (codes ", ") (filter passes c.args.all.now) in
    let old = string_bytes c.args.text.now in
    on_ok_then c.write-2.result
    (λ is. drop_added old c.args.round drops (codes "\n")
    (c.loop-pair.invariant.text
    ∙ ap (λ pairs. old ++ (codes "Round " ++ (decimal c.args.round ++ (codes ": drop " ++ join_by text (codes ", ") (filter passes pairs)))))
    (take_all c.loop-pair.pair-index c.args.all.now c.loop-pair-test.false))
    is refl)
    c.write-2.ensures.bytes
