use Rattle.std.proofs.Common.{◌++◌, ◌==◌, refl, ap, ◌∙◌, string_bytes, lit<}
use Rattle.std.specs.List.{flat_map, slice_split}
use Rattle.std.proofs.lemmas.Iterator.{items_from_drains}
use Rattle.std.proofs.lemmas.Iterator.Consumers.{YieldsList-at}
use Rattle.std.proofs.lemmas.Iterator.Splits.{YieldsList-from_str_split}
use Rattle.std.proofs.lemmas.Str.Pattern.{strip_suffix_char}
use Rattle.gr_sheet.specs.StatusSheet.{bar_line}
use Rattle.gr_sheet.proofs.LineEndLemmas.{stripped}
use Rattle.gr_sheet.proofs.choice.add_text.Goals as goal

pub returns : goal.returns
returns c =
    let text = c.args.words.now in
    let lines = ap (λ lines. lines.now) c.unwrap_or-lines.ensures
    ∙ stripped text c.args.words refl c.strip_suffix.result
    (strip_suffix_char 10 text c.strip_suffix.result c.strip_suffix.ensures.cases (lit< tt)) in
    let pieces = items_from_drains c.loop-line.yielded
    (c.loop-line.line-iterator, c.loop-line.yielded_by, λ _. (c.next.new.self, c.in-None.ensures.steps))
    (YieldsList-at c.into_iter-line-iterator.ensures.into_iter_gives
    (YieldsList-from_str_split 10 c.unwrap_or-lines.result.now (lit< tt) c.split-line-items.ensures.text
    c.split-line-items.ensures.has_more c.split-line-items.ensures.pattern)) in
    c.loop-line.invariant
    ∙ ap (λ lines. string_bytes c.args.text.now ++ flat_map bar_line lines) (pieces ∙ ap (slice_split (λ byte. byte == 10)) lines)
