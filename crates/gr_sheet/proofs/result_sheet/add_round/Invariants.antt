use denote.Shadow.{shadow}
use denote.Text.{Utf8}
use Rattle.std.proofs.Common.{◌≡◌, ◌++◌, take, codes, decimal, string_bytes}
use Rattle.std.specs.Prelude.{filter}
use Rattle.std.specs.List.{join_by}
use Rattle.gr_count.specs.Shown.{voters_above}
use Rattle.gr_sheet.specs.ResultSheet.{is_dropped_in, drop_text}
use Rattle.gr_sheet.proofs.ResultLemmas.{separator_after}
use Rattle.gr_sheet.proofs.result_sheet.add_round.Given as goal

-- the defeats so far were added, and the separator is that of the next one
abbrev pub invariant-loop-pair : goal.invariant-loop-pair
invariant-loop-pair l = record {
  text : string_bytes l.text ≡ string_bytes l.fn.text ++ (codes "Round " ++ (decimal l.round ++ (codes ": drop "
      ++ join_by (drop_text (voters_above l.pairs)) (codes ", ")
      (filter (λ pair. is_dropped_in l.count l.round pair.first pair.second) (take l.pair-index l.all)))));
  utf8 : shadow (Utf8 l.separator);
  next : l.separator ≡ separator_after (codes ", ") (filter (λ pair. is_dropped_in l.count l.round pair.first pair.second) (take l.pair-index l.all));
}
