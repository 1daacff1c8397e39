use Rattle.std.proofs.Common.{◌++◌, sym, ap, ◌∙◌, refl, string_bytes}
use Rattle.std.proofs.lemmas.Bool.{false≢true}
use Rattle.gr_count.specs.Shown.{is_member, options_of_count}
use Rattle.gr_sheet.specs.ResultSheet.{last_line}
use Rattle.gr_sheet.proofs.AppendLemmas.{on_ok_then}
use Rattle.gr_sheet.proofs.ResultLemmas.{sole_member, no_sole_member}
use Rattle.gr_sheet.proofs.result_sheet.add_last_line.Goals as goal

pub returns-in-Some : goal.returns-in-Some
returns-in-Some c =
    let count = c.args.count.now in
    on_ok_then c.write.result
    (λ is. is ∙ ap (λ members. string_bytes c.args.text.now ++ last_line members c.args.chosen)
    (sym (sole_member (is_member count) (options_of_count count) c.in-Some.winner (c.in-Some.ensures.sole.0 refl) c.in-Some.ensures.only)))
    c.write.ensures.bytes

pub returns-in-None : goal.returns-in-None
returns-in-None c =
    let count = c.args.count.now in
    on_ok_then c.add_cast.result
    (λ is. is ∙ ap (λ line. string_bytes c.args.text.now ++ line)
    (no_sole_member (is_member count) (options_of_count count) c.args.chosen (λ one. false≢true (c.in-None.ensures.sole.1 one))))
    c.add_cast.ensures
