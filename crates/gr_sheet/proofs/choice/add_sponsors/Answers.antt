use Rattle.std.proofs.Common.{◌++◌, [], sym, ap, ◌∙◌, string_bytes, codes, lit<}
use Rattle.std.proofs.lemmas.Fmt.{decimal_digit}
use Rattle.gr_sheet.specs.StatusSheet.{sponsors_line}
use Rattle.gr_sheet.proofs.SponsorLines.{active_among}
use Rattle.gr_sheet.proofs.AppendLemmas.{on_ok_then}
use Rattle.gr_sheet.proofs.choice.add_sponsors.Goals as goal

pub returns-in-Some : goal.returns-in-Some
returns-in-Some c =
    on_ok_then c.add_logins.result
    (λ is. is ∙ ap (λ logins. string_bytes c.args.text.now ++ sponsors_line logins)
    (active_among c.args.key c.in-Some.sponsors.now.entries (rw c.in-Some.is at c.sponsors.ensures.rows)))
    c.add_logins.ensures

pub returns-in-None : goal.returns-in-None
returns-in-None c =
    on_ok_then c.write.result
    (λ is. is ∙ ap (λ digits. string_bytes c.args.text.now ++ (codes "Sponsors: " ++ (digits ++ codes "\n"))) (sym (decimal_digit 0 (lit< tt)))
    ∙ ap (λ logins. string_bytes c.args.text.now ++ sponsors_line logins)
    (active_among c.args.key [] (rw c.in-None.is at c.sponsors.ensures.rows)))
    c.write.ensures.bytes
