use Rattle.std.proofs.Common.{◌≡◌, ◌++◌, [], sym, ap, ◌∙◌, codes, string_bytes, rules}
use Rattle.std.specs.List.{flat_map}
use Rattle.std.proofs.lemmas.List.{append-nil}
use Rattle.gr_sheet.proofs.SponsorLines.{login_if_active, sponsors_told}
use Rattle.gr_sheet.proofs.AppendLemmas.{on_ok_then}
use Rattle.gr_sheet.proofs.choice.add_logins.Goals as goal

pub returns : goal.returns
returns c =
    let old = string_bytes c.args.text.now in
    let entries = c.args.sponsors.now.entries in
    let ended : c.loop-login.login-iterator ≡ [] = search rules in
    let loop = sym (append-nil (string_bytes c.loop-login.text))
    ∙ ap (λ rest. string_bytes c.loop-login.text ++ flat_map login_if_active rest) (sym ended)
    ∙ c.loop-login.invariant in
    on_ok_then c.write-2.result (λ is. is ∙ ap (λ text. text ++ codes "\n") loop ∙ sponsors_told old entries)
    c.write-2.ensures.bytes
