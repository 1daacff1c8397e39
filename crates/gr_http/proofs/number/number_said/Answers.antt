-- What is parsed is said if the text has as many characters as that has digits.
use Rattle.std.proofs.Common.{◌≡◌, sym, ◌∙◌, subst, ◌<◌, ◌^◌, IfSome, Decides, arith}
use Rattle.std.proofs.lemmas.Bool.Decides.{nat_tests}
use Rattle.gr_http.specs.Number.{number_said}
use Rattle.gr_http.proofs.NumeralLemmas.{IsPlain, said-unparsed, said-parsed, said-below}
use Rattle.gr_http.proofs.number.number_said.Goals as goal
use Rattle.gr_http.proofs.number.number_said.Goals.{then-text-digit_count, else-text-digit_count}

pub returns-in_err-number-clause-value : goal.returns-in_err-number-clause-value
returns-in_err-number-clause-value c =
    let none = sym c.ok.ensures.value ∙ c.in_err-number.was in
    c.from_residual.ensures ∙ sym (said-unparsed c.args.text.now c.parse.result c.parse.ensures.value.0 none)

plain : (c : goal.After-then_some)
    → Decides c.if-text-digit_count.is_plain (IsPlain c.args.text.now c.in_ok-number.number)
plain c = elim c.if-text-digit_count.branch [
  | then-text-digit_count w ↦ grind (arith, nat_tests)
  | else-text-digit_count w ↦ grind (arith, nat_tests)
]

said : (c : goal.After-then_some) → c.then_some.result ≡ number_said c.args.text.now
said c =
    let text = c.args.text.now in
    let number = c.in_ok-number.number in
    let some = sym c.ok.ensures.value ∙ c.in_ok-number.was in
    c.then_some.ensures
    ∙ said-parsed text c.parse.result number c.parse.ensures.value.0 some c.if-text-digit_count.is_plain (plain c)

pub returns-clause-value : goal.returns-clause-value
returns-clause-value c = said c

pub returns-clause-bound : goal.returns-clause-bound
returns-clause-bound c = subst (λ said. IfSome said (λ n. n < 10 ^ 9)) (sym (said c)) (said-below c.args.text.now)
