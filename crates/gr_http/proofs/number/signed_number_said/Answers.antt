-- Without a sign the whole text is a number.
use Rattle.std.proofs.Common.{sym, ap, ◌∙◌, arith}
use Rattle.std.specs.Prelude.{pos, option_map}
use Rattle.std.proofs.lemmas.Str.Pattern.{strip_prefix_char}
use Rattle.gr_http.proofs.NumeralLemmas.{signed_number_said-unsigned}
use Rattle.gr_http.proofs.number.signed_number_said.Goals as goal

pub returns-in_err-number_said-in-None : goal.returns-in_err-number_said-in-None
returns-in_err-number_said-in-None c =
    let text = c.args.text.now in
    let stripped = strip_prefix_char 45 text c.strip_prefix.result c.strip_prefix.ensures.cases (omega arith) in
    let unsigned = rw c.in-None.is at stripped in
    let none = sym c.number_said-in-None.ensures.value ∙ c.in_err-number_said-in-None.was in
    c.from_residual-in_err-number_said-in-None.ensures
    ∙ sym (signed_number_said-unsigned text unsigned ∙ ap (option_map pos) none)
