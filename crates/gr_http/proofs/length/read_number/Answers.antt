-- One digit more.
use Rattle.std.proofs.Common.{◌≡◌, ◌+◌, ◌*◌, ◌-◌, get_or, take, arith, sym, ap, ◌∙◌}
use Rattle.std.specs.Prelude.{◌&&◌, option_and_then}
use Rattle.std.specs.Char.{is_ascii_digit, digit_value}
use Rattle.std.specs.Str.Parse.{digits_value}
use Rattle.std.proofs.lemmas.Bool.Decides.{nat_tests}
use Rattle.std.proofs.lemmas.Int.Digits.{digits_value_more}
use Rattle.std.proofs.lemmas.List.Folds.{list_all_more}
use Rattle.gr_http.specs.Length.{within_limit}
use Rattle.gr_http.proofs.LengthLemmas.{within_limit-more}
use Rattle.gr_http.proofs.length.read_number.Goals as goal

pub loop-digit-preserved : goal.loop-digit-preserved
loop-digit-preserved c =
    let value = c.args.value.now in
    let i = c.loop-digit.digit-index in
    let digit = get_or value i 0 - 48 in
    let so_far = digits_value 10 (take i value) in
    let is : digit_value (get_or value i 0) ≡ digit = grind (arith, nat_tests) in
    let more : so_far * 10 + digit ≡ digits_value 10 (take (i + 1) value) =
    omega (arith, digits_value_more 10 value i c.loop-digit-test.true, is) in record {
      number = c.one_digit_more-number.ensures
          ∙ ap (option_and_then (λ n. within_limit (n * 10 + digit))) c.loop-digit.invariant.number
          ∙ within_limit-more so_far digit
          ∙ ap within_limit more;
      digits = list_all_more is_ascii_digit value i 0 c.loop-digit-test.true
          ∙ ap (λ b. b && is_ascii_digit (get_or value i 0)) c.loop-digit.invariant.digits
          ∙ sym c.if-not-is_ascii_digit.ensures.value;
    }
