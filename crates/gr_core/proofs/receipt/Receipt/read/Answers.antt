use Rattle.std.proofs.Common.{rules, true, false, arith, ◌≡◌, ◌<◌, length, take, sym, ap, ◌∙◌}
use Rattle.std.proofs.lemmas.List.{take_all}
use Rattle.hex.specs.Hex.{encode_lower}
use Rattle.gr_core.proofs.Columns.ReceiptLemmas.{length-digits}
use Rattle.gr_core.proofs.receipt.Receipt.read.Goals as goal

pub returns-in_default-clause-err : goal.returns-in_default-clause-err
returns-in_default-clause-err c failed receipt is same =
    let long : length c.args.text.now ≡ 64 = ap length (sym same) ∙ length-digits receipt is in
    let short : length c.args.text.now < 64 = search rules in
    absurd (omega (arith, long, short))

pub returns-else-has_digits-clause-err : goal.returns-else-has_digits-clause-err
returns-else-has_digits-clause-err c failed receipt is same =
    let long : length c.args.text.now ≡ 64 = ap length (sym same) ∙ length-digits receipt is in
    let all = take_all 64 c.args.text.now (omega (arith, long)) in
    let digits : c.in-Some.digits.now ≡ c.args.text.now = c.in-Some.ensures.cases.same
    ∙ ap (take 64) c.as_bytes.ensures.value ∙ all in
    let read = c.digest_of.ensures receipt is (same ∙ sym digits) in
    let alike = c.has_digits.ensures.1 (ap encode_lower read ∙ same) in
    absurd (let never : true ≡ false = sym alike ∙ c.if-has_digits.false in cc)
