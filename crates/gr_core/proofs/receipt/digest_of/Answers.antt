use Rattle.std.proofs.Common.{rules, ◌≡◌, ℕ, ◌+◌, ◌*◌, ◌<◌, Some, slice_index, refl, sym, ap, ◌∙◌, subst, arith}
use Rattle.std.proofs.lemmas.List.{ext_get_or}
use Rattle.hex.specs.Hex.{encode_lower, hex_digit_value}
use Rattle.gr_core.proofs.Columns.ReceiptLemmas.{first_value, made_all, second_value}
use Rattle.gr_core.proofs.receipt.digest_of.Goals as goal

pub returns : goal.returns
returns c receipt is same =
    let digest = receipt.digest in
    let made : (i : ℕ) → i < 32 → i < 32 → slice_index c.from_fn.result i ≡ slice_index digest i =
    made_all _ (λ f. f.0.now ≡ c.args.digits.now) (λ i byte. i < 32 → byte ≡ slice_index digest i)
    (λ f i byte next knows called. (
      λ inside.
          let halves : (a b : ℕ)
          × ((n : ℕ) → hex_digit_value (slice_index f.0.now (2 * i)) ≡ Some n → a ≡ n)
          × ((n : ℕ) → hex_digit_value (slice_index f.0.now (2 * i + 1)) ≡ Some n → b ≡ n)
          × (byte ≡ 16 * a + b) = search rules in
          let (a, b, first, second, sum) = halves in
          let text : f.0.now ≡ encode_lower digest = knows ∙ sym same in
          let there = subst (λ n. i < n) (sym is.long) inside in
          let high = first _ (ap (λ t. hex_digit_value (slice_index t (2 * i))) text
          ∙ first_value digest is.bytes i there) in
          let low = second _ (ap (λ t. hex_digit_value (slice_index t (2 * i + 1))) text
          ∙ second_value digest is.bytes i there) in
          omega (arith, high, low, sum),
      search rules,
    )) _ c.from_fn.result 32 refl c.from_fn.ensures.items.each in
    ext_get_or 0 c.from_fn.result digest (c.from_fn.ensures.items.long ∙ sym is.long) (λ i below.
    let inside = subst (λ n. i < n) c.from_fn.ensures.items.long below in
    made i inside inside)
