-- The digits of a receipt, and their reading.
use Rattle.std.proofs.Common.{arith, ◌≡◌, ℕ, ◌+◌, ◌*◌, ◌/◌, ◌%◌, ◌<◌, zero, suc, List, [], ◌∷◌, length, slice_index, Some, sym, ap, ◌∙◌, subst}
use Rattle.std.specs.Array.{IsFromFnResultFrom}
use Rattle.std.specs.Fn.{Mut, Called}
use Rattle.hex.specs.Hex.{IsBytes, decode_of, encode_lower, encode_with, hex_digit_value, lower_digits}
use Rattle.hex.proofs.HexLemmas.{IsDigits-lower_digits, decode_of-encode_lower, length-encode_with}
use Rattle.gr_core.specs.declared.receipt.Receipt.{Receipt}
use Rattle.gr_core.specs.Parts.Receipt.{IsReceipt}

abbrev with_digest : List ℕ → Receipt
with_digest digest = record { digest = digest }

-- the digits of a receipt tell it
pub receipt-told : (a b : Receipt) → IsReceipt a → IsReceipt b → encode_lower a.digest ≡ encode_lower b.digest → a ≡ b
receipt-told a b is isb same =
    let decoded = sym (decode_of-encode_lower a.digest is.bytes) ∙ ap decode_of same
    ∙ decode_of-encode_lower b.digest isb.bytes in
    let digest : a.digest ≡ b.digest = cc in
    ap with_digest digest

-- there are two for each byte
pub length-digits : (receipt : Receipt) → IsReceipt receipt → length (encode_lower receipt.digest) ≡ 64
length-digits receipt is =
    let long = length-encode_with lower_digits receipt.digest in
    let whole = is.long in
    omega (arith, long, whole)

-- the value of the first digit of a byte
pub first_value : (bytes : List ℕ) → IsBytes bytes → (i : ℕ) → i < length bytes
    → hex_digit_value (slice_index (encode_lower bytes) (2 * i)) ≡ Some (slice_index bytes i / 16)
unfolding encode_with
first_value [] are i inside = absurd (omega arith)
first_value (byte ∷ rest) are zero inside =
    let fits : byte < 256 = are 0 in
    IsDigits-lower_digits (byte / 16) (omega arith)
first_value (byte ∷ rest) are (suc i) inside =
    let next : 2 * suc i ≡ suc (suc (2 * i)) = omega arith in
    ap (λ k. hex_digit_value (slice_index (encode_lower (byte ∷ rest)) k)) next
    ∙ first_value rest (λ k. are (suc k)) i (omega arith)

-- and of the second
pub second_value : (bytes : List ℕ) → IsBytes bytes → (i : ℕ) → i < length bytes
    → hex_digit_value (slice_index (encode_lower bytes) (2 * i + 1)) ≡ Some (slice_index bytes i % 16)
unfolding encode_with
second_value [] are i inside = absurd (omega arith)
second_value (byte ∷ rest) are zero inside =
    let fits : byte < 256 = are 0 in
    IsDigits-lower_digits (byte % 16) (omega arith)
second_value (byte ∷ rest) are (suc i) inside =
    let next : 2 * suc i + 1 ≡ suc (suc (2 * i + 1)) = omega arith in
    ap (λ k. hex_digit_value (slice_index (encode_lower (byte ∷ rest)) k)) next
    ∙ second_value rest (λ k. are (suc k)) i (omega arith)

-- what each call of a closure makes of a number, where none changes what it knows
module _ {F : Type 0} (g : Mut F (ℕ × Unit {0}) ℕ) (Knows : F → Type 0) (Makes : ℕ → ℕ → Type 0)
    (call : (f : F) (i made : ℕ) (next : F) → Knows f → Called g f (i, tt) made next → Makes i made × Knows next) where
  made_each : (f : F) (made : List ℕ) (i n : ℕ) → Knows f → IsFromFnResultFrom g f made i n
      → (k : ℕ) → k < n → Makes (i + k) (slice_index made (i + k))
  made_each f made i zero knows calls k below = absurd (omega arith)
  made_each f made i (suc n) knows (next, y, is, called, rest) zero below =
      let here : i ≡ i + 0 = omega arith in
      subst (λ j. Makes j (slice_index made j)) here (subst (Makes i) (sym (is.1 0)) (call f i y next knows called).0)
  made_each f made i (suc n) knows (next, y, is, called, rest) (suc k) below =
      let on : i + 1 + k ≡ i + suc k = omega arith in
      subst (λ j. Makes j (slice_index made j)) on
      (made_each next made (i + 1) n (call f i y next knows called).1 rest k (omega arith))

  pub made_all : (f : F) (made : List ℕ) (n : ℕ) → Knows f → IsFromFnResultFrom g f made 0 n
      → (k : ℕ) → k < n → Makes k (slice_index made k)
  made_all f made n knows calls k below =
      let here : 0 + k ≡ k = omega arith in
      subst (λ j. Makes j (slice_index made j)) here (made_each f made 0 n knows calls k below)
