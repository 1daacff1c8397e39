-- Sets of options as words.
use Rattle.std.proofs.Common.{◌≡◌, ◌≢◌, ℕ, zero, suc, ◌*◌, ◌-◌, ◌%◌, ◌^◌, ◌<◌, ◌≤◌, Bool, true, false, cond, eqb, refl, sym, ◌∙◌, ap, inl, inr, arith, bit_or}
use Rattle.std.specs.Prelude.{max, min, not, ◌&&◌, ◌||◌, bit_and}
use Rattle.std.specs.Int.{bit_at, bit_not, trailing_zeros, w64}
use mir.Val.{bool_byte}
use Rattle.std.proofs.lemmas.Bool.{cases_lt}
use Rattle.std.proofs.lemmas.Nat.{and_le_l, one_shl}
use Rattle.std.proofs.lemmas.Nat.Bits.{bit_at-lt, bit_at-zero, bit_at_or, bit_at-pow_same, bit_at-pow_other, bit_at_and, bit_at_above, bit_at_not, bit_at-trailing_zeros, bit_at_clear_same, bit_at_clear_other}

greater_of_bits : (m n : ℕ) → m < 2 → n < 2 → eqb (max m n) 1 ≡ (eqb m 1 || eqb n 1)
greater_of_bits zero zero hm hn = refl
greater_of_bits zero (suc zero) hm hn = refl
greater_of_bits (suc zero) zero hm hn = refl
greater_of_bits (suc zero) (suc zero) hm hn = refl
greater_of_bits (suc (suc m)) n hm hn = absurd (omega arith)
greater_of_bits m (suc (suc n)) hm hn = absurd (omega arith)

-- a bit of two words together is one of the one or of the other
pub bit_of_union : (v w a : ℕ) → eqb (bit_at (bit_or v w) a) 1 ≡ (eqb (bit_at v a) 1 || eqb (bit_at w a) 1)
bit_of_union v w a = ap (λ n. eqb n 1) (bit_at_or v w a) ∙ greater_of_bits (bit_at v a) (bit_at w a) (bit_at-lt v a) (bit_at-lt w a)

-- the word of one option, or of none, has that bit alone
none_shl : (option : ℕ) → 0 * 2 ^ option % 2 ^ 64 ≡ 0
none_shl option = omega arith

bit_of_option : (b : Bool) (option : ℕ) → option < 64 → eqb (bit_at (cond b 1 0 * 2 ^ option % 2 ^ 64) option) 1 ≡ b
bit_of_option true option small = ap (λ n. eqb (bit_at n option) 1) (one_shl option 64 small) ∙ ap (λ n. eqb n 1) (bit_at-pow_same option)
bit_of_option false option small = ap (λ n. eqb (bit_at n option) 1) (none_shl option) ∙ ap (λ n. eqb n 1) (bit_at-zero option)

bit_of_other : (b : Bool) (option a : ℕ) → option < 64 → a ≢ option → eqb (bit_at (cond b 1 0 * 2 ^ option % 2 ^ 64) a) 1 ≡ false
bit_of_other true option a small other = ap (λ n. eqb (bit_at n a) 1) (one_shl option 64 small) ∙ ap (λ n. eqb n 1) (bit_at-pow_other option a other)
bit_of_other false option a small other = ap (λ n. eqb (bit_at n a) 1) (none_shl option) ∙ ap (λ n. eqb n 1) (bit_at-zero a)

or_false : (b : Bool) → (b || false) ≡ b
or_false true = refl
or_false false = refl

pub byte_is : (b : Bool) → bool_byte b ≡ cond b 1 0
byte_is true = refl
byte_is false = refl

pub none_in_empty : (a : ℕ) → eqb (bit_at 0 a) 1 ≡ false
none_in_empty a = ap (λ n. eqb n 1) (bit_at-zero a)

-- an option that is put into a word that has it not is there as is said, and the others stay
pub bit_put : (w n : ℕ) (b : Bool) (option : ℕ) → option < 64 → n ≡ cond b 1 0 → eqb (bit_at w option) 1 ≡ false
    → eqb (bit_at (bit_or w (n * 2 ^ option % 2 ^ 64)) option) 1 ≡ b
bit_put w n b option small is new =
    ap (λ m. eqb (bit_at (bit_or w (m * 2 ^ option % 2 ^ 64)) option) 1) is
    ∙ bit_of_union w (cond b 1 0 * 2 ^ option % 2 ^ 64) option
    ∙ ap (λ c. c || eqb (bit_at (cond b 1 0 * 2 ^ option % 2 ^ 64) option) 1) new
    ∙ bit_of_option b option small

pub bit_put_other : (w n : ℕ) (b : Bool) (option a : ℕ) → option < 64 → n ≡ cond b 1 0 → a ≢ option
    → eqb (bit_at (bit_or w (n * 2 ^ option % 2 ^ 64)) a) 1 ≡ eqb (bit_at w a) 1
bit_put_other w n b option a small is other =
    ap (λ m. eqb (bit_at (bit_or w (m * 2 ^ option % 2 ^ 64)) a) 1) is
    ∙ bit_of_union w (cond b 1 0 * 2 ^ option % 2 ^ 64) a
    ∙ ap (λ c. eqb (bit_at w a) 1 || c) (bit_of_other b option a small other)
    ∙ or_false (eqb (bit_at w a) 1)

lesser_of_bits : (m n : ℕ) → m < 2 → n < 2 → eqb (min m n) 1 ≡ (eqb m 1 && eqb n 1)
lesser_of_bits zero zero hm hn = refl
lesser_of_bits zero (suc zero) hm hn = refl
lesser_of_bits (suc zero) zero hm hn = refl
lesser_of_bits (suc zero) (suc zero) hm hn = refl
lesser_of_bits (suc (suc m)) n hm hn = absurd (omega arith)
lesser_of_bits m (suc (suc n)) hm hn = absurd (omega arith)

-- a bit of what two words share is one of both
pub bit_of_intersection : (v w a : ℕ) → eqb (bit_at (bit_and v w) a) 1 ≡ (eqb (bit_at v a) 1 && eqb (bit_at w a) 1)
bit_of_intersection v w a = ap (λ n. eqb n 1) (bit_at_and v w a) ∙ lesser_of_bits (bit_at v a) (bit_at w a) (bit_at-lt v a) (bit_at-lt w a)

other_bit : (n : ℕ) → n < 2 → eqb (1 - n) 1 ≡ not (eqb n 1)
other_bit zero h = refl
other_bit (suc zero) h = refl
other_bit (suc (suc n)) h = absurd (omega arith)

-- a bit of a word without those of another
pub bit_of_difference : (v w a : ℕ) → v < 2 ^ 64 → w < 2 ^ 64
    → eqb (bit_at (bit_and v (bit_not w64 w)) a) 1 ≡ (eqb (bit_at v a) 1 && not (eqb (bit_at w a) 1))
bit_of_difference v w a small other_small =
    bit_of_intersection v (bit_not w64 w) a
    ∙ elim (cases_lt a 64) as (λ _. (eqb (bit_at v a) 1 && eqb (bit_at (bit_not w64 w) a) 1) ≡ (eqb (bit_at v a) 1 && not (eqb (bit_at w a) 1))) [
      | inl h ↦ ap (λ n. eqb (bit_at v a) 1 && eqb n 1) (bit_at_not w64 w a other_small h)
          ∙ ap (λ b. eqb (bit_at v a) 1 && b) (other_bit (bit_at w a) (bit_at-lt w a))
      | inr h ↦
          let none : eqb (bit_at v a) 1 ≡ false = ap (λ n. eqb n 1) (bit_at_above v 64 a small h) in
          ap (λ b. b && eqb (bit_at (bit_not w64 w) a) 1) none ∙ sym (ap (λ b. b && not (eqb (bit_at w a) 1)) none)
    ]

-- the lowest bit of a word that is not 0, and the word without it
pub record IsLowest (w n : ℕ) : Type 0 where
  pub small : n < 64
  pub set : eqb (bit_at w n) 1 ≡ true
  pub none_below : (a : ℕ) → a < n → eqb (bit_at w a) 1 ≡ false
  pub gone : eqb (bit_at (bit_and w (bit_not w64 (1 * 2 ^ n % 2 ^ 64))) n) 1 ≡ false
  pub others : (a : ℕ) → a ≢ n → eqb (bit_at (bit_and w (bit_not w64 (1 * 2 ^ n % 2 ^ 64))) a) 1 ≡ eqb (bit_at w a) 1
  pub less : bit_and w (bit_not w64 (1 * 2 ^ n % 2 ^ 64)) < w

pub lowest_bit : (w : ℕ) → 0 < w → w < 2 ^ 64 → IsLowest w (trailing_zeros w64 w)
lowest_bit w some small =
    let found = bit_at-trailing_zeros w64 w some small in
    let n = trailing_zeros w64 w in
    let rest = bit_and w (bit_not w64 (1 * 2 ^ n % 2 ^ 64)) in
    let gone : bit_at rest n ≡ 0 = bit_at_clear_same w64 w n found.0 in
    record {
      small = found.0;
      set = ap (λ m. eqb m 1) found.1;
      none_below = λ a below. ap (λ m. eqb m 1) (found.2 a below);
      gone = ap (λ m. eqb m 1) gone;
      others = λ a other. elim (cases_lt a 64) as (λ _. eqb (bit_at rest a) 1 ≡ eqb (bit_at w a) 1) [
        | inl h ↦ ap (λ m. eqb m 1) (bit_at_clear_other w64 w n found.0 a h other)
        | inr h ↦
            let most : rest ≤ w = and_le_l w (bit_not w64 (1 * 2 ^ n % 2 ^ 64)) in
            ap (λ m. eqb m 1) (bit_at_above rest 64 a (omega arith) h ∙ sym (bit_at_above w 64 a small h))
      ];
      less =
          let most : rest ≤ w = and_le_l w (bit_not w64 (1 * 2 ^ n % 2 ^ 64)) in
          let differ : rest ≢ w = λ same. let h : bit_at w n ≡ 0 = ap (λ m. bit_at m n) (sym same) ∙ gone in omega (arith, found.1, h) in
          omega arith;
    }
