-- What the digits of a number are worth, and what a sign before them says.
use Rattle.std.proofs.Common.{◌≡◌, ◌≢◌, ℕ, suc, ◌+◌, ◌*◌, ◌<◌, ◌≤◌, ◌^◌, arith, Bool, true, false, cond, Decides, List, [], ◌∷◌, length, get_or, IfSome, decimal, refl, sym, ap, ◌∙◌, subst}
use Rattle.std.specs.Prelude.{◌&&◌, nat_lt, pos, neg_ℤ, Some, None, option_map, Result, Ok, Err, ◌==◌}
use Rattle.std.specs.Bool.{then_some}
use Rattle.std.specs.Char.{is_ascii_digit}
use Rattle.std.specs.Result.{result_ok}
use Rattle.std.specs.Str.{all_ascii_digits}
use Rattle.std.specs.Str.Parse.{digits_value, without_leading_plus, ParsesUnsigned}
use Rattle.std.proofs.Math.Nat.{lt_of_not-le, pow-le-pow_right}
use Rattle.std.proofs.lemmas.Bool.{false≢true, and_parts}
use Rattle.std.proofs.lemmas.Bool.Decides.{nat_tests, same_from_decides}
use Rattle.std.proofs.lemmas.Fmt.{decimal-digits_value, decimal_digit, digits_decimal, digits_value-decimal, length-decimal-le}
use Rattle.std.proofs.lemmas.Option.{none-some, same_Some}
use Rattle.std.proofs.lemmas.Str.Parse.{IsNumeralModel, numerals_by_value, tells_all_ascii_digits, digits_value_short, parse_gives, without_leading_plus_none}
use Rattle.gr_http.specs.Number.{is_number, number_said, signed_number_said}

-- the digits and what they are worth, in the words of std
decimals : IsNumeralModel (λ digits. all_ascii_digits digits ≡ true) (digits_value 10)
decimals = numerals_by_value _ tells_all_ascii_digits

-- a number is digits, nine at most, and a zero that comes first is the only one
record IsShortNumeral (text : List ℕ) : Type 0 where
  pub digits : all_ascii_digits text ≡ true
  pub some : 0 < length text
  pub short : length text ≤ 9
  pub alone : get_or text 0 0 ≡ 48 → length text ≡ 1

IsShortNumeral-zero : (digit : ℕ) (digits : List ℕ) → digit ≡ 48 → length digits == 0 ≡ true
    → IsShortNumeral (digit ∷ digits)
IsShortNumeral-zero digit [] zero alone = record {
  digits = ap (λ c. is_ascii_digit c && true) zero;
  some = omega arith;
  short = omega arith;
  alone = λ _. refl;
}
IsShortNumeral-zero digit (other ∷ others) zero alone =
    let none : length (other ∷ others) ≡ 0 = grind (arith, nat_tests) in
    absurd (omega arith)

IsShortNumeral-others : (digit : ℕ) (digits : List ℕ) → digit ≢ 48
    → (all_ascii_digits (digit ∷ digits) && nat_lt (length digits) 9) ≡ true → IsShortNumeral (digit ∷ digits)
IsShortNumeral-others digit digits other number =
    let parts = and_parts (all_ascii_digits (digit ∷ digits)) (nat_lt (length digits) 9) number in
    let short : length digits < 9 = grind (arith, nat_tests) in
    record { digits = parts.0; some = omega arith; short = omega arith; alone = λ zero. absurd (other zero) }

IsShortNumeral-by_first : (digit : ℕ) (digits : List ℕ) (zero : Bool) → digit == 48 ≡ zero
    → cond zero (length digits == 0) (all_ascii_digits (digit ∷ digits) && nat_lt (length digits) 9) ≡ true
    → IsShortNumeral (digit ∷ digits)
IsShortNumeral-by_first digit digits true zero number =
    IsShortNumeral-zero digit digits (grind (arith, nat_tests)) number
IsShortNumeral-by_first digit digits false other number =
    IsShortNumeral-others digit digits (grind (arith, nat_tests)) number

IsShortNumeral-number : (text : List ℕ) → is_number text ≡ true → IsShortNumeral text
IsShortNumeral-number [] number = absurd (false≢true number)
IsShortNumeral-number (digit ∷ digits) number = IsShortNumeral-by_first digit digits (digit == 48) refl number

-- a number has nine digits at most, so its value is below 10 ^ 9
pub value-number : (text : List ℕ) → is_number text ≡ true → digits_value 10 text < 10 ^ 9
value-number text number =
    let numeral = IsShortNumeral-number text number in
    digits_value_short decimals text 9 numeral.digits numeral.short

-- what std reads in a number is its value
pub parse-number : {E : Type 0} (text : List ℕ) (parsed : Result ℕ E) → ParsesUnsigned 32 10 text parsed
    → is_number text ≡ true → parsed ≡ Ok (digits_value 10 text)
parse-number text parsed parses number =
    let numeral = IsShortNumeral-number text number in
    let below = value-number text number in
    parse_gives decimals 32 text parsed parses numeral.digits numeral.some (omega arith)

-- ==== how many digits a value has

pub length-decimal-zero : (n : ℕ) → n ≡ 0 → 1 ≡ length (decimal n)
length-decimal-zero n zero = sym (ap length (decimal_digit n (omega arith)))

lt-power_length : (n : ℕ) → n < 2 ^ 32 → n < 10 ^ length (decimal n)
lt-power_length n fits =
    let value = digits_value-decimal decimals n (omega arith) in
    let digits = digits_decimal decimals n (omega arith) in
    omega (arith, digits_value_short decimals (decimal n) (length (decimal n)) digits (omega arith))

lt-by_power : (i j : ℕ) → 10 ^ i < 10 ^ j → i < j
lt-by_power i j less = lt_of_not-le (λ le. omega (arith, pow-le-pow_right {n = 10} (omega arith) le))

-- a value from 10 ^ power, and below the next power, has power + 1 digits
pub length-decimal-by_power : (power n : ℕ) → n < 2 ^ 32 → 10 ^ power ≤ n → n < 10 * 10 ^ power
    → power + 1 ≡ length (decimal n)
length-decimal-by_power power n fits least below =
    let most = length-decimal-le (suc power) n (omega arith) (omega arith) (omega arith) in
    let more = lt-by_power power (length (decimal n)) (omega (arith, lt-power_length n fits)) in
    omega arith

-- ==== a text of as many characters as its value has digits

-- the text has as many characters as n has digits, and nine at most
abbrev pub IsPlain : List ℕ → ℕ → Type 0
IsPlain text n = (length text ≡ length (decimal n)) × (length text ≤ 9)

plain-number : (text : List ℕ) → is_number text ≡ true → IsPlain text (digits_value 10 text)
plain-number text number =
    let numeral = IsShortNumeral-number text number in
    let below = value-number text number in
    let same = decimal-digits_value decimals text numeral.digits numeral.some numeral.alone (omega arith) in
    (sym (ap length same), numeral.short)

-- n is the value of the digits, and fits 32 bits
record IsRead (text : List ℕ) (n : ℕ) : Type 0 where
  pub digits : all_ascii_digits text ≡ true
  pub some : 0 < length text
  pub value : n ≡ digits_value 10 text
  pub fits : n < 2 ^ 32

IsRead-parsed : {E : Type 0} (text : List ℕ) (parsed : Result ℕ E) (n : ℕ) → ParsesUnsigned 32 10 text parsed
    → result_ok parsed ≡ Some n → IsRead (without_leading_plus text) n
IsRead-parsed text (Ok m) n parses is =
    let value : n ≡ digits_value 10 (without_leading_plus text) = sym (same_Some m n is) ∙ parses.1 in record {
      digits = decimals.from (without_leading_plus text) parses.0.0.1;
      some = parses.0.0.0;
      value = value;
      fits = omega (arith, parses.0.1);
    }
IsRead-parsed text (Err e) n parses is = absurd (none-some n is)

-- a value has no more digits than the text it is read in
none_more : (digits : List ℕ) (n : ℕ) → all_ascii_digits digits ≡ true → n ≡ digits_value 10 digits → n < 2 ^ 32
    → suc (length digits) ≡ length (decimal n) → length digits ≡ 0
none_more [] n are value fits longer = refl
none_more (digit ∷ digits) n are value fits longer =
    let count = length (digit ∷ digits) in
    let below = digits_value_short decimals (digit ∷ digits) count are (omega arith) in
    absurd (omega (arith, length-decimal-le count n (omega arith) (omega arith) (omega arith)))

-- in such a text no zero stands before other digits, and no plus sign
plain-zero : (digits : List ℕ) (n : ℕ) → IsRead (48 ∷ digits) n → IsPlain (48 ∷ digits) n → length digits == 0 ≡ true
plain-zero digits n read plain =
    let none = none_more digits n read.digits read.value read.fits plain.0 in
    grind (arith, nat_tests)

plain-plus : (digits : List ℕ) (n : ℕ) → IsRead digits n → IsPlain (43 ∷ digits) n → ⊥
plain-plus digits n read plain =
    let none = none_more digits n read.digits read.value read.fits plain.0 in
    omega (arith, read.some)

plain-others : (digit : ℕ) (digits : List ℕ) (n : ℕ) → IsRead (digit ∷ digits) n → IsPlain (digit ∷ digits) n
    → (all_ascii_digits (digit ∷ digits) && nat_lt (length digits) 9) ≡ true
plain-others digit digits n read plain =
    let short : nat_lt (length digits) 9 ≡ true = grind (arith, nat_tests) in
    ap (λ are. are && nat_lt (length digits) 9) read.digits ∙ short

number-plain_by : (digit : ℕ) (digits : List ℕ) (n : ℕ) → IsRead (without_leading_plus (digit ∷ digits)) n
    → IsPlain (digit ∷ digits) n → (zero plus : Bool) → digit == 48 ≡ zero → digit == 43 ≡ plus
    → cond zero (length digits == 0) (all_ascii_digits (digit ∷ digits) && nat_lt (length digits) 9) ≡ true
number-plain_by digit digits n read plain true plus is other =
    let zero : digit ≡ 48 = grind (arith, nat_tests) in
    plain-zero digits n (subst (λ (d : ℕ). IsRead (without_leading_plus (d ∷ digits)) n) zero read) plain
number-plain_by digit digits n read plain false true other is =
    let plus : digit ≡ 43 = grind (arith, nat_tests) in
    absurd (plain-plus digits n (subst (λ (d : ℕ). IsRead (without_leading_plus (d ∷ digits)) n) plus read) plain)
number-plain_by digit digits n read plain false false other another =
    let unsigned : digit ≢ 43 = grind (arith, nat_tests) in
    let whole = without_leading_plus_none (digit ∷ digits) unsigned in
    plain-others digit digits n (subst (λ ds. IsRead ds n) whole read) plain

number-plain : (text : List ℕ) (n : ℕ) → IsRead (without_leading_plus text) n → IsPlain text n → is_number text ≡ true
number-plain [] n read plain = absurd (omega (arith, read.some))
number-plain (digit ∷ digits) n read plain =
    number-plain_by digit digits n read plain (digit == 48) (digit == 43) refl refl

-- ==== what a text says, by what std reads in it

none_by : {E : Type 0} (text : List ℕ) (parsed : Result ℕ E) → ParsesUnsigned 32 10 text parsed
    → result_ok parsed ≡ None → (number : Bool) → is_number text ≡ number
    → cond number (Some (digits_value 10 text)) None ≡ None
none_by text parsed parses none true is =
    absurd (none-some (digits_value 10 text) (sym none ∙ ap result_ok (parse-number text parsed parses is)))
none_by text parsed parses none false is = refl

-- nothing, if std reads nothing
pub said-unparsed : {E : Type 0} (text : List ℕ) (parsed : Result ℕ E) → ParsesUnsigned 32 10 text parsed
    → result_ok parsed ≡ None → number_said text ≡ None
said-unparsed text parsed parses none = none_by text parsed parses none (is_number text) refl

said_by : (text : List ℕ) (n : ℕ) (number : Bool) → (number ≡ true → n ≡ digits_value 10 text)
    → then_some number n ≡ cond number (Some (digits_value 10 text)) None
said_by text n true value = ap Some (value refl)
said_by text n false value = refl

value-parsed : {E : Type 0} (text : List ℕ) (parsed : Result ℕ E) (n : ℕ) → ParsesUnsigned 32 10 text parsed
    → result_ok parsed ≡ Some n → is_number text ≡ true → n ≡ digits_value 10 text
value-parsed text parsed n parses is number =
    same_Some n (digits_value 10 text) (sym is ∙ ap result_ok (parse-number text parsed parses number))

-- what std reads, if the text has no more characters than that has digits
pub said-parsed : {E : Type 0} (text : List ℕ) (parsed : Result ℕ E) (n : ℕ) → ParsesUnsigned 32 10 text parsed
    → result_ok parsed ≡ Some n → (plain : Bool) → Decides plain (IsPlain text n) → then_some plain n ≡ number_said text
said-parsed text parsed n parses is plain decides =
    let value = value-parsed text parsed n parses is in
    let tells : Decides (is_number text) (IsPlain text n) = (
      λ number. subst (IsPlain text) (sym (value number)) (plain-number text number),
      number-plain text n (IsRead-parsed text parsed n parses is),
    ) in
    let same = same_from_decides plain (is_number text) decides tells in
    ap (λ b. then_some b n) same ∙ said_by text n (is_number text) value

below_by : (text : List ℕ) (number : Bool) → is_number text ≡ number
    → IfSome (cond number (Some (digits_value 10 text)) None) (λ n. n < 10 ^ 9)
below_by text true is = value-number text is
below_by text false is = tt

-- what a text says is below 10 ^ 9
pub said-below : (text : List ℕ) → IfSome (number_said text) (λ n. n < 10 ^ 9)
said-below text = below_by text (is_number text) refl

-- a text without a minus sign
pub signed_number_said-unsigned : (text : List ℕ) → ((rest : List ℕ) → text ≢ 45 ∷ rest)
    → signed_number_said text ≡ option_map pos (number_said text)
signed_number_said-unsigned [] unsigned = refl
signed_number_said-unsigned (c ∷ cs) unsigned =
    let other : c ≢ 45 = λ e. unsigned cs (ap (λ x. x ∷ cs) e) in
    let no : c == 45 ≡ false = grind (arith, nat_tests) in
    ap (λ b. cond b (option_map (λ n. neg_ℤ (pos n)) (number_said cs)) (option_map pos (number_said (c ∷ cs)))) no
