-- The numbers that a path or a field writes (this project's profile).
use Rattle.std.specs.Prelude.{ℕ, ℤ, pos, neg_ℤ, Bool, false, ◌&&◌, List, [], ◌∷◌, length, Option, None, Some, option_map, nat_lt, ◌==◌, if◌then◌else◌}
use Rattle.std.specs.Str.{all_ascii_digits}
use Rattle.std.specs.Str.Parse.{digits_value}
use Rattle.gr_http.specs.declared.limits.TheConstants.{MAX_NUMBER_DIGITS}

-- a number: 0, or a digit from 1 to 9 with others after it, MAX_NUMBER_DIGITS at most together
abbrev pub is_number : List ℕ → Bool
is_number [] = false
is_number (digit ∷ digits) =
    if digit == 48 then length digits == 0
    else all_ascii_digits (digit ∷ digits) && nat_lt (length digits) MAX_NUMBER_DIGITS

-- what a text says that is a number
abbrev pub number_said : List ℕ → Option ℕ
number_said text = if is_number text then Some (digits_value 10 text) else None

-- what a text says that is a number, or a minus sign and a number
abbrev pub signed_number_said : List ℕ → Option ℤ
signed_number_said [] = None
signed_number_said (character ∷ characters) =
    if character == 45 then option_map (λ n. neg_ℤ (pos n)) (number_said characters)
    else option_map pos (number_said (character ∷ characters))
