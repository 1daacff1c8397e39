-- A login: the name by which the roll knows a developer (this project's profile).
use Rattle.std.specs.Prelude.{ℕ, ◌<◌, ◌≤◌, Bool, ◌||◌, ◌==◌, List, length, slice_index, codes, IsTrue, All}
use Rattle.std.specs.List.{list_any}
use Rattle.std.specs.Char.{is_ascii_lowercase, is_ascii_digit}
use Rattle.gr_core.specs.declared.limits.TheConstants.{MAX_LOGIN_CHARACTERS}

-- a small letter or a digit
abbrev pub is_letter_or_digit : ℕ → Bool
is_letter_or_digit c = is_ascii_lowercase c || is_ascii_digit c

-- a small letter, a digit, or one of these
abbrev pub is_login_character : ℕ → Bool
is_login_character c = is_letter_or_digit c || list_any (λ d. c == d) (codes "._-")

-- within the limit of such characters, of which the first is a letter or a digit
pub record IsLogin (text : List ℕ) : Type 0 where
  pub nonempty : 0 < length text
  pub short : length text ≤ MAX_LOGIN_CHARACTERS
  pub begins : IsTrue (is_letter_or_digit (slice_index text 0))
  pub characters : All (λ c. IsTrue (is_login_character c)) text
