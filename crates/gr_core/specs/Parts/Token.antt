-- A token: the part of a receipt that the voter chooses (this project's profile).
use Rattle.std.specs.Prelude.{ℕ, ◌≤◌, List, length, IsTrue, All}
use Rattle.std.specs.Char.{is_ascii_alphanumeric}
use Rattle.gr_core.specs.declared.limits.TheConstants.{MIN_TOKEN_CHARACTERS, MAX_TOKEN_CHARACTERS}

-- within the limits of such characters
pub record IsToken (text : List ℕ) : Type 0 where
  pub long : MIN_TOKEN_CHARACTERS ≤ length text
  pub short : length text ≤ MAX_TOKEN_CHARACTERS
  pub characters : All (λ c. IsTrue (is_ascii_alphanumeric c)) text
