-- Texts that people read (this project's profile): names of developers and summaries of choices, which have one line,
-- and the texts of choices.
use Rattle.std.specs.Prelude.{ℕ, ◌<◌, ◌≤◌, not, ◌||◌, ◌==◌, Bool, List, length, codes, IsUtf8}
use Rattle.std.specs.List.{AllPass, list_any}
use Rattle.std.specs.Str.{chars}
use Rattle.std.specs.Char.{is_control}
use Rattle.gr_core.specs.declared.limits.TheConstants.{MAX_NAME_CHARACTERS, MAX_SUMMARY_CHARACTERS, MAX_TEXT_BYTES}

-- no character of it is a control character, which are those to U+001F and from U+007F to U+009F
abbrev pub IsPrintable : List ℕ → Type 0
IsPrintable text = AllPass (λ c. not (is_control c)) (chars text)

-- UTF-8, not empty, and within a limit of characters, of which none is a control character
pub record IsLine (limit : ℕ) (text : List ℕ) : Type 0 where
  pub utf8 : IsUtf8 text
  pub nonempty : 0 < length (chars text)
  pub short : length (chars text) ≤ limit
  pub printable : IsPrintable text

-- what a developer may be called
abbrev pub IsName : List ℕ → Type 0
IsName text = IsLine MAX_NAME_CHARACTERS text

-- what a ballot may show of a choice (Constitution, A.3.2)
abbrev pub IsSummary : List ℕ → Type 0
IsSummary text = IsLine MAX_SUMMARY_CHARACTERS text

-- a tab, a line feed, a carriage return, or no control character
abbrev pub is_text_character : ℕ → Bool
is_text_character c = list_any (λ d. c == d) (codes "\t\n\r") || not (is_control c)

-- UTF-8, not empty, and within the limit of bytes, of such characters
pub record IsText (text : List ℕ) : Type 0 where
  pub utf8 : IsUtf8 text
  pub nonempty : 0 < length text
  pub short : length text ≤ MAX_TEXT_BYTES
  pub characters : AllPass is_text_character (chars text)
