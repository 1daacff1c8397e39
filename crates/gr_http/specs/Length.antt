-- How many bytes of body a request's head announces (RFC 9112, section 6).
use Rattle.std.specs.Prelude.{ℕ, Bool, ◌&&◌, List, [], ◌∷◌, length, map, filter, Option, Some, None, Result, Ok, Err, codes, nat_lt, if◌then◌else◌}
use Rattle.std.specs.Option.{ok_or}
use Rattle.std.specs.List.{list_all, list_any}
use Rattle.std.specs.Char.{is_ascii_digit}
use Rattle.std.specs.Str.{str_eq_ignore_ascii_case}
use Rattle.std.specs.Str.Parse.{digits_value}
use Rattle.httparse.specs.Grammar.{Field}
use Rattle.httparse.specs.Spans.{name_and_value}
use Rattle.gr_http.specs.declared.limits.TheConstants.{MAX_BODY_BYTES}
use Rattle.gr_http.specs.declared.problem.Problem.{Problem}
use Rattle.gr_http.specs.declared.problem.Problem.TheVariants.{BadLength, TooLarge}

-- a field's name, and its value without the white space around it
abbrev pub Header : Type 0
Header = List ℕ × List ℕ

-- the field has this name, where a letter's case makes no difference
unfoldable pub is_named : List ℕ → Header → Bool
is_named name header = str_eq_ignore_ascii_case header.0 name

-- one decimal digit or more, and nothing else
abbrev pub is_decimal : List ℕ → Bool
is_decimal text = nat_lt 0 (length text) && list_all is_ascii_digit text

-- the values of the fields with this name, in their order
abbrev pub values_named : List ℕ → List Header → List (List ℕ)
values_named name headers = map (λ header. header.1) (filter (is_named name) headers)

-- a number of bytes, where a body may have so many
abbrev pub within_limit : ℕ → Option ℕ
within_limit count = if nat_lt MAX_BODY_BYTES count then None else Some count

-- the length that a value gives
abbrev pub length_in : List ℕ → Result ℕ Problem
length_in value = if is_decimal value then ok_or (within_limit (digits_value 10 value)) TooLarge else Err BadLength

-- the length that the values of the Content-Length fields give: 0 where there is none, and else that of the only one
abbrev pub length_of_values : List (List ℕ) → Result ℕ Problem
length_of_values [] = Ok 0
length_of_values (value ∷ []) = length_in value
length_of_values (value ∷ other ∷ others) = Err BadLength

-- the length that these headers announce, which none of them does in a Transfer-Encoding
abbrev pub announced_length : List Header → Result ℕ Problem
announced_length headers =
    if list_any (is_named (codes "transfer-encoding")) headers then Err BadLength
    else length_of_values (values_named (codes "content-length") headers)

-- how many bytes of body follow a head with these fields, or why they do not say it as this desk wants it
abbrev pub body_length : List Field → Result ℕ Problem
body_length fields = announced_length (map name_and_value fields)
