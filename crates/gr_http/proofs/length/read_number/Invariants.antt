-- The bytes so far are digits, and the number is theirs, as far as a body may be so long.
use Rattle.std.proofs.Common.{◌≡◌, true, take}
use Rattle.std.specs.List.{list_all}
use Rattle.std.specs.Char.{is_ascii_digit}
use Rattle.std.specs.Str.Parse.{digits_value}
use Rattle.gr_http.specs.Length.{within_limit}
use Rattle.gr_http.proofs.length.read_number.Given as goal

abbrev pub invariant-loop-digit : goal.invariant-loop-digit
invariant-loop-digit l = record {
  number : l.number ≡ within_limit (digits_value 10 (take l.digit-index l.value));
  digits : list_all is_ascii_digit (take l.digit-index l.value) ≡ true;
}
