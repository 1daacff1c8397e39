-- What ballots said when digits were all the ranks (this project's profile, as it was).
use Rattle.std.specs.Prelude.{◌≡◌, ℕ, ◌<◌, ◌⊎◌, List, length, slice_get, Some}
use Rattle.std.specs.List.{All}
use Rattle.gr_count.specs.declared.limits.TheConstants.{UNRANKED}
use Rattle.gr_count.specs.Ballot.{IsDigit}

-- a text that was a ballot: for each option a digit, or the character of one that is not ranked
abbrev pub IsDigitOrUnranked : ℕ → Type 0
IsDigitOrUnranked c = IsDigit c ⊎ (c ≡ UNRANKED)

abbrev pub IsBallotOfDigits : ℕ → List ℕ → Type 0
IsBallotOfDigits options text = (length text ≡ options) × All IsDigitOrUnranked text

-- It preferred option a to option b: a has a digit, and b is not ranked or has a greater digit.
pub record PrefersByDigits (text : List ℕ) (a b : ℕ) : Type 0 where
  pub digit : ℕ
  pub has : slice_get text a ≡ Some digit
  pub is : IsDigit digit
  pub other : ℕ
  pub against : slice_get text b ≡ Some other
  pub behind : (other ≡ UNRANKED) ⊎ (IsDigit other × (digit < other))
