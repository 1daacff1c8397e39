-- The limits of a request as numbers (this project's profile). The other definitions say them by name.
use Rattle.std.specs.Prelude.{◌≡◌}
use Rattle.gr_http.specs.declared.limits.TheConstants.{MAX_HEAD_BYTES, MAX_HEAD_FIELDS, MAX_BODY_BYTES, MAX_NUMBER_DIGITS}

pub record LimitsAreThoseOfTheFormats : Type 0 where
  pub head : MAX_HEAD_BYTES ≡ 8192
  pub fields : MAX_HEAD_FIELDS ≡ 32
  pub body : MAX_BODY_BYTES ≡ 1048576
  pub digits : MAX_NUMBER_DIGITS ≡ 9
