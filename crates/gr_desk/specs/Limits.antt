-- The limits of the program.
use Rattle.std.specs.Prelude.{◌≡◌}
use Rattle.gr_desk.specs.declared.limits.TheConstants.{MIN_PORT, MAX_PORT, MIN_COUNT, MAX_COUNT, MAX_AT}
use Rattle.gr_desk.specs.declared.limits.TheConstants.{MIN_NUMBER, MAX_NUMBER}
use Rattle.gr_desk.specs.declared.limits.TheConstants.{REQUEST_SECONDS, RESPONSE_SECONDS, DRAIN_SECONDS}

-- those that docs/formats.md and the help texts give
abbrev pub LimitsAreThoseOfTheProgram : Type 0
LimitsAreThoseOfTheProgram =
    (MIN_PORT ≡ 1) × (MAX_PORT ≡ 65535) × (MIN_COUNT ≡ 1) × (MAX_COUNT ≡ 1000000) × (MAX_AT ≡ 9999999999)
    × (MIN_NUMBER ≡ 1) × (MAX_NUMBER ≡ 999999999)
    × (REQUEST_SECONDS ≡ 5) × (RESPONSE_SECONDS ≡ 5) × (DRAIN_SECONDS ≡ 1)
