-- A moment: whole seconds since 1970-01-01T00:00:00Z (this project's profile).
use Rattle.std.specs.Prelude.{ℕ, ◌<◌, ◌≤◌}
use Rattle.gr_core.specs.declared.limits.TheConstants.{MAX_MOMENT}

-- from the first second after 1970 began to the last one of 2099
abbrev pub IsMoment : ℕ → Type 0
IsMoment at = (0 < at) × (at ≤ MAX_MOMENT)
