-- The header of a desk: the row that says which version it is, and how far it has come (this project's profile).
use Rattle.std.specs.Prelude.{◌≡◌, ◌≤◌, ◌↔◌, ℕ}
use Rattle.gr_core.specs.declared.limits.TheConstants.{MAX_MOMENT, MAX_ACCEPTED, VERSION}
use Rattle.gr_core.specs.declared.header.Header.{Header}

-- Of the version with this number, and within the limits. The clock stands at 0 just as long as no command was
-- accepted.
pub record IsHeaderOfVersion (number : ℕ) (header : Header) : Type 0 where
  pub version : header.version ≡ number
  pub accepted : header.accepted ≤ MAX_ACCEPTED
  pub clock : header.clock ≤ MAX_MOMENT
  pub unused : (header.clock ≡ 0) ↔ (header.accepted ≡ 0)

-- one of this version
abbrev pub IsHeader : Header → Type 0
IsHeader = IsHeaderOfVersion VERSION
