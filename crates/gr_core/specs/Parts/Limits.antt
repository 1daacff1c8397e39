-- The limits of the rules as numbers: where no paragraph is named, this project's profile. The other definitions say
-- them by name.
use Rattle.std.specs.Prelude.{◌≡◌, pos}
use Rattle.gr_core.specs.declared.limits.TheConstants.{MAX_MOMENT, MAX_LOGIN_CHARACTERS, MAX_NAME_CHARACTERS, MAX_SUMMARY_CHARACTERS, MIN_TOKEN_CHARACTERS, MAX_TOKEN_CHARACTERS, MAX_TEXT_BYTES, MAX_RESOLUTIONS, MAX_CHOICES, MAX_ACCEPTED, VERSION, VERSION_1}
use Rattle.gr_core.specs.declared.limits.TheConstants.{DAY, MIN_DISCUSSION_DAYS, MAX_DISCUSSION_DAYS, MAX_SHIFT_DAYS, CHANGE_DAYS, MIN_NOTICE, MIN_VOTING_DAYS, MAX_VOTING_DAYS}
use Rattle.gr_count.specs.declared.limits.TheConstants.{MAX_DEVELOPERS}

pub record LimitsAreThoseOfTheRules : Type 0 where
  -- 2099-12-31T23:59:59Z
  pub moment : MAX_MOMENT ≡ 4102444799
  pub login : MAX_LOGIN_CHARACTERS ≡ 32
  pub name : MAX_NAME_CHARACTERS ≡ 80
  pub summary : MAX_SUMMARY_CHARACTERS ≡ 80
  pub tokens : (MIN_TOKEN_CHARACTERS ≡ 8) × (MAX_TOKEN_CHARACTERS ≡ 64)
  pub roll : MAX_DEVELOPERS ≡ 2000
  pub accepted : MAX_ACCEPTED ≡ 1000000000
  pub version : VERSION ≡ 2
  pub version_1 : VERSION_1 ≡ 1
  pub text : MAX_TEXT_BYTES ≡ 20000
  pub resolutions : MAX_RESOLUTIONS ≡ 200
  pub choices : MAX_CHOICES ≡ 34
  -- of a day in seconds
  pub day : DAY ≡ 86400
  -- of discussions in days (Constitution, A.1.1, A.1.6 and A.1.4), and of the notice of their end in seconds (A.1.6)
  pub shortest : MIN_DISCUSSION_DAYS ≡ pos 14
  pub longest : MAX_DISCUSSION_DAYS ≡ pos 21
  pub shift : MAX_SHIFT_DAYS ≡ pos 7
  pub change : CHANGE_DAYS ≡ 7
  pub notice : MIN_NOTICE ≡ 172800
  -- of votes in days (Constitution, 4.2.3)
  pub briefest : MIN_VOTING_DAYS ≡ pos 7
  pub widest : MAX_VOTING_DAYS ≡ pos 21
