-- The clock of a discussion (this project's profile, after the Constitution, A.1.1, A.1.4 and A.1.6). Moments are in
-- seconds since 1970.
use Rattle.std.specs.Prelude.{ℕ, ◌+◌, ◌*◌, ◌≤◌, max, min, ℤ, neg_ℤ, ◌+ℤ◌, ◌≤ℤ◌, unsigned_abs, Option, Some, None, IfSome}
use Rattle.gr_core.specs.declared.limits.TheConstants.{MAX_MOMENT, DAY, MIN_DISCUSSION_DAYS, MAX_DISCUSSION_DAYS, MAX_SHIFT_DAYS, CHANGE_DAYS, MIN_VOTING_DAYS, MAX_VOTING_DAYS}
use Rattle.gr_core.specs.declared.discussion.Discussion.{Discussion}

-- the days by which a discussion may be varied, up or down (Constitution, A.1.6)
pub record IsShift (shift : ℤ) : Type 0 where
  pub least : neg_ℤ MAX_SHIFT_DAYS ≤ℤ shift
  pub most : shift ≤ℤ MAX_SHIFT_DAYS

-- the days for which votes may be taken (Constitution, 4.2.3)
pub record IsPeriod (days : ℤ) : Type 0 where
  pub least : MIN_VOTING_DAYS ≤ℤ days
  pub most : days ≤ℤ MAX_VOTING_DAYS

-- so many days, varied by a shift, in seconds
abbrev pub varied : ℤ → ℤ → ℕ
varied days shift = unsigned_abs (days +ℤ shift) * DAY

-- the ends of the shortest and of the longest discussion from this start (Constitution, A.1.1 and A.1.6)
abbrev pub earliest_end : ℕ → ℤ → ℕ
earliest_end start shift = start + varied MIN_DISCUSSION_DAYS shift

abbrev pub latest_end : ℕ → ℤ → ℕ
latest_end start shift = start + varied MAX_DISCUSSION_DAYS shift

-- a week after a change (Constitution, A.1.4)
abbrev pub week_after : ℕ → ℕ
week_after at = at + CHANGE_DAYS * DAY

-- the middle one of three
abbrev pub middle : ℕ → ℕ → ℕ → ℕ
middle a b c = max (min a b) (min (max a b) c)

-- the end of a discussion that lies between these two, by its last change
abbrev pub end_between : ℕ → ℕ → Option ℕ → ℕ
end_between earliest latest None = earliest
end_between earliest latest (Some at) = middle earliest (week_after at) latest

abbrev pub end_of : Discussion → ℕ
end_of discussion =
    end_between (earliest_end discussion.start discussion.shift) (latest_end discussion.start discussion.shift)
    discussion.changed

-- its moments and its shift are within their limits
pub record IsTimely (discussion : Discussion) : Type 0 where
  pub start : discussion.start ≤ MAX_MOMENT
  pub changed : IfSome discussion.changed (λ at. at ≤ MAX_MOMENT)
  pub shift : IsShift discussion.shift
