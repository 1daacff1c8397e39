-- Moments as dates, by the Gregorian calendar and a clock in UTC that knows no leap seconds, and their texts (this
-- project's profile).
use Rattle.std.specs.Prelude.{◌≡◌, ℕ, zero, suc, ◌+◌, ◌*◌, ◌/◌, ◌%◌, ◌<◌, ◌≤◌, nat_lt, if◌then◌else◌, ℤ, pos, List, [], ◌∷◌, ◌++◌, codes}
use Rattle.gr_core.specs.declared.limits.TheConstants.{DAY}
use Rattle.jiff_core.specs.Calendar.{days_in_month, days_from_civil, IsCivilDate}
use Rattle.gr_sheet.specs.declared.moment.TheConstants.{LAST_SHOWN}

-- a day of the calendar: its year, its month from 1 and its day of the month from 1
pub record Date : Type 0 where
  pub year : ℕ
  pub month : ℕ
  pub day : ℕ

-- the date after one: the next day of its month, or else the first of the next month, or else of the next year
abbrev pub next_date : Date → Date
next_date d =
    if nat_lt d.day (days_in_month (pos d.year) d.month) then record d { day = d.day + 1 }
    else (if nat_lt d.month 12 then record { year = d.year; month = d.month + 1; day = 1 }
    else record { year = d.year + 1; month = 1; day = 1 })

-- the date so many days after 1970-01-01
unfoldable pub date_after : ℕ → Date
date_after zero = record { year = 1970; month = 1; day = 1 }
date_after (suc days) = next_date (date_after days)

-- the whole days from 1970-01-01T00:00:00Z to a moment, and the seconds of the day that has begun
abbrev pub days_at : ℕ → ℕ
days_at at = at / DAY

abbrev pub seconds_at : ℕ → ℕ
seconds_at at = at % DAY

-- what a clock shows: a date, and the hours, minutes and seconds of that day
pub record DateTime : Type 0 where
  pub date : Date
  pub hour : ℕ
  pub minute : ℕ
  pub second : ℕ

-- what it shows at a moment
abbrev pub datetime_at : ℕ → DateTime
datetime_at at = record {
  date = date_after (days_at at);
  hour = seconds_at at / 3600;
  minute = seconds_at at % 3600 / 60;
  second = seconds_at at % 60;
}

-- what it shows a second later: the next second of its minute, minute of its hour or hour of its day, or midnight of
-- the next date
abbrev pub next_second : DateTime → DateTime
next_second t =
    if nat_lt t.second 59 then record t { second = t.second + 1 }
    else (if nat_lt t.minute 59 then record t { minute = t.minute + 1; second = 0 }
    else (if nat_lt t.hour 23 then record t { hour = t.hour + 1; minute = 0; second = 0 }
    else record { date = next_date t.date; hour = 0; minute = 0; second = 0 }))

-- a number below 100 in two digits; 48 is the code of the digit 0
abbrev pub two_digits : ℕ → List ℕ
two_digits n = (48 + n / 10) ∷ (48 + n % 10) ∷ []

-- a number below 10000 in four
abbrev pub four_digits : ℕ → List ℕ
four_digits n = two_digits (n / 100) ++ two_digits (n % 100)

-- `2026-01-31`
abbrev pub date_text : Date → List ℕ
date_text d = four_digits d.year ++ codes "-" ++ two_digits d.month ++ codes "-" ++ two_digits d.day

-- `2026-01-31T23:59:59Z`
abbrev pub datetime_text : DateTime → List ℕ
datetime_text t =
    date_text t.date ++ codes "T" ++ two_digits t.hour ++ codes ":" ++ two_digits t.minute
    ++ codes ":" ++ two_digits t.second ++ codes "Z"

-- the text of a moment
unfoldable pub moment_text : ℕ → List ℕ
moment_text at = datetime_text (datetime_at at)

-- a moment that a sheet can show: of a command, or of an end that it sets
abbrev pub IsShown : ℕ → Type 0
IsShown at = at ≤ LAST_SHOWN

-- the last of these is 2100-01-21T23:59:59Z
abbrev pub SheetsShowTwentyOneDaysMore : Type 0
SheetsShowTwentyOneDaysMore = LAST_SHOWN ≡ 4102444799 + 21 * 86400

-- The calendar has this date, and it is the one whose number of days since 1970-01-01 this is. The days are counted
-- another way here, by the lengths of the years and months before the date.
pub record IsTheDateOf (days : ℕ) (d : Date) : Type 0 where
  pub civil : IsCivilDate (pos d.year) d.month d.day
  pub number : days_from_civil (pos d.year) d.month d.day ≡ pos days
  pub only : (year : ℤ) (month day : ℕ) → IsCivilDate year month day → days_from_civil year month day ≡ pos days
      → (year ≡ pos d.year) × (month ≡ d.month) × (day ≡ d.day)

-- a clock can show this time, and it is so many seconds after midnight
pub record IsTheTimeOf (seconds : ℕ) (t : DateTime) : Type 0 where
  pub hour : t.hour < 24
  pub minute : t.minute < 60
  pub second : t.second < 60
  pub number : t.hour * 3600 + t.minute * 60 + t.second ≡ seconds

-- a moment has one date and one time of day
abbrev pub MomentsHaveOneDate : Type 0
MomentsHaveOneDate = (at : ℕ) → IsShown at
    → IsTheDateOf (days_at at) (datetime_at at).date × IsTheTimeOf (seconds_at at) (datetime_at at)

-- no two moments have the same text
abbrev pub MomentsHaveDifferentTexts : Type 0
MomentsHaveDifferentTexts = (one other : ℕ) → IsShown one → IsShown other → moment_text one ≡ moment_text other
    → one ≡ other

-- a second later the clock shows the next second of the day, or midnight of the next day
abbrev pub SecondsFollowOneAnother : Type 0
SecondsFollowOneAnother = (at : ℕ) → datetime_at (at + 1) ≡ next_second (datetime_at at)
