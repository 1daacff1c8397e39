-- What is printed of the parts of a moment is its text, and no two moments have the same.
use Rattle.std.proofs.Common.{◌≡◌, ℕ, ◌+◌, ◌-◌, ◌/◌, ◌%◌, ◌^◌, ◌<◌, ◌≤◌, [], ◌∷◌, ◌++◌, false, inl, inr, sym, ap, ◌∙◌, arith, pos, FitsSigned, w16, to_z, of_z, codes, decimal, get_or}
use Rattle.std.proofs.lemmas.Bool.{le-ltb}
use Rattle.std.proofs.lemmas.Bool.Decides.{leb_tells}
use Rattle.std.specs.Fmt.{format_spec, padded_integral, char_count, styled_decimal, styled_signed_decimal}
use Rattle.std.proofs.lemmas.Fmt.{decimal_digit, decimal_step}
use Rattle.std.proofs.lemmas.Int.{to_z-of_z}
use Rattle.jiff_core.specs.declared.civil.datetime.DateTime.{DateTime as CivilDateTime}
use Rattle.jiff_core.specs.Calendar.{days_from_civil}
use Rattle.jiff_core.specs.Date.{epoch_day}
use Rattle.jiff_core.specs.Time.{time_seconds}
use Rattle.jiff_core.proofs.CalendarLemmas.{days_in_month_bounds}
use Rattle.jiff_core.proofs.DateLemmas.{civil}
use Rattle.jiff_core.proofs.SignedLemmas.{signed_arith}
use Rattle.gr_sheet.specs.Date.{DateTime, datetime_at, datetime_text, MomentsHaveDifferentTexts, days_at, seconds_at, date_after, two_digits, four_digits, moment_text, IsShown}
use Rattle.gr_sheet.proofs.DateLemmas.{date_after-is, year_after}

decimal_two : (n : ℕ) → 10 ≤ n → n < 100 → decimal n ≡ two_digits n
decimal_two n low high = decimal_step n low (omega arith) ∙ ap (λ ds. ds ++ ((48 + n % 10) ∷ [])) (decimal_digit (n / 10) (omega arith))

decimal_four : (n : ℕ) → 1000 ≤ n → n < 10000 → decimal n ≡ four_digits n
decimal_four n low high =
    let hundreds : n / 10 / 10 ≡ n / 100 = omega arith in
    let tens : n / 10 % 10 ≡ n % 100 / 10 = omega arith in
    let ones : n % 10 ≡ n % 100 % 10 = omega arith in
    decimal_step n (omega arith) (omega arith) ∙ ap (λ ds. ds ++ ((48 + n % 10) ∷ []))
    (decimal_step (n / 10) (omega arith) (omega arith) ∙ ap (λ ds. ds ++ ((48 + n / 10 % 10) ∷ [])) (decimal_two (n / 10 / 10) (omega arith) (omega arith)))
    ∙ rw (hundreds, tens, ones)

-- `{n:02}`
printed_two : (n : ℕ) → n < 100 → styled_decimal (format_spec 32 0 4 2 (2 ^ 64 - 1)) n ≡ two_digits n
unfolding padded_integral char_count
printed_two n high =
    let padding = padded_integral (format_spec 32 0 4 2 (2 ^ 64 - 1)) false [] in
    elim (leb_tells 10 n) [
      | inl two ↦ ap padding (decimal_two n two.1 high)
      | inr one ↦ ap padding (decimal_digit n one.1) ∙ (let tens : n / 10 ≡ 0 = omega arith in let ones : n % 10 ≡ n = omega arith in rw (tens, ones))
    ]

-- `{n:04}`, where no zero is in want
printed_four : (n : ℕ) → 1000 ≤ n → n < 10000 → styled_signed_decimal (format_spec 32 0 4 4 (2 ^ 64 - 1)) (pos n) ≡ four_digits n
unfolding padded_integral char_count
printed_four n low high =
    ap (λ negative. padded_integral (format_spec 32 0 4 4 (2 ^ 64 - 1)) negative [] (decimal n)) (le-ltb n 0 (omega arith))
    ∙ ap (padded_integral (format_spec 32 0 4 4 (2 ^ 64 - 1)) false []) (decimal_four n low high)

-- the parts of what a clock shows at a moment, as they are printed
pub printed : (dt : CivilDateTime) (at : ℕ) → IsShown at → epoch_day dt.date ≡ pos (days_at at) → time_seconds dt.time ≡ seconds_at at
    → styled_signed_decimal (format_spec 32 0 4 4 (2 ^ 64 - 1)) (to_z w16 (of_z w16 dt.date.year))
    ++ (codes "-" ++ (styled_decimal (format_spec 32 0 4 2 (2 ^ 64 - 1)) dt.date.month
    ++ (codes "-" ++ (styled_decimal (format_spec 32 0 4 2 (2 ^ 64 - 1)) dt.date.day
    ++ (codes "T" ++ (styled_decimal (format_spec 32 0 4 2 (2 ^ 64 - 1)) dt.time.hour
    ++ (codes ":" ++ (styled_decimal (format_spec 32 0 4 2 (2 ^ 64 - 1)) dt.time.minute
    ++ (codes ":" ++ (styled_decimal (format_spec 32 0 4 2 (2 ^ 64 - 1)) dt.time.second ++ codes "Z")))))))))) ≡ moment_text at
unfolding moment_text
printed dt at shown date time =
    let day = date_after (days_at at) in
    let second = seconds_at at in
    let is = date_after-is (days_at at) (omega arith) in
    let same = is.only dt.date.year dt.date.month dt.date.day (civil dt.date) date in
    let fits : FitsSigned w16 dt.date.year = omega (arith, signed_arith) in
    let year : to_z w16 (of_z w16 dt.date.year) ≡ pos day.year = to_z-of_z w16 dt.date.year fits ∙ same.0 in
    let hours : dt.time.hour ≡ second / 3600 = omega arith in
    let minutes : dt.time.minute ≡ second % 3600 / 60 = omega arith in
    let seconds : dt.time.second ≡ second % 60 = omega arith in
    rw (
      year,
      same.1,
      same.2,
      hours,
      minutes,
      seconds,
      printed_four day.year (omega (arith, year_after (days_at at))) (omega (arith, signed_arith, is.civil.0)),
      printed_two day.month (omega (arith, is.civil.1)),
      printed_two day.day (omega (arith, is.civil.2, days_in_month_bounds (pos day.year) day.month)),
      printed_two (second / 3600) (omega arith),
      printed_two (second % 3600 / 60) (omega arith),
      printed_two (second % 60) (omega arith),
    )

-- ---- texts tell moments apart

same_two : (m n : ℕ) → 48 + m / 10 ≡ 48 + n / 10 → 48 + m % 10 ≡ 48 + n % 10 → m ≡ n
same_two m n tens ones = omega arith

same_four : (m n : ℕ) → m / 100 ≡ n / 100 → m % 100 ≡ n % 100 → m ≡ n
same_four m n hundreds rest = omega arith

record SameParts (a b : DateTime) : Type 0 where
  year : a.date.year ≡ b.date.year
  month : a.date.month ≡ b.date.month
  day : a.date.day ≡ b.date.day
  hour : a.hour ≡ b.hour
  minute : a.minute ≡ b.minute
  second : a.second ≡ b.second

same_parts : (a b : DateTime) → datetime_text a ≡ datetime_text b → SameParts a b
same_parts a b e =
    let byte : (k : ℕ) → get_or (datetime_text a) k 0 ≡ get_or (datetime_text b) k 0 = λ k. ap (λ text. get_or text k 0) e in
    record {
      year = same_four a.date.year b.date.year (same_two (a.date.year / 100) (b.date.year / 100) (byte 0) (byte 1))
          (same_two (a.date.year % 100) (b.date.year % 100) (byte 2) (byte 3));
      month = same_two a.date.month b.date.month (byte 5) (byte 6);
      day = same_two a.date.day b.date.day (byte 8) (byte 9);
      hour = same_two a.hour b.hour (byte 11) (byte 12);
      minute = same_two a.minute b.minute (byte 14) (byte 15);
      second = same_two a.second b.second (byte 17) (byte 18);
    }

pub moment_text-injective : MomentsHaveDifferentTexts
unfolding moment_text
moment_text-injective one other here there e =
    let same = same_parts (datetime_at one) (datetime_at other) e in
    let d = (datetime_at one).date in
    let f = (datetime_at other).date in
    let days : pos (days_at one) ≡ pos (days_at other) = sym (date_after-is (days_at one) (omega arith)).number
    ∙ ap (λ y. days_from_civil (pos y) d.month d.day) same.year ∙ ap (λ m. days_from_civil (pos f.year) m d.day) same.month
    ∙ ap (days_from_civil (pos f.year) f.month) same.day ∙ (date_after-is (days_at other) (omega arith)).number in
    let seconds : seconds_at one ≡ seconds_at other = omega (arith, same.hour, same.minute, same.second) in
    omega (arith, signed_arith, days, seconds)
