-- The date after so many days is the one with that day number.
use Rattle.std.proofs.Common.{◌≡◌, ℕ, zero, suc, ◌+◌, ◌<◌, ◌≤◌, nat_lt, sym, ap, ◌∙◌, arith, rules, ℤ, pos}
use Rattle.std.proofs.lemmas.Bool.{cond_both, ltb-true, ltb-false}
use Rattle.jiff_core.specs.declared.civil.date.Date.{Date as CivilDate}
use Rattle.jiff_core.specs.Calendar.{days_in_month, days_from_civil, IsCivilDate}
use Rattle.jiff_core.proofs.CalendarLemmas.{days_from_civil-day_count, day_count-epoch, days_in_month_bounds}
use Rattle.jiff_core.proofs.DateLemmas.{days_from_civil-day, days_from_civil-next_month, days_from_civil-next_year, days_from_civil-max, epoch_day_injective}
use Rattle.jiff_core.proofs.SignedLemmas.{signed_arith}
use Rattle.gr_sheet.specs.Date.{Date, next_date, date_after, IsTheDateOf}

-- the calendar has the date, and it is so many days after 1970-01-01
abbrev HasNumber : ℕ → Date → Type 0
HasNumber n d = IsCivilDate (pos d.year) d.month d.day × (days_from_civil (pos d.year) d.month d.day ≡ pos n)

first_day : HasNumber 0 (record { year = 1970; month = 1; day = 1 })
first_day = ((search rules, search rules, search rules), omega (arith, signed_arith, days_from_civil-day_count, day_count-epoch))

next_in_month : (n : ℕ) (d : Date) → HasNumber n d → d.day < days_in_month (pos d.year) d.month → HasNumber (suc n) (record d { day = d.day + 1 })
next_in_month n d h inside = (
  (h.0.0, h.0.1, (omega arith, omega arith)),
  omega (arith, signed_arith, days_from_civil-day (pos d.year) d.month d.day (d.day + 1) h.0.2.0 (omega arith), h.1),
)

first_of_month : (n : ℕ) (d : Date) → HasNumber n d → d.day ≡ days_in_month (pos d.year) d.month → d.month < 12
    → HasNumber (suc n) (record { year = d.year; month = d.month + 1; day = 1 })
first_of_month n d h last inside = (
  (h.0.0, (omega arith, omega arith), (omega arith, omega (arith, days_in_month_bounds (pos d.year) (d.month + 1)))),
  omega (arith, signed_arith, days_from_civil-next_month (pos d.year) d.month d.day h.0.1.0 last, h.1),
)

first_of_year : (n : ℕ) (d : Date) → HasNumber n d → d.day ≡ days_in_month (pos d.year) d.month → d.month ≡ 12 → n < 2_932_896
    → HasNumber (suc n) (record { year = d.year + 1; month = 1; day = 1 })
first_of_year n d h last december below =
    let day : d.day ≡ 31 = last ∙ ap (days_in_month (pos d.year)) december in
    let number : days_from_civil (pos d.year) 12 31 ≡ pos n =
    sym (ap (λ m. days_from_civil (pos d.year) m d.day) december ∙ ap (days_from_civil (pos d.year) 12) day) ∙ h.1 in
    let not_last : d.year ≡ 9999 → ⊥ = λ e. omega (arith, signed_arith, sym number ∙ ap (λ y. days_from_civil (pos y) 12 31) e ∙ days_from_civil-max) in
    let year : d.year < 9999 = omega (arith, signed_arith, h.0.0) in
    let next = days_from_civil-next_year (pos d.year) (pos (d.year + 1)) (omega (arith, signed_arith)) (omega (arith, signed_arith)) in
    ((omega (arith, signed_arith), (omega arith, omega arith), (omega arith, omega arith)), omega (arith, signed_arith, next, number))

next_day : (n : ℕ) (d : Date) → HasNumber n d → n < 2_932_896 → HasNumber (suc n) (next_date d)
next_day n d h below =
    cond_both (nat_lt d.day (days_in_month (pos d.year) d.month)) _ _ (HasNumber (suc n))
    (λ inside. next_in_month n d h (ltb-true _ _ inside))
    (λ outside. let last : d.day ≡ days_in_month (pos d.year) d.month = omega (arith, ltb-false _ _ outside) in
    cond_both (nat_lt d.month 12) _ _ (HasNumber (suc n))
    (λ early. first_of_month n d h last (ltb-true _ _ early))
    (λ late. first_of_year n d h last (omega (arith, ltb-false _ _ late)) below))

date_after-number : (n : ℕ) → n ≤ 2_932_896 → HasNumber n (date_after n)
unfolding date_after
date_after-number zero h = first_day
date_after-number (suc n) h = next_day n (date_after n) (date_after-number n (omega arith)) (omega arith)

pub year_after : (n : ℕ) → 1970 ≤ (date_after n).year
unfolding date_after
year_after zero = omega arith
year_after (suc n) =
    let d = date_after n in
    let before = year_after n in
    cond_both (nat_lt d.day (days_in_month (pos d.year) d.month)) _ _ (λ (next : Date). 1970 ≤ next.year) (λ _. before)
    (λ _. cond_both (nat_lt d.month 12) _ _ (λ (next : Date). 1970 ≤ next.year) (λ _. before) (λ _. omega arith))

-- a date as the toolchain's calendar keeps it
civil_date : (year : ℤ) (month day : ℕ) → IsCivilDate year month day → CivilDate
civil_date year month day h = record { year = year; month = month; day = day; year_in = h.0; month_in = h.1; day_in = h.2 }

-- and it is the only one
pub date_after-is : (n : ℕ) → n ≤ 2_932_896 → IsTheDateOf n (date_after n)
unfolding civil_date
date_after-is n h =
    let found = date_after-number n h in
    record {
      civil = found.0;
      number = found.1;
      only = λ year month day civil number. epoch_day_injective (civil_date year month day civil)
          (civil_date (pos (date_after n).year) (date_after n).month (date_after n).day found.0) (number ∙ sym found.1);
    }
