-- A second later the clock shows the next second.
use Rattle.std.proofs.Common.{◌≡◌, ℕ, suc, ◌+◌, ◌%◌, ◌<◌, nat_lt, ap, ◌∙◌, arith}
use Rattle.std.proofs.lemmas.Bool.{cond_both, ltb-true, ltb-false}
use Rattle.gr_sheet.specs.Date.{Date, next_date, date_after, days_at, DateTime, datetime_at, SecondsFollowOneAnother}

abbrev datetime : Date → ℕ → ℕ → ℕ → DateTime
datetime date hour minute second = record { date = date; hour = hour; minute = minute; second = second }

same_datetime : (a b : DateTime) → a.date ≡ b.date → a.hour ≡ b.hour → a.minute ≡ b.minute → a.second ≡ b.second → a ≡ b
same_datetime a b date hour minute second =
    ap (λ d. datetime d a.hour a.minute a.second) date ∙ ap (λ h. datetime b.date h a.minute a.second) hour
    ∙ ap (λ m. datetime b.date b.hour m a.second) minute ∙ ap (datetime b.date b.hour b.minute) second

date_after-suc : (m n : ℕ) → m ≡ suc n → date_after m ≡ next_date (date_after n)
unfolding date_after
date_after-suc m n e = ap date_after e

pub datetime_at-next : SecondsFollowOneAnother
datetime_at-next at =
    let now = datetime_at at in
    let next = datetime_at (at + 1) in
    let same_day : at % 86400 < 86399 → next.date ≡ now.date = λ early. ap date_after (omega arith) in
    cond_both (nat_lt now.second 59) _ _ (λ (c : DateTime). next ≡ c)
    (λ e. let early = ltb-true now.second 59 e in
    same_datetime next _ (same_day (omega arith)) (omega arith) (omega arith) (omega arith))
    (λ late. let second = ltb-false now.second 59 late in
    cond_both (nat_lt now.minute 59) _ _ (λ (c : DateTime). next ≡ c)
    (λ e. let early = ltb-true now.minute 59 e in
    same_datetime next _ (same_day (omega arith)) (omega arith) (omega arith) (omega arith))
    (λ late. let minute = ltb-false now.minute 59 late in
    cond_both (nat_lt now.hour 23) _ _ (λ (c : DateTime). next ≡ c)
    (λ e. let early = ltb-true now.hour 23 e in
    same_datetime next _ (same_day (omega arith)) (omega arith) (omega arith) (omega arith))
    (λ late. let hour = ltb-false now.hour 23 late in
    same_datetime next _ (date_after-suc (days_at (at + 1)) (days_at at) (omega arith)) (omega arith) (omega arith) (omega arith))))
