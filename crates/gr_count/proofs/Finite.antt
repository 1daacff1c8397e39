-- Sets of the numbers below a number, and how many they are.
use Rattle.std.proofs.Common.{◌≡◌, ◌≢◌, ℕ, zero, suc, ◌+◌, ◌<◌, ◌≤◌, Bool, true, false, cond, refl, sym, ◌∙◌, ap, inl, inr, arith, add-zero, zero-add, count_by, []}
use Rattle.std.specs.List.{range_with_len}
use Rattle.std.proofs.lemmas.List.Sums.{sum_by-cons}
use Rattle.std.proofs.lemmas.Bool.{cases_lt, cases_eq, false≢true}
use Rattle.gr_count.specs.Options.{size_below}

bit_le : (p q : Bool) → (p ≡ true → q ≡ true) → cond p 1 0 ≤ cond q 1 0
bit_le true true h = omega arith
bit_le true false h = absurd (false≢true (h refl))
bit_le false true h = omega arith
bit_le false false h = omega arith

pub bit_of_false : (b : Bool) → b ≡ false → ◌≡◌ {A = ℕ} (cond b 1 0) 0
bit_of_false true e = absurd (false≢true (sym e))
bit_of_false false e = refl

pub not_true : (b : Bool) → b ≢ true → b ≡ false
not_true true other = absurd (other refl)
not_true false other = refl

pub bit_of_true : (b : Bool) → b ≡ true → ◌≡◌ {A = ℕ} (cond b 1 0) 1
bit_of_true true e = refl
bit_of_true false e = absurd (false≢true e)

-- what is false from n on is true below n alone
pub below_if_true : (p : ℕ → Bool) (n : ℕ) → ((a : ℕ) → n ≤ a → p a ≡ false) → (a : ℕ) → p a ≡ true → a < n
below_if_true p n beyond a is =
    elim (cases_lt a n) as (λ _. a < n) [ inl below ↦ below | inr not_below ↦ absurd (false≢true (sym (beyond a not_below) ∙ is)) ]

-- what is 0 from n on is more below n alone
pub below_if_more : (f : ℕ → ℕ) (n : ℕ) → ((a : ℕ) → n ≤ a → f a ≡ 0) → (a : ℕ) → 0 < f a → a < n
below_if_more f n beyond a is =
    elim (cases_lt a n) as (λ _. a < n) [ inl below ↦ below | inr not_below ↦ absurd (omega (arith, beyond a not_below)) ]

-- the members in a range with one number more
count_by-range_more : (p : ℕ → Bool) (n a : ℕ) → count_by p (range_with_len a (suc n)) ≡ count_by p (range_with_len a n) + cond (p (a + n)) 1 0
count_by-range_more p zero a =
    let bit : ℕ → ℕ = λ k. cond (p k) 1 0 in
    let last : bit (a + 0) ≡ bit a = ap bit (add-zero a) in
    omega (arith, sum_by-cons bit a [])
count_by-range_more p (suc n) a =
    let bit : ℕ → ℕ = λ k. cond (p k) 1 0 in
    let last : bit (a + 1 + n) ≡ bit (a + suc n) = ap bit (omega arith) in
    omega (arith, count_by-range_more p n (a + 1), sum_by-cons bit a (range_with_len (a + 1) (suc n)), sum_by-cons bit a (range_with_len (a + 1) n))

-- one option more counts where it is in the set
pub size_below-suc : (n : ℕ) (p : ℕ → Bool) → size_below (suc n) p ≡ size_below n p + cond (p n) 1 0
size_below-suc n p =
    let bit : ℕ → ℕ = λ k. cond (p k) 1 0 in
    let last : bit (0 + n) ≡ bit n = ap bit (zero-add n) in
    omega (arith, count_by-range_more p n 0)

-- a larger set has no fewer members
pub size_below-mono : (n : ℕ) (p q : ℕ → Bool) → ((a : ℕ) → a < n → p a ≡ true → q a ≡ true) → size_below n p ≤ size_below n q
size_below-mono zero p q more = omega arith
size_below-mono (suc n) p q more =
    let before : size_below n p ≤ size_below n q = size_below-mono n p q (λ a h. more a (omega arith)) in
    let here : cond (p n) 1 0 ≤ cond (q n) 1 0 = bit_le (p n) (q n) (more n (omega arith)) in
    omega (arith, size_below-suc n p, size_below-suc n q)

pub size_below-le : (n : ℕ) (p : ℕ → Bool) → size_below n p ≤ n
size_below-le zero p = omega arith
size_below-le (suc n) p =
    let before : size_below n p ≤ n = size_below-le n p in
    omega (arith, size_below-suc n p, bit_le (p n) true (λ _. refl))

-- a set with one member more is larger
pub size_below-more : (n : ℕ) (p q : ℕ → Bool) → ((a : ℕ) → a < n → p a ≡ true → q a ≡ true) → (a : ℕ) → a < n → p a ≡ false → q a ≡ true
    → size_below n p < size_below n q
size_below-more zero p q more a inside out in' = absurd (omega arith)
size_below-more (suc n) p q more a inside out in' =
    elim (cases_eq a n) as (λ _. size_below (suc n) p < size_below (suc n) q) [
      | inl same ↦
          let before : size_below n p ≤ size_below n q = size_below-mono n p q (λ b h. more b (omega arith)) in
          let none : ◌≡◌ {A = ℕ} (cond (p n) 1 0) 0 = bit_of_false (p n) (sym (ap p same) ∙ out) in
          let one : ◌≡◌ {A = ℕ} (cond (q n) 1 0) 1 = bit_of_true (q n) (sym (ap q same) ∙ in') in
          omega (arith, size_below-suc n p, size_below-suc n q)
      | inr other ↦
          let before : size_below n p < size_below n q = size_below-more n p q (λ b h. more b (omega arith)) a (omega arith) out in' in
          let here : cond (p n) 1 0 ≤ cond (q n) 1 0 = bit_le (p n) (q n) (more n (omega arith)) in
          omega (arith, size_below-suc n p, size_below-suc n q)
    ]

-- a set with a member has a size
pub size_below-some : (n : ℕ) (p : ℕ → Bool) (a : ℕ) → a < n → p a ≡ true → 0 < size_below n p
size_below-some n p a inside is =
    let none : size_below n (λ _. false) < size_below n p = size_below-more n (λ _. false) p (λ b h e. absurd (false≢true e)) a inside refl is in
    omega arith

-- a set of size 1 has one member
pub size_below-one : (n : ℕ) (p : ℕ → Bool) → size_below n p ≡ 1 → (a b : ℕ) → a < n → b < n → p a ≡ true → p b ≡ true → a ≡ b
size_below-one zero p one a b ha hb pa pb = absurd (omega arith)
size_below-one (suc n) p one a b ha hb pa pb =
    elim (cases_eq a n) as (λ _. a ≡ b) [
      | inl first ↦ elim (cases_eq b n) as (λ _. a ≡ b) [
        | inl second ↦ first ∙ sym second
        | inr second ↦
            let here : ◌≡◌ {A = ℕ} (cond (p n) 1 0) 1 = bit_of_true (p n) (sym (ap p first) ∙ pa) in
            let below : 0 < size_below n p = size_below-some n p b (omega arith) pb in
            absurd (omega (arith, size_below-suc n p))
      ]
      | inr first ↦ elim (cases_eq b n) as (λ _. a ≡ b) [
        | inl second ↦
            let here : ◌≡◌ {A = ℕ} (cond (p n) 1 0) 1 = bit_of_true (p n) (sym (ap p second) ∙ pb) in
            let below : 0 < size_below n p = size_below-some n p a (omega arith) pa in
            absurd (omega (arith, size_below-suc n p))
        | inr second ↦
            let below : 0 < size_below n p = size_below-some n p a (omega arith) pa in
            size_below-one n p (omega (arith, size_below-suc n p)) a b (omega arith) (omega arith) pa pb
      ]
    ]

-- a set with no member below n has no size
pub size_below-nobody : (n : ℕ) (p : ℕ → Bool) → ((a : ℕ) → a < n → p a ≢ true) → size_below n p ≡ 0
size_below-nobody zero p nobody = refl
size_below-nobody (suc n) p nobody =
    let before : size_below n p ≡ 0 = size_below-nobody n p (λ a h. nobody a (omega arith)) in
    let here : ◌≡◌ {A = ℕ} (cond (p n) 1 0) 0 = bit_of_false (p n) (not_true (p n) (nobody n (omega arith))) in
    omega (arith, size_below-suc n p)

-- a set with one member alone has the size 1
pub size_below-sole : (n : ℕ) (p : ℕ → Bool) (w : ℕ) → w < n → p w ≡ true → ((a : ℕ) → p a ≡ true → a ≡ w) → size_below n p ≡ 1
size_below-sole zero p w inside is sole = absurd (omega arith)
size_below-sole (suc n) p w inside is sole =
    elim (cases_eq w n) as (λ _. size_below (suc n) p ≡ 1) [
      | inl last ↦
          let before : size_below n p ≡ 0 = size_below-nobody n p (λ a below one. omega (arith, sole a one, last)) in
          let here : ◌≡◌ {A = ℕ} (cond (p n) 1 0) 1 = bit_of_true (p n) (ap p (sym last) ∙ is) in
          omega (arith, size_below-suc n p)
      | inr other ↦
          let before : size_below n p ≡ 1 = size_below-sole n p w (omega arith) is sole in
          let here : ◌≡◌ {A = ℕ} (cond (p n) 1 0) 0 = bit_of_false (p n) (not_true (p n) (λ one. other (sym (sole n one)))) in
          omega (arith, size_below-suc n p)
    ]
