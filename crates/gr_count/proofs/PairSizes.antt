-- How many pairs of numbers below a number a relation has.
use Rattle.std.proofs.Common.{◌≡◌, ℕ, zero, suc, ◌+◌, ◌*◌, ◌<◌, ◌≤◌, Bool, true, false, inl, inr, subst, arith}
use Rattle.std.proofs.lemmas.Bool.{cases_eq}
use Rattle.gr_count.specs.Options.{size_below}
use Rattle.gr_count.proofs.Finite.{size_below-mono, size_below-le, size_below-more}

-- the pairs of which the first is below m and the second below n
pub pairs_below : ℕ → ℕ → (ℕ → ℕ → Bool) → ℕ
pairs_below zero n r = 0
pairs_below (suc m) n r = pairs_below m n r + size_below n (r m)

pub pairs_below-le : (m n : ℕ) (r : ℕ → ℕ → Bool) → pairs_below m n r ≤ m * n
unfolding pairs_below
pairs_below-le zero n r = omega arith
pairs_below-le (suc m) n r =
    let before : pairs_below m n r ≤ m * n = pairs_below-le m n r in
    let row : size_below n (r m) ≤ n = size_below-le n (r m) in
    omega arith

pairs_below-mono : (m n : ℕ) (r s : ℕ → ℕ → Bool) → ((a b : ℕ) → r a b ≡ true → s a b ≡ true) → pairs_below m n r ≤ pairs_below m n s
unfolding pairs_below
pairs_below-mono zero n r s more = omega arith
pairs_below-mono (suc m) n r s more =
    let before : pairs_below m n r ≤ pairs_below m n s = pairs_below-mono m n r s more in
    let row : size_below n (r m) ≤ size_below n (s m) = size_below-mono n (r m) (s m) (λ b _. more m b) in
    omega arith

-- a relation with one pair more is larger
pub pairs_below-more : (m n : ℕ) (r s : ℕ → ℕ → Bool) → ((a b : ℕ) → r a b ≡ true → s a b ≡ true) → (a b : ℕ) → a < m → b < n → r a b ≡ false
    → s a b ≡ true → pairs_below m n r < pairs_below m n s
unfolding pairs_below
pairs_below-more zero n r s more a b ha hb out in' = absurd (omega arith)
pairs_below-more (suc m) n r s more a b ha hb out in' =
    elim (cases_eq a m) as (λ _. pairs_below m n r + size_below n (r m) < pairs_below m n s + size_below n (s m)) [
      | inl same ↦
          let before : pairs_below m n r ≤ pairs_below m n s = pairs_below-mono m n r s more in
          let row : size_below n (r m) < size_below n (s m)
          = size_below-more n (r m) (s m) (λ x _. more m x) b hb (subst (λ x. r x b ≡ false) same out) (subst (λ x. s x b ≡ true) same in') in
          omega arith
      | inr other ↦
          let before : pairs_below m n r < pairs_below m n s = pairs_below-more m n r s more a b (omega arith) hb out in' in
          let row : size_below n (r m) ≤ size_below n (s m) = size_below-mono n (r m) (s m) (λ x _. more m x) in
          omega arith
    ]
