-- Where there are defeats, one of them is a weakest one.
use Rattle.std.proofs.Common.{◌≡◌, ℕ, zero, suc, ◌+◌, ◌<◌, ◌≤◌, ap, inl, inr, arith}
use Rattle.std.proofs.lemmas.Bool.{cases_eq}
use Rattle.gr_count.specs.Strength.{IsWeakest}

-- a bound of finitely many numbers, and of those of finitely many pairs
bound : (f : ℕ → ℕ) (n : ℕ) → (most : ℕ) × ((a : ℕ) → a < n → f a ≤ most)
bound f zero = (0, λ a below. absurd (omega arith))
bound f (suc n) =
    let before = bound f n in (
      before.0 + f n,
      λ a below. elim (cases_eq a n) as (λ _. f a ≤ before.0 + f n) [
        | inl same ↦ let here : f a ≡ f n = ap f same in omega arith
        | inr other ↦ let there : f a ≤ before.0 = before.1 a (omega arith) in omega arith
      ],
    )

bound_of_pairs : (V : ℕ → ℕ → ℕ) (n : ℕ) → (most : ℕ) × ((a b : ℕ) → a < n → b < n → V a b ≤ most)
bound_of_pairs V n =
    let row : ℕ → ℕ = λ a. (bound (V a) n).0 in
    let all = bound row n in (
      all.0,
      λ a b ha hb.
          let one : V a b ≤ row a = (bound (V a) n).1 b hb in
          let other : row a ≤ all.0 = all.1 a ha in
          omega arith,
    )

module _ (V : ℕ → ℕ → ℕ) (R : ℕ → ℕ → Type 0) (none : (a b : ℕ) → ¬ (IsWeakest V R a b))
    (most : ℕ) (within : (a b : ℕ) → R a b → V b a ≤ most) where
  -- Were none of them a weakest one, then a defeat would have a weaker one, with less support, or with as much and more
  -- opposition. There is no less support than some number, and no more opposition than the bound.
  none_with : (support : ℕ) → ((a b : ℕ) → R a b → ¬ (V a b < support)) → (room a b : ℕ) → R a b → V a b ≤ support → ¬ (most ≤ V b a + room)
  none_with support none_less zero a b stands low = λ high. none a b (record {
    among = stands;
    none_weaker = λ x y other weaker. elim weaker as (λ _. ⊥) [
      | inl less ↦ let h : V x y < V a b = less in none_less x y other (omega arith)
      | inr more ↦ let h : V b a < V y x = more.1 in let bounded : V y x ≤ most = within x y other in omega arith
    ];
  })
  none_with support none_less (suc room) a b stands low = λ high. none a b (record {
    among = stands;
    none_weaker = λ x y other weaker. elim weaker as (λ _. ⊥) [
      | inl less ↦ let h : V x y < V a b = less in none_less x y other (omega arith)
      | inr more ↦
          let same : V x y ≡ V a b = more.0 in
          let h : V b a < V y x = more.1 in
          none_with support none_less room x y other (omega arith) (omega arith)
    ];
  })

  none_below : (support a b : ℕ) → R a b → ¬ (V a b < support)
  none_below zero a b stands = λ low. omega arith
  none_below (suc support) a b stands = λ low. none_with support (none_below support) most a b stands (omega arith) (omega arith)

  none_stands : (a b : ℕ) → ¬ (R a b)
  none_stands a b = λ stands. none_below (suc (V a b)) a b stands (omega arith)

pub some_weakest : (V : ℕ → ℕ → ℕ) (R : ℕ → ℕ → Type 0) (n : ℕ) → ((a b : ℕ) → R a b → (a < n) × (b < n)) → (a b : ℕ) → R a b
    → ¬ (¬ ((x : ℕ) × (y : ℕ) × IsWeakest V R x y))
some_weakest V R n inside a b stands = λ no.
    let most = bound_of_pairs V n in
    none_stands V R (λ x y weakest. no (x, y, weakest)) most.0 (λ x y is. most.1 y x (inside x y is).1 (inside x y is).0) a b stands
