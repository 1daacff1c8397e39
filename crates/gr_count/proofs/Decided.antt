-- What holds or does not. Of each proposition it cannot be refuted that it does, nor of finitely many together.
-- Each lemma that ends in ¬ (¬ P) gives its P to what refutes something else.
use Rattle.std.proofs.Common.{ℕ, zero, suc, ◌<◌, ◌⊎◌, ◌↔◌, Bool, true, false, refl, sym, subst, inl, inr, arith}
use Rattle.std.specs.Prelude.{IsTrue}
use Rattle.std.proofs.lemmas.Bool.{cases_lt, cases_eq, false≢true}

abbrev pub IsDecided : Type 0 → Type 0
IsDecided P = P ⊎ (¬ P)

pub decided : (P : Type 0) → ¬ (¬ (IsDecided P))
decided P = λ neither. neither (inr (λ p. neither (inl p)))

-- ==== tests

-- the test of what is decided
abbrev pub test_of : (P : Type 0) → IsDecided P → Bool
test_of P (inl p) = true
test_of P (inr refuted) = false

pub test_of-is : (P : Type 0) (is_decided : IsDecided P) → IsTrue (test_of P is_decided) ↔ P
test_of-is P (inl p) = (λ _. p, λ _. refl)
test_of-is P (inr refuted) = (λ is. absurd (false≢true is), λ p. absurd (refuted p))

-- ==== finitely many

-- what is refuted of no number is not refuted of finitely many together
each_below : (P : ℕ → Type 0) → ((a : ℕ) → ¬ (¬ (P a))) → (n : ℕ) → ¬ (¬ ((a : ℕ) → a < n → P a))
each_below P each zero = λ no. no (λ a below. absurd (omega arith))
each_below P each (suc n) =
    λ no. each_below P each n (λ before. each n (λ here. no (λ a below.
    elim (cases_eq a n) as (λ _. P a) [ inl same ↦ subst P (sym same) here | inr other ↦ before a (omega arith) ])))

-- what holds of numbers below n alone; of pairs of them; of such pairs and a number below m
pub all_decided : (n : ℕ) (P : ℕ → Type 0) → ((a : ℕ) → P a → a < n) → ¬ (¬ ((a : ℕ) → IsDecided (P a)))
all_decided n P inside =
    λ no. each_below (λ a. IsDecided (P a)) (λ a. decided (P a)) n (λ known. no (λ a.
    elim (cases_lt a n) as (λ _. IsDecided (P a)) [
      | inl below ↦ known a below
      | inr past ↦ inr (λ is. let below : a < n = inside a is in omega arith)
    ]))

pub pairs_decided : (n : ℕ) (R : ℕ → ℕ → Type 0) → ((a b : ℕ) → R a b → (a < n) × (b < n)) → ¬ (¬ ((a b : ℕ) → IsDecided (R a b)))
pairs_decided n R inside =
    λ no. each_below (λ a. (b : ℕ) → IsDecided (R a b)) (λ a. all_decided n (R a) (λ b is. (inside a b is).1)) n (λ known. no (λ a b.
    elim (cases_lt a n) as (λ _. IsDecided (R a b)) [
      | inl below ↦ known a below b
      | inr past ↦ inr (λ is. let below : a < n = (inside a b is).0 in omega arith)
    ]))

pub triples_decided : (m n : ℕ) (T : ℕ → ℕ → ℕ → Type 0) → ((k a b : ℕ) → T k a b → (k < m) × (a < n) × (b < n))
    → ¬ (¬ ((k a b : ℕ) → IsDecided (T k a b)))
triples_decided m n T inside =
    λ no. each_below (λ k. (a b : ℕ) → IsDecided (T k a b))
    (λ k. pairs_decided n (T k) (λ a b is. ((inside k a b is).1, (inside k a b is).2))) m (λ known. no (λ k a b.
    elim (cases_lt k m) as (λ _. IsDecided (T k a b)) [
      | inl below ↦ known k below a b
      | inr past ↦ inr (λ is. let below : k < m = (inside k a b is).0 in omega arith)
    ]))
