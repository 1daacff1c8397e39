-- Among some options, and by a transitive relation, one beats each that beats it.
use Rattle.std.proofs.Common.{◌≡◌, ℕ, zero, suc, ◌<◌, ◌⊎◌, Bool, true, false, refl, sym, ◌∙◌, subst, inl, inr, arith}
use Rattle.std.proofs.lemmas.Bool.{cases_eq, false≢true}

module _ (n : ℕ) (kept : ℕ → Bool) (beats : ℕ → ℕ → Bool) (joins : (a b c : ℕ) → beats a b ≡ true → beats b c ≡ true → beats a c ≡ true) where
  -- the option is kept, and beats each kept one below i that beats it
  pub record IsMaximal (i m : ℕ) : Type 0 where
    pub inside : m < n
    pub is_kept : kept m ≡ true
    pub beats_back : (b : ℕ) → b < i → kept b ≡ true → beats b m ≡ true → beats m b ≡ true

  -- the next option beats it, and is not beaten back: it takes over
  takes_over : (i m : ℕ) → IsMaximal i m → i < n → kept i ≡ true → beats i m ≡ true → IsMaximal (suc i) i
  takes_over i m so_far inside is_kept beaten = record {
    inside = inside;
    is_kept = is_kept;
    beats_back = λ b before kept_b beats_b.
        elim (cases_eq b i) as (λ _. beats i b ≡ true) [
          | inl same ↦ subst (λ x. beats i x ≡ true) (sym same) (subst (λ x. beats x i ≡ true) same beats_b)
          | inr other ↦ joins i m b beaten (so_far.beats_back b (omega arith) kept_b (joins b i m beats_b beaten))
        ];
  }

  -- else the one so far stays
  stays : (i m : ℕ) → IsMaximal i m → (kept i ≡ true → beats i m ≡ true → beats m i ≡ true) → IsMaximal (suc i) m
  stays i m so_far back = record {
    inside = so_far.inside;
    is_kept = so_far.is_kept;
    beats_back = λ b before kept_b beats_b.
        elim (cases_eq b i) as (λ _. beats m b ≡ true) [
          | inl same ↦ subst (λ x. beats m x ≡ true) (sym same) (back (subst (λ x. kept x ≡ true) same kept_b) (subst (λ x. beats x m ≡ true) same beats_b))
          | inr other ↦ so_far.beats_back b (omega arith) kept_b beats_b
        ];
  }

  one_more : (i m : ℕ) → IsMaximal i m → i < n → (k t : Bool) → kept i ≡ k → beats i m ≡ t → (l : ℕ) × IsMaximal (suc i) l
  one_more i m so_far inside true true is_kept beaten = (i, takes_over i m so_far inside is_kept beaten)
  one_more i m so_far inside true false is_kept beaten = (m, stays i m so_far (λ _ is. absurd (false≢true (sym beaten ∙ is))))
  one_more i m so_far inside false t is_kept beaten = (m, stays i m so_far (λ is _. absurd (false≢true (sym is_kept ∙ is))))

  maximal_so_far : (k : ℕ) → k < n → kept k ≡ true → (i : ℕ) → (i < n) ⊎ (i ≡ n) → (m : ℕ) × IsMaximal i m
  maximal_so_far k inside is_kept zero within = (k, record { inside = inside; is_kept = is_kept; beats_back = λ b before kept_b beats_b. absurd (omega arith) })
  maximal_so_far k inside is_kept (suc i) within =
      let below : i < n = elim within as (λ _. i < n) [ inl h ↦ omega arith | inr h ↦ omega arith ] in
      let before = maximal_so_far k inside is_kept i (inl below) in
      one_more i before.0 before.1 below (kept i) (beats i before.0) refl refl

  pub maximal : (k : ℕ) → k < n → kept k ≡ true → (m : ℕ) × IsMaximal n m
  maximal k inside is_kept = maximal_so_far k inside is_kept n (inr refl)
