-- Transitive defeats, step by step.
use Rattle.std.proofs.Common.{◌≡◌, ℕ, suc, ◌-◌, ◌≤◌, ◌⊎◌, ◌↔◌, List, [], ◌∷◌, length, Some, refl, sym, ◌∙◌, ap, subst, inl, inr, arith}
use Rattle.std.specs.Prelude.{slice_get}
use Rattle.gr_count.specs.Path.{IsChain, IsPath, TransitivelyDefeats}

module _ (R : ℕ → ℕ → Type 0) where
  -- one defeat is a path
  pub one_step : (a c : ℕ) → R a c → TransitivelyDefeats R a c
  one_step a c step = record {
    path = a ∷ c ∷ [];
    leads = record { two_or_more = omega arith; first = refl; last = refl; neighbours = (step, tt) };
  }

  last_of_longer : (a b : ℕ) (rest : List ℕ) (c : ℕ) → slice_get (b ∷ rest) (length (b ∷ rest) - 1) ≡ Some c
      → slice_get (a ∷ b ∷ rest) (length (a ∷ b ∷ rest) - 1) ≡ Some c
  last_of_longer a b rest c last =
      let here : length (b ∷ rest) - 1 ≡ length rest = omega arith in
      let longer : length (a ∷ b ∷ rest) - 1 ≡ suc (length rest) = omega arith in
      ap (slice_get (a ∷ b ∷ rest)) longer ∙ sym (ap (slice_get (b ∷ rest)) here) ∙ last

  path_longer : (a b c : ℕ) → R a b → (path : List ℕ) → IsPath R b c path → TransitivelyDefeats R a c
  path_longer a b c step [] is = absurd (let h : 2 ≤ 0 = is.two_or_more in omega arith)
  path_longer a b c step (x ∷ rest) is =
      let same : x ≡ b = cc (is.first) in
      record {
        path = a ∷ x ∷ rest;
        leads = record {
          two_or_more = let h : 2 ≤ length (x ∷ rest) = is.two_or_more in omega arith;
          first = refl;
          last = last_of_longer a x rest c is.last;
          neighbours = (subst (R a) (sym same) step, is.neighbours);
        };
      }

  -- a defeat before a path makes a path
  pub step_before : (a b c : ℕ) → R a b → TransitivelyDefeats R b c → TransitivelyDefeats R a c
  step_before a b c step way = path_longer a b c step way.path way.leads

  -- what has every option that an option defeats, and with each option those that it defeats, has all on a path
  along : (S : ℕ → Type 0) → ((b c : ℕ) → S b → R b c → S c) → (x : ℕ) (rest : List ℕ) (c : ℕ) → S x → IsChain R (x ∷ rest)
      → slice_get (x ∷ rest) (length rest) ≡ Some c → S c
  along S closed x [] c here chain last = let same : x ≡ c = cc last in subst S same here
  along S closed x (y ∷ rest) c here chain last = along S closed y rest c (closed x y here chain.0) chain.1 last

  reach_path : (S : ℕ → Type 0) (a c : ℕ) → ((b : ℕ) → R a b → S b) → ((b c' : ℕ) → S b → R b c' → S c') → (path : List ℕ) → IsPath R a c path → S c
  reach_path S a c begins closed [] is = absurd (let h : 2 ≤ 0 = is.two_or_more in omega arith)
  reach_path S a c begins closed (x ∷ []) is = absurd (let h : 2 ≤ 1 = is.two_or_more in omega arith)
  reach_path S a c begins closed (x ∷ y ∷ rest) is =
      let same : x ≡ a = cc (is.first) in
      let longer : length (x ∷ y ∷ rest) - 1 ≡ suc (length rest) = omega arith in
      along S closed y rest c (begins y (subst (λ z. R z y) same is.neighbours.0)) is.neighbours.1
      (sym (ap (slice_get (x ∷ y ∷ rest)) longer) ∙ is.last)

  pub reach : (S : ℕ → Type 0) (a c : ℕ) → ((b : ℕ) → R a b → S b) → ((b c' : ℕ) → S b → R b c' → S c') → TransitivelyDefeats R a c → S c
  reach S a c begins closed way = reach_path S a c begins closed way.path way.leads

  -- a defeat after a path makes a path
  after_along : (x : ℕ) (rest : List ℕ) (b c : ℕ) → IsChain R (x ∷ rest) → slice_get (x ∷ rest) (length rest) ≡ Some b → R b c
      → TransitivelyDefeats R x c
  after_along x [] b c chain last step = let same : x ≡ b = cc last in one_step x c (subst (λ z. R z c) (sym same) step)
  after_along x (y ∷ rest) b c chain last step = step_before x y c chain.0 (after_along y rest b c chain.1 last step)

  after_path : (a b c : ℕ) (path : List ℕ) → IsPath R a b path → R b c → TransitivelyDefeats R a c
  after_path a b c [] is step = absurd (let h : 2 ≤ 0 = is.two_or_more in omega arith)
  after_path a b c (x ∷ rest) is step =
      let same : x ≡ a = cc (is.first) in
      let longer : length (x ∷ rest) - 1 ≡ length rest = omega arith in
      subst (λ z. TransitivelyDefeats R z c) same (after_along x rest b c is.neighbours (sym (ap (slice_get (x ∷ rest)) longer) ∙ is.last) step)

  pub step_after : (a b c : ℕ) → TransitivelyDefeats R a b → R b c → TransitivelyDefeats R a c
  step_after a b c way step = after_path a b c way.path way.leads step

  -- two paths, one after the other
  pub two_paths : (a b c : ℕ) → TransitivelyDefeats R a b → TransitivelyDefeats R b c → TransitivelyDefeats R a c
  two_paths a b c one other = reach (TransitivelyDefeats R a) b c (λ x. step_after a b x one) (λ x y. step_after a x y) other

  -- the last defeat of a path
  pub last_step : (a c : ℕ) → TransitivelyDefeats R a c → (b : ℕ) × R b c
  last_step a c way = reach (λ y. (b : ℕ) × R b y) a c (λ b step. (a, step)) (λ b c' _ step. (b, step)) way

  -- the first defeat of a path, and what is left of it
  pub first_step : (a c : ℕ) → TransitivelyDefeats R a c → R a c ⊎ ((b : ℕ) × R a b × TransitivelyDefeats R b c)
  first_step a c way =
      reach (λ y. R a y ⊎ ((b : ℕ) × R a b × TransitivelyDefeats R b y)) a c (λ b step. inl step)
      (λ b c' before step. elim before as (λ _. R a c' ⊎ ((d : ℕ) × R a d × TransitivelyDefeats R d c')) [
        | inl first ↦ inr (b, first, one_step b c' step)
        | inr more ↦ inr (more.0, more.1, step_after more.0 b c' more.2 step)
      ]) way

  -- a path is one defeat, or a defeat and then a path
  pub goes_on : (a c : ℕ) → TransitivelyDefeats R a c ↔ (R a c ⊎ ((b : ℕ) × R a b × TransitivelyDefeats R b c))
  goes_on a c = (
    first_step a c,
    λ cases.
        elim cases as (λ _. TransitivelyDefeats R a c) [ inl step ↦ one_step a c step | inr more ↦ step_before a more.0 c more.1 more.2 ],
  )

-- more defeats make no fewer transitive defeats
pub transitively-map : (R S : ℕ → ℕ → Type 0) → ((a b : ℕ) → R a b → S a b) → (a c : ℕ) → TransitivelyDefeats R a c → TransitivelyDefeats S a c
transitively-map R S more a c way = reach R (TransitivelyDefeats S a) a c (λ b step. one_step S a b (more a b step))
    (λ b c' before step. step_after S a b c' before (more b c' step)) way
