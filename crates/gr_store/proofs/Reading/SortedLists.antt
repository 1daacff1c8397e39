-- Each list can be put in order.
use Rattle.std.proofs.Common.{◌≡◌, zero, suc, ◌+◌, Bool, true, false, List, [], ◌∷◌, refl, ap, ◌∙◌, arith, inl, inr, IsPermutation, IsSorted, Ordering, Less, Equal, Greater, is_lt}
use Rattle.std.specs.Prelude.{⊤}
use Rattle.std.specs.Cmp.{IsTotalOrder}
use Rattle.std.specs.List.Sorted.{IsSortedBy}
use Rattle.std.specs.Ordering.{ordering_reverse}
use Rattle.std.proofs.lemmas.Bool.{cases_Bool}
use Rattle.std.proofs.lemmas.List.Sorted.{IsPermutation-refl, IsPermutation-trans, IsPermutation-cons, IsPermutation-middle, IsPermutation-sym}

below_back : (o : Ordering) → is_lt o ≡ true → is_lt (ordering_reverse o) ≡ false
below_back Less h = refl
below_back Equal h = absurd (cc)
below_back Greater h = absurd (cc)

module _ {X : Type 0} (lt : X → X → Bool) where
  -- P holds of the first, and none is below the one before it
  abbrev Rises : (X → Type 0) → List X → Type 0
  Rises P [] = ⊤
  Rises P (x ∷ xs) = P x × Rises (λ y. lt y x ≡ false) xs

  rises_sorted : (P : X → Type 0) (xs : List X) → Rises P xs → IsSortedBy lt xs
  rises_sorted P [] h k d low high = absurd (omega arith)
  rises_sorted P (x ∷ []) h k d low high = absurd (omega arith)
  rises_sorted P (x ∷ y ∷ ys) h zero d low high = h.1.0
  rises_sorted P (x ∷ y ∷ ys) h (suc k) d low high =
      let next : suc k + 1 ≡ suc (k + 1) = omega arith in
      rw next (rises_sorted (λ z. lt z x ≡ false) (y ∷ ys) h.1 k d (omega arith) (omega arith))

  module _ (one_way : (x y : X) → lt x y ≡ true → lt y x ≡ false) where
    -- an element is put before the first that it is below
    placed : (x : X) (ys : List X) (P : X → Type 0) → P x → Rises P ys
        → (zs : List X) × IsPermutation (x ∷ ys) zs × Rises P zs
    placed x [] P here up = (x ∷ [], IsPermutation-refl (x ∷ []), (here, tt))
    placed x (y ∷ ys) P here up = elim (cases_Bool (lt x y)) [
      | inl below ↦ (x ∷ y ∷ ys, IsPermutation-refl (x ∷ y ∷ ys), (here, (one_way x y below, up.1)))
      | inr after ↦
          let more = placed x ys (λ z. lt z y ≡ false) after up.1 in
          let past : IsPermutation (x ∷ y ∷ ys) (y ∷ x ∷ ys) =
          IsPermutation-sym _ _ (IsPermutation-middle (y ∷ []) x ys) in
          (y ∷ more.0, IsPermutation-trans _ _ _ past (IsPermutation-cons y _ _ more.1), (up.0, more.2))
    ]

    risen : (xs : List X) → (ys : List X) × IsPermutation xs ys × Rises (λ _. ⊤) ys
    risen [] = ([], IsPermutation-refl [], tt)
    risen (x ∷ xs) =
        let rest = risen xs in
        let put = placed x rest.0 (λ _. ⊤) tt rest.2 in
        (put.0, IsPermutation-trans _ _ _ (IsPermutation-cons x _ _ rest.1) put.1, put.2)

pub can_be_sorted : {X : Type 0} (cmp : X → X → Ordering) → IsTotalOrder cmp → (xs : List X)
    → (ys : List X) × IsPermutation xs ys × IsSorted cmp ys
can_be_sorted cmp total xs =
    let lt = λ (x y : _). is_lt (cmp x y) in
    let it = risen lt (λ x y below. ap is_lt (total.antisymm y x) ∙ below_back (cmp x y) below) xs in
    (it.0, it.1, rises_sorted lt (λ _. ⊤) it.0 it.2)
