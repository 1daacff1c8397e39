-- A list in order is told by how often it has each element.
use Rattle.std.proofs.Common.{◌≡◌, ℕ, zero, suc, ◌+◌, ◌<◌, Bool, true, false, cond, List, [], ◌∷◌, length, get_or, count_by, refl, sym, ap, ◌∙◌, subst, arith}
use Rattle.std.specs.Prelude.{⊤}
use Rattle.std.specs.declared.cmp.Ordering.{Ordering}
use Rattle.std.specs.declared.cmp.Ordering.TheVariants.{Less, Equal, Greater}
use Rattle.std.specs.Ordering.{is_lt, is_eq, ordering_reverse}
use Rattle.std.specs.Cmp.{IsTotalOrder}
use Rattle.std.specs.FinMap.{IsAntisymmetric}
use Rattle.std.specs.List.Sorted.{IsPermutation, IsSorted}
use Rattle.std.proofs.lemmas.List.Sums.{sum_by-cons}
use Rattle.std.proofs.lemmas.List.Sorted.{IsPermutation-refl, IsPermutation-sym, IsPermutation-trans, IsPermutation-cons, IsPermutation-middle, ranks_by, sorted_far, sum_by-IsPermutation}

-- each test is passed by as many elements of the one list as of the other
abbrev AreAlike : {X : Type 0} → List X → List X → Type 0
AreAlike {X} xs ys = (test : X → Bool) → count_by test xs ≡ count_by test ys

count-cons : {X : Type 0} (test : X → Bool) (x : X) (xs : List X) → count_by test (x ∷ xs) ≡ cond (test x) 1 0 + count_by test xs
count-cons test x xs = sum_by-cons (λ y. cond (test y) 1 0) x xs

none_passes : {X : Type 0} (test : X → Bool) (xs : List X) → ((k : ℕ) (d : X) → k < length xs → test (get_or xs k d) ≡ false) → count_by test xs ≡ 0
none_passes test [] fails = refl
none_passes test (x ∷ xs) fails =
    let first = count-cons test x xs ∙ ap (λ b. cond b 1 0 + count_by test xs) (fails 0 x (omega arith)) in
    let rest = none_passes test xs (λ k d below. fails (suc k) d (omega arith)) in
    omega (arith, first, rest)

fails_if_none : (passes : Bool) (n : ℕ) → cond passes 1 0 + n ≡ 0 → passes ≡ false
fails_if_none false n none = refl
fails_if_none true n none = absurd (omega arith)

tied : (one other : Ordering) → is_lt one ≡ false → is_lt other ≡ false → one ≡ ordering_reverse other → one ≡ Equal
tied Equal other h k e = refl
tied Less other h k e = absurd (let never : true ≡ false = h in cc)
tied Greater Less h k e = absurd (let never : true ≡ false = k in cc)
tied Greater Equal h k e = absurd (let never : false ≡ true = ap is_eq e in cc)
tied Greater Greater h k e = absurd (let never : false ≡ true = ap is_lt e in cc)

module _ {X : Type 0} {cmp : X → X → Ordering} (order : IsTotalOrder cmp) (only : IsAntisymmetric cmp) where
  -- none is less than the first
  none_is_less : (x : X) (xs : List X) → IsSorted cmp (x ∷ xs) → count_by (λ y. is_lt (cmp y x)) (x ∷ xs) ≡ 0
  none_is_less x xs sorted =
      none_passes (λ y. is_lt (cmp y x)) (x ∷ xs)
      (λ k d below. sorted_far (λ a b. is_lt (cmp a b)) (ranks_by order (λ a. a)) (x ∷ xs) sorted 0 k d (omega arith) below)

  is_no_less : (x y : X) (xs ys : List X) → AreAlike (x ∷ xs) (y ∷ ys) → IsSorted cmp (y ∷ ys) → is_lt (cmp x y) ≡ false
  is_no_less x y xs ys alike sorted =
      fails_if_none (is_lt (cmp x y)) (count_by (λ z. is_lt (cmp z y)) xs)
      (sym (count-cons (λ z. is_lt (cmp z y)) x xs) ∙ alike (λ z. is_lt (cmp z y)) ∙ none_is_less y ys sorted)

  same_first : (x y : X) (xs ys : List X) → AreAlike (x ∷ xs) (y ∷ ys) → IsSorted cmp (x ∷ xs) → IsSorted cmp (y ∷ ys) → x ≡ y
  same_first x y xs ys alike here there =
      only x y (tied (cmp x y) (cmp y x) (is_no_less x y xs ys alike there)
      (is_no_less y x ys xs (λ test. sym (alike test)) here) (order.antisymm x y))

  alike_rest : (x y : X) (xs ys : List X) → AreAlike (x ∷ xs) (y ∷ ys) → x ≡ y → AreAlike xs ys
  alike_rest x y xs ys alike same = λ test.
      let whole = sym (count-cons test x xs) ∙ alike test ∙ count-cons test y ys in
      let first : cond {A = ℕ} (test x) 1 0 ≡ cond (test y) 1 0 = ap (λ z. cond {A = ℕ} (test z) 1 0) same in
      omega (arith, whole, first)

  sorted_rest : (x : X) (xs : List X) → IsSorted cmp (x ∷ xs) → IsSorted cmp xs
  sorted_rest x xs sorted = λ k d low high.
      let next : suc k + 1 ≡ suc (k + 1) = omega arith in
      subst (λ n. is_lt (cmp (get_or (x ∷ xs) n d) (get_or xs k d)) ≡ false) next (sorted (suc k) d (omega arith) (omega arith))

  same_if_alike : (xs ys : List X) → AreAlike xs ys → IsSorted cmp xs → IsSorted cmp ys → xs ≡ ys
  same_if_alike [] [] alike here there = refl
  same_if_alike [] (y ∷ ys) alike here there = absurd (let count = alike (λ z. true) ∙ count-cons (λ z. true) y ys in omega (arith, count))
  same_if_alike (x ∷ xs) [] alike here there = absurd (let count = sym (alike (λ z. true)) ∙ count-cons (λ z. true) x xs in omega (arith, count))
  same_if_alike (x ∷ xs) (y ∷ ys) alike here there =
      let first = same_first x y xs ys alike here there in
      let rest = same_if_alike xs ys (alike_rest x y xs ys alike first) (sorted_rest x xs here) (sorted_rest y ys there) in
      λ i. first i ∷ rest i

  -- the elements of a list have one order
  pub one_order : (all xs ys : List X) → IsPermutation all xs → IsPermutation all ys → IsSorted cmp xs → IsSorted cmp ys → xs ≡ ys
  one_order all xs ys one other =
      same_if_alike xs ys (λ test. sum_by-IsPermutation (λ z. cond (test z) 1 0) all xs one
      ∙ sym (sum_by-IsPermutation (λ z. cond (test z) 1 0) all ys other))

  -- ---- and there is one

  -- the list with an element in front of the first that is not less
  abbrev put : X → List X → List X
  put x [] = x ∷ []
  put x (y ∷ ys) = cond (is_lt (cmp y x)) (y ∷ put x ys) (x ∷ y ∷ ys)

  -- the list, put in order
  abbrev pub in_order : List X → List X
  in_order [] = []
  in_order (x ∷ xs) = put x (in_order xs)

  put_moves : (x : X) (xs : List X) → IsPermutation (x ∷ xs) (put x xs)
  put_moves x [] = IsPermutation-refl (x ∷ [])
  put_moves x (y ∷ ys) =
      elim (is_lt (cmp y x)) as (λ b. IsPermutation (x ∷ y ∷ ys) (cond b (y ∷ put x ys) (x ∷ y ∷ ys))) [
        | true ↦ IsPermutation-trans (x ∷ y ∷ ys) (y ∷ x ∷ ys) (y ∷ put x ys)
            (IsPermutation-sym (y ∷ x ∷ ys) (x ∷ y ∷ ys) (IsPermutation-middle (y ∷ []) x ys))
            (IsPermutation-cons y (x ∷ ys) (put x ys) (put_moves x ys))
        | false ↦ IsPermutation-refl (x ∷ y ∷ ys)
      ]

  -- it has the elements of the list
  pub in_order_moves : (xs : List X) → IsPermutation xs (in_order xs)
  in_order_moves [] = IsPermutation-refl []
  in_order_moves (x ∷ xs) =
      IsPermutation-trans (x ∷ xs) (x ∷ in_order xs) (put x (in_order xs))
      (IsPermutation-cons x xs (in_order xs) (in_order_moves xs)) (put_moves x (in_order xs))

  -- the first element, if there is one, is not less than this one
  abbrev IsBelow : X → List X → Type 0
  IsBelow x [] = ⊤
  IsBelow x (y ∷ ys) = is_lt (cmp y x) ≡ false

  abbrev Ascends : List X → Type 0
  Ascends [] = ⊤
  Ascends (x ∷ xs) = IsBelow x xs × Ascends xs

  turned : (one other : Ordering) → other ≡ ordering_reverse one → is_lt one ≡ true → is_lt other ≡ false
  turned Less other e is = ap is_lt e
  turned Equal other e is = absurd (let never : false ≡ true = is in cc)
  turned Greater other e is = absurd (let never : false ≡ true = is in cc)

  below_put : (y x : X) (xs : List X) → is_lt (cmp x y) ≡ false → IsBelow y xs → IsBelow y (put x xs)
  below_put y x [] one below = one
  below_put y x (z ∷ zs) one below =
      elim (is_lt (cmp z x)) as (λ b. IsBelow y (cond b (z ∷ put x zs) (x ∷ z ∷ zs))) [ true ↦ below | false ↦ one ]

  put_ascends : (x : X) (xs : List X) → Ascends xs → Ascends (put x xs)
  put_ascends x [] up = (tt, tt)
  put_ascends x (y ∷ ys) up =
      elim (is_lt (cmp y x)) as (λ b. is_lt (cmp y x) ≡ b → Ascends (cond b (y ∷ put x ys) (x ∷ y ∷ ys))) [
        | true ↦ λ is. (below_put y x ys (turned (cmp y x) (cmp x y) (order.antisymm x y) is) up.0, put_ascends x ys up.1)
        | false ↦ λ is. (is, up)
      ] refl

  in_order_ascends : (xs : List X) → Ascends (in_order xs)
  in_order_ascends [] = tt
  in_order_ascends (x ∷ xs) = put_ascends x (in_order xs) (in_order_ascends xs)

  sorted_if_ascends : (xs : List X) → Ascends xs → IsSorted cmp xs
  sorted_if_ascends [] up k d low high = absurd (omega arith)
  sorted_if_ascends (x ∷ []) up k d low high = absurd (omega arith)
  sorted_if_ascends (x ∷ y ∷ ys) up zero d low high = up.0
  sorted_if_ascends (x ∷ y ∷ ys) up (suc k) d low high =
      let next : suc (k + 1) ≡ suc k + 1 = omega arith in
      subst (λ n. is_lt (cmp (get_or (x ∷ y ∷ ys) n d) (get_or (y ∷ ys) k d)) ≡ false) next
      (sorted_if_ascends (y ∷ ys) up.1 k d (omega arith) (omega arith))

  -- and is in order
  pub in_order_is : (xs : List X) → IsSorted cmp (in_order xs)
  in_order_is xs = sorted_if_ascends (in_order xs) (in_order_ascends xs)
