-- What stands once in a list does so in any order, and the rows of a table in another order are its rows too.
use Rattle.std.proofs.Common.{◌≡◌, ℕ, ◌<◌, List, length, Some, refl, sym, ap, ◌∙◌, inl, inr}
use Rattle.std.proofs.Common.{arith, subst, get_or}
use Rattle.std.proofs.Common.{IsPermutation, swap}
use Rattle.std.specs.List.{slice_get}
use Rattle.std.specs.declared.cmp.Ordering.{Ordering}
use Rattle.std.specs.FinMap.{FinMap}
use Rattle.std.proofs.lemmas.Bool.{cases_eq}
use Rattle.std.proofs.lemmas.Option.{slice_get_within, get_or_from_slice_get, slice_get_read}
use Rattle.std.proofs.lemmas.List.Edits.{swapped_from_swap, length-swap}
use Rattle.std.proofs.lemmas.List.Sorted.{IsPermutation-keeps, IsPermutation-sym}
use Rattle.std.proofs.lemmas.List.Sorted.{Contains-permutation}
use Rattle.gr_core.specs.Columns.Fields.{Field}
use Rattle.gr_core.specs.Columns.Stored.{AreRowsOf}

-- ==== lists in another order

-- nothing stands at two places
abbrev pub IsOnce : {X : Type 0} → List X → Type 0
IsOnce {X} xs = (i j : ℕ) (x : X) → slice_get xs i ≡ Some x → slice_get xs j ≡ Some x → i ≡ j

-- where a place went when a and b changed places
record Moved (a b p s : ℕ) : Type 0 where
  first : p ≡ a → s ≡ b
  second : p ≡ b → s ≡ a
  other : (p ≡ a → ⊥) → (p ≡ b → ⊥) → s ≡ p

-- no two places come from one
places_apart : (a b i j s : ℕ) → Moved a b i s → Moved a b j s → i ≡ j
places_apart a b i j s one two =
    let u = one.first in let v = one.second in let w = one.other in
    let x = two.first in let y = two.second in let z = two.other in grind arith

module _ {X : Type 0} where
  -- what stands at a place after an exchange stood at the place that it came from
  moved : (l : List X) (a b p : ℕ) (x : X) → a < length l → b < length l → slice_get (swap l a b) p ≡ Some x
      → (s : ℕ) × Moved a b p s × (slice_get l s ≡ Some x)
  moved l a b p x below_a below_b at =
      let swapped = swapped_from_swap l (swap l a b) a b x below_a below_b refl in
      let within = slice_get_within (swap l a b) p x at in
      let long = length-swap l a b in
      let is : get_or (swap l a b) p x ≡ x = get_or_from_slice_get (swap l a b) p x x at in
      let found = λ (s : ℕ) (below : s < length l) (e : get_or (swap l a b) p x ≡ get_or l s x).
      slice_get_read l (length l) s x refl below (sym is ∙ e) in
      elim (cases_eq p a) [
        | inl at_a ↦ (
          b,
          record { first = λ _. refl; second = λ at_b. sym at_b ∙ at_a; other = λ none _. absurd (none at_a) },
          found b below_b (ap (λ n. get_or (swap l a b) n x) at_a ∙ swapped.0),
        )
        | inr not_a ↦ elim (cases_eq p b) [
          | inl at_b ↦ (
            a,
            record { first = λ at_a. absurd (not_a at_a); second = λ _. refl; other = λ _ none. absurd (none at_b) },
            found a below_a (ap (λ n. get_or (swap l a b) n x) at_b ∙ swapped.1),
          )
          | inr not_b ↦ (
            p,
            record { first = λ at_a. absurd (not_a at_a); second = λ at_b. absurd (not_b at_b); other = λ _ _. refl },
            found p (omega arith) (swapped.2 p not_a not_b),
          )
        ]
      ]

  -- what comes once does so in any order
  once_moved : (xs ys : List X) → IsPermutation xs ys → IsOnce xs → IsOnce ys
  once_moved xs ys same once = IsPermutation-keeps xs IsOnce once (λ l a b below_a below_b was i j x at_i at_j.
      let u = moved l a b i x below_a below_b at_i in
      let v = moved l a b j x below_a below_b at_j in
      let one : u.0 ≡ v.0 = was u.0 v.0 x u.2 v.2 in
      places_apart a b i j v.0 (subst (Moved a b i) one u.1) v.1) ys same

-- ==== the rows of a table

-- the rows of a table in another order are its rows
pub rows_moved : {K V : Type 0} {cmp : K → K → Ordering} (fields : K × V → List Field) (m : FinMap cmp V)
    (rows others : List (List Field)) → IsPermutation rows others → AreRowsOf fields m rows → AreRowsOf fields m others
rows_moved fields m rows others same are = record {
  known = λ row there. are.known row (Contains-permutation others rows row (IsPermutation-sym rows others same) there);
  whole = λ key value got. Contains-permutation rows others (fields (key, value)) same (are.whole key value got);
  once = once_moved rows others same are.once;
}
