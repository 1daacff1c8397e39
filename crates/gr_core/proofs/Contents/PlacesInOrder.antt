-- Places in the order of the choices, and choices that are introduced, as walks over the choices of a resolution find them.
use Rattle.std.proofs.Common.{◌≡◌, ℕ, zero, suc, ◌+◌, ◌≤◌, Bool, true, false, cond, List, [], ◌∷◌, ◌++◌, length, Some, None, refl, sym, ap, ◌∙◌, arith}
use Rattle.std.specs.Prelude.{◌||◌, unwrap_or}
use Rattle.std.specs.List.{AllByRecursion, cons_option, list_any}
use Rattle.std.specs.declared.cmp.Ordering.{Ordering}
use Rattle.std.specs.Ordering.{eq_by_cmp}
use Rattle.std.specs.FinMap.{find}
use Rattle.gr_core.specs.declared.choice.ChoiceKey.{ChoiceKey}
use Rattle.gr_core.specs.Parts.Choice.{ChoiceModel}
use Rattle.gr_core.specs.Desks.Valid.{places_of, up_to}
use Rattle.gr_core.proofs.Contents.PlaceNumberLemmas.{from, from-one}
use Rattle.gr_core.proofs.Collections.PresenceLemmas.{not_false, not_None}

-- one choice more has its place after those of the others, if it has one
pub places_of-more : (es : List (ChoiceKey × ChoiceModel)) (e : ChoiceKey × ChoiceModel)
    → places_of (es ++ e ∷ []) ≡ places_of es ++ cons_option e.1.place []
places_of-more [] e = refl
places_of-more (x ∷ es) e =
    elim x.1.place as (λ o. cons_option o (places_of (es ++ e ∷ [])) ≡ cons_option o (places_of es) ++ cons_option e.1.place []) [
      | Some place ↦ ap (λ rest. place ∷ rest) (places_of-more es e)
      | None ↦ places_of-more es e
    ]

-- the places of choices that stand before others are the first ones
pub places_of-append : (es fs : List (ChoiceKey × ChoiceModel)) → places_of (es ++ fs) ≡ places_of es ++ places_of fs
places_of-append [] fs = refl
places_of-append (x ∷ es) fs =
    elim x.1.place as (λ o. cons_option o (places_of (es ++ fs)) ≡ cons_option o (places_of es) ++ places_of fs) [
      | Some place ↦ ap (λ rest. place ∷ rest) (places_of-append es fs)
      | None ↦ places_of-append es fs
    ]

-- there are no more places than choices
pub places_of-few : (es : List (ChoiceKey × ChoiceModel)) → length (places_of es) ≤ length es
places_of-few [] = omega arith
places_of-few (x ∷ es) =
    let rest = places_of-few es in
    elim x.1.place as (λ o. length (cons_option o (places_of es)) ≤ length (x ∷ es)) [
      | Some place ↦ omega arith
      | None ↦ omega arith
    ]

next_from : (first count place : ℕ) (rest : List ℕ) (n : ℕ) → from first count ++ place ∷ rest ≡ from first n → place ≡ first + count
next_from first zero place rest zero e = absurd (cc)
next_from first zero place rest (suc n) e = let heads : place ≡ first = cc in omega arith
next_from first (suc count) place rest zero e = absurd (cc)
next_from first (suc count) place rest (suc n) e =
    let next : place ≡ first + 1 + count = next_from (first + 1) count place rest n (cc) in omega arith

-- after the numbers up to one, the next of the numbers up to another is one more
pub next_up_to : (count place : ℕ) (rest : List ℕ) (n : ℕ) → up_to count ++ place ∷ rest ≡ up_to n → place ≡ 1 + count
next_up_to count place rest n e =
    next_from 1 count place rest n (ap (λ numbers. numbers ++ place ∷ rest) (from-one count) ∙ e ∙ sym (from-one n))

-- an element that passes, with what holds of each
pub passes_some : {A : Type 0} (test : A → Bool) (Q : A → Type 0) (xs : List A) → list_any test xs ≡ true → AllByRecursion Q xs
    → (x : A) × (test x ≡ true) × Q x
passes_some test Q [] some all = absurd (not_false some)
passes_some test Q (x ∷ xs) some all =
    elim (test x) as (λ b. test x ≡ b → (b || list_any test xs) ≡ true → (y : _) × (test y ≡ true) × Q y) [
      | true ↦ λ here one. (x, here, all.0)
      | false ↦ λ here others. passes_some test Q xs others all.1
    ] refl some

-- a row that is found and passes is among the entries that pass
pub some_passes : {J R : Type 0} (cmp : J → J → Ordering) (passes : R → Bool) (key : J) (row : R) (es : List (J × R))
    → find cmp key es ≡ Some row → passes row ≡ true → list_any (λ e. passes e.1) es ≡ true
some_passes cmp passes key row [] is passed = absurd (not_None row is)
some_passes cmp passes key row (e ∷ es) is passed =
    let rest = list_any (λ e. passes e.1) es in
    elim (eq_by_cmp cmp key e.0) as (λ b. cond b (Some e.1) (find cmp key es) ≡ Some row → (passes e.1 || rest) ≡ true) [
      | true ↦ λ found. ap (λ b. b || rest) (ap passes (ap (λ o. unwrap_or o row) found) ∙ passed)
      | false ↦ λ found. elim (passes e.1) as (λ b. (b || rest) ≡ true) [
        | true ↦ refl
        | false ↦ some_passes cmp passes key row es found passed
      ]
    ] is
