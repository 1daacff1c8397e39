-- Texts that grow line by line.
use Rattle.std.proofs.Common.{◌≡◌, ℕ, Bool, true, false, cond, List, [], ◌∷◌, ◌++◌, map, Result, Ok, Err, OnOk, refl, sym, ap, ◌∙◌}
use Rattle.std.specs.Prelude.{filter}
use Rattle.std.specs.List.{flat_map}
use Rattle.std.proofs.lemmas.List.{append_assoc, append-nil}

-- two texts were added, one after the other
pub then : (old one other : List ℕ) {mid new : List ℕ} → mid ≡ old ++ one → new ≡ mid ++ other → new ≡ old ++ (one ++ other)
then old one other first second = second ∙ ap (λ text. text ++ other) first ∙ append_assoc old one other

-- the lines of the elements that pass a test are a line for each element, which is empty where it does not pass
pub flat_map-filter : {X : Type 0} (line : X → List ℕ) (passes : X → Bool) (xs : List X)
    → flat_map (λ x. cond (passes x) (line x) []) xs ≡ flat_map line (filter passes xs)
flat_map-filter line passes [] = refl
flat_map-filter line passes (x ∷ xs) =
    elim (passes x) as (λ b. cond b (line x) [] ++ flat_map (λ y. cond (passes y) (line y) []) xs
    ≡ flat_map line (cond b (x ∷ filter passes xs) (filter passes xs))) [
      | true ↦ ap (λ text. line x ++ text) (flat_map-filter line passes xs)
      | false ↦ flat_map-filter line passes xs
    ]

-- the lines of what a list is mapped to
pub flat_map-map : {X Y : Type 0} (line : Y → List ℕ) (f : X → Y) (xs : List X) → flat_map line (map f xs) ≡ flat_map (λ x. line (f x)) xs
flat_map-map line f [] = refl
flat_map-map line f (x ∷ xs) = ap (λ text. line (f x) ++ text) (flat_map-map line f xs)

-- what follows from what a call leaves where it succeeds
pub on_ok_then : {A E : Type 0} {P Q : Type 0} (result : Result A E) → (P → Q) → OnOk result P → OnOk result Q
on_ok_then (Ok value) follows is = follows is
on_ok_then (Err error) follows is = tt

-- the last text of several was added
pub last : (old one : List ℕ) {new : List ℕ} → new ≡ old ++ one → new ≡ old ++ (one ++ [])
last old one is = is ∙ ap (λ text. old ++ text) (sym (append-nil one))

-- an item was added, and those after it are left
pub grown : (text item rest : List ℕ) {new whole : List ℕ} → new ≡ text ++ item → text ++ (item ++ rest) ≡ whole → new ++ rest ≡ whole
grown text item rest added so_far = ap (λ t. t ++ rest) added ∙ append_assoc text item rest ∙ so_far
