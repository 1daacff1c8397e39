-- Which reads are needed: those that are made before there is enough.
use Rattle.std.specs.Prelude.{◌≡◌, ℕ, ◌≤◌, ⊤, List, [], ◌∷◌, ◌++◌, length, take, Option, Some, None, Result, MatchResult}
use Rattle.std.specs.List.{concat}

-- where the input tells what its calls of `take` brought, there was one more, which brought this
abbrev pub Takes : Option (List (List ℕ)) → Option (List (List ℕ)) → List ℕ → Type 0
Takes None new call = ⊤
Takes (Some old) None call = ⊥
Takes (Some old) (Some new) call = new ≡ old ++ call ∷ []

-- A read with this answer brought its bytes, by the buffer after it. At the end of the input, and where it failed, it
-- brought none.
abbrev pub TakesBytes : {E : Type 0} → Option (List (List ℕ)) → Option (List (List ℕ)) → Result ℕ E → List ℕ → Type 0
TakesBytes old new r buffer = MatchResult r (λ n. Takes old new (take n buffer)) (λ _. Takes old new [])

-- Where the input tells what its calls of `take` brought, there were further ones, of which this holds.
abbrev pub Reads : Option (List (List ℕ)) → Option (List (List ℕ)) → (List (List ℕ) → Type 0) → Type 0
Reads None new Are = ⊤
Reads (Some old) None Are = ⊥
Reads (Some old) (Some new) Are = (calls : List (List ℕ)) × (new ≡ old ++ calls) × Are calls

-- Each of these calls was needed: when it was made the bytes that there were, these and what the calls before it had
-- brought, were not enough.
abbrev pub AreNeeded : (List ℕ → Type 0) → List ℕ → List (List ℕ) → Type 0
AreNeeded AreEnough bytes [] = ⊤
AreNeeded AreEnough bytes (call ∷ calls) = ¬ AreEnough bytes × AreNeeded AreEnough (bytes ++ call) calls

-- each of these calls was needed from the first one on, and they brought these bytes
abbrev pub Brought : (List ℕ → Type 0) → List ℕ → List (List ℕ) → Type 0
Brought AreEnough bytes calls = AreNeeded AreEnough [] calls × (concat calls ≡ bytes)

-- there are so many bytes
abbrev pub AreSoMany : ℕ → List ℕ → Type 0
AreSoMany count bytes = count ≤ length bytes
