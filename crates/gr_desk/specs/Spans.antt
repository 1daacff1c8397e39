-- What comes one after the other, as the moments of a clock do, and the spans that reads are given.
use Rattle.std.specs.Prelude.{◌≡◌, ⊤, List, [], ◌∷◌, ◌++◌, Option, Some, None}

-- where it is known what came so far, this came next
abbrev pub ComesNext : {A : Type 0} → Option (List A) → Option (List A) → A → Type 0
ComesNext None new next = ⊤
ComesNext (Some old) None next = ⊥
ComesNext (Some old) (Some new) next = new ≡ old ++ next ∷ []
