-- Lists: where an element stands, and tests of mapped lists.
use Rattle.std.proofs.Common.{◌≡◌, ◌<◌, ◌⊎◌, inl, inr, Bool, List, [], ◌∷◌, ◌++◌, map, length, refl, ap, arith}
use Rattle.std.specs.Prelude.{◌||◌}
use Rattle.std.specs.List.{AllByRecursion, list_any}

pub nothing_behind : {A : Type 0} (xs : List A) (x : A) (ys : List A) → [] ≡ xs ++ x ∷ ys → ⊥
nothing_behind [] x ys e = cc
nothing_behind (z ∷ xs) x ys e = cc

-- where a list and one more element are split, that element is the one, or it stands after it
pub split_last : {A : Type 0} (xs : List A) (x : A) (os : List A) (y : A) (ls : List A) → xs ++ x ∷ [] ≡ os ++ y ∷ ls
    → ((os ≡ xs) × (y ≡ x)) ⊎ ((rest : List A) × (xs ≡ os ++ y ∷ rest))
split_last [] x [] y ls e = inl (refl, cc)
split_last (z ∷ xs) x [] y ls e = inr (xs, cc)
split_last [] x (o ∷ os) y ls e = absurd (nothing_behind os y ls cc)
split_last (z ∷ xs) x (o ∷ os) y ls e =
    let heads : z ≡ o = cc in
    elim (split_last xs x os y ls (cc)) [
      | inl same ↦ inl (cc, same.1)
      | inr behind ↦ inr (behind.0, (let tails = behind.1 in cc))
    ]

-- a list that is split in two ways, of which one is nearer to its front
pub shorter_split : {A : Type 0} (os : List A) (x : A) (xs ps : List A) (y : A) (ys : List A) → os ++ x ∷ xs ≡ ps ++ y ∷ ys → length os < length ps
    → (rest : List A) × (ps ≡ os ++ x ∷ rest)
shorter_split os x xs [] y ys e less = absurd (omega arith)
shorter_split [] x xs (p ∷ ps) y ys e less = (ps, cc)
shorter_split (o ∷ os) x xs (p ∷ ps) y ys e less =
    let shorter : length os < length ps = omega arith in
    let rest = shorter_split os x xs ps y ys (cc) shorter in
    let heads : o ≡ p = cc in
    (rest.0, (let tails = rest.1 in cc))

-- a test of each element of a mapped list
pub list_any-map : {A B : Type 0} (f : A → B) (test : B → Bool) (xs : List A) → list_any (λ x. test (f x)) xs ≡ list_any test (map f xs)
list_any-map f test [] = refl
list_any-map f test (x ∷ xs) = ap (λ b. test (f x) || b) (list_any-map f test xs)

-- what holds of each element of two lists holds of each element of both
pub all-append : {A : Type 0} (P : A → Type 0) (xs ys : List A) → AllByRecursion P xs → AllByRecursion P ys
    → AllByRecursion P (xs ++ ys)
all-append P [] ys first then = then
all-append P (x ∷ xs) ys first then = (first.0, all-append P xs ys first.1 then)

-- a fact that follows for each element
pub each_more : {A : Type 0} (P Q : A → Type 0) → ((x : A) → P x → Q x) → (xs : List A) → AllByRecursion P xs
    → AllByRecursion Q xs
each_more P Q more [] h = tt
each_more P Q more (x ∷ xs) h = (more x h.0, each_more P Q more xs h.1)
