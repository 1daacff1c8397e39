-- What is known of a value that may be there.
use Rattle.std.proofs.Common.{◌≡◌, true, false, Option, Some, None, option_map, is_some, IsSome, IsSomeAnd, IfSome, refl, sym, ap, subst}

-- a value is not none
pub not_None : {A : Type 0} (x : A) → None ≡ Some x → ⊥
not_None x e = cc

-- two values of a test differ
pub not_false : false ≡ true → ⊥
not_false e = cc

-- the value, with what holds of it
pub taken : {A : Type 0} (o : Option A) (P : A → Type 0) → IsSomeAnd o P → (x : A) × (o ≡ Some x) × P x
taken None P h = absurd h
taken (Some x) P h = (x, refl, h)

-- the value, if there is one
pub present : {A : Type 0} (o : Option A) → IsSome o → (x : A) × (o ≡ Some x)
present None h = absurd (not_false h)
present (Some x) h = (x, refl)

-- where the absence of a value is refused, there is one
pub there : {A : Type 0} (o : Option A) → ¬ (o ≡ None) → (x : A) × (o ≡ Some x)
there None refused = absurd (refused refl)
there (Some x) refused = (x, refl)

-- what holds of the value of an option
pub given : {A : Type 0} (o : Option A) (P : A → Type 0) (x : A) → o ≡ Some x → P x → IsSomeAnd o P
given o P x is h = subst (λ found. IsSomeAnd found P) (sym is) h

-- what holds of an option holds of its value
pub of_value : {A : Type 0} (o : Option A) (P : A → Type 0) (x : A) → o ≡ Some x → IsSomeAnd o P → P x
of_value o P x is h = subst (λ found. IsSomeAnd found P) is h

-- an option with a value is some
pub is_given : {A : Type 0} (o : Option A) (x : A) → o ≡ Some x → IsSome o
is_given o x is = ap is_some is

-- what holds of each value, if there is one
pub each : {A : Type 0} (o : Option A) (P Q : A → Type 0) → ((x : A) → P x → Q x) → IfSome o P → IfSome o Q
each None P Q more h = tt
each (Some x) P Q more h = more x h

-- what follows from what holds of a value
pub IsSomeAnd-more : {A : Type 0} (o : Option A) (P Q : A → Type 0) → ((x : A) → P x → Q x) → IsSomeAnd o P
    → IsSomeAnd o Q
IsSomeAnd-more None P Q more h = h
IsSomeAnd-more (Some x) P Q more h = more x h

-- where one without a fact is refused, there is none or the fact holds
pub unless_refused : {A : Type 0} (o : Option A) (P Q : A → Type 0) → ((x : A) → ¬ (P x) → Q x) → ¬ (IsSomeAnd o P)
    → IfSome o Q
unless_refused None P Q holds refused = tt
unless_refused (Some x) P Q holds refused = holds x refused

-- a changed value comes from one that was there
pub unmapped : {A B : Type 0} (f : A → B) (o : Option A) (y : B) → option_map f o ≡ Some y
    → (x : A) × (o ≡ Some x) × (y ≡ f x)
unmapped f None y is = absurd (not_None y is)
unmapped f (Some x) y is = (x, refl, cc)

-- a change of a value makes none and takes none
pub is_some-mapped : {A B : Type 0} (f : A → B) (o : Option A) → is_some (option_map f o) ≡ is_some o
is_some-mapped f None = refl
is_some-mapped f (Some x) = refl

-- what is not there
pub absent : {A : Type 0} (o : Option A) → ¬ (IsSome o) → o ≡ None
absent None refused = refl
absent (Some x) refused = absurd (refused refl)
