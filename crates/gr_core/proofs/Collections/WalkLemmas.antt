-- A walk over a table or a list: what it has shown so far, the item of this turn, and what is left.
use Rattle.std.proofs.Common.{◌≡◌, ℕ, suc, ◌+◌, List, [], ◌∷◌, ◌++◌, map, length, take, Option, Some, refl, sym, ap, ◌∙◌, arith}
use Rattle.std.specs.List.{All, AllByRecursion}
use Rattle.std.specs.Iterator.{Yields}
use Rattle.std.specs.Map.Iter.{TakesFirst}
use Rattle.std.proofs.lemmas.List.{map-append}
use Rattle.std.proofs.lemmas.List.Elements.{All-from_recursion, All-head, All-tail}
use Rattle.std.proofs.lemmas.Map.Iter.{rest_so_far, rest_more}
use Rattle.std.proofs.lemmas.Simd.{map-map}

-- what holds of each element holds of one in the middle
pub all-middle : {A : Type 0} (P : A → Type 0) (xs : List A) (y : A) (ys : List A) → All P (xs ++ y ∷ ys) → P y
all-middle P [] y ys h = All-head P y ys h
all-middle P (x ∷ xs) y ys h = all-middle P xs y ys (All-tail P x (xs ++ y ∷ ys) h)

mapped-each : {A B : Type 0} (P : B → Type 0) (f : A → B) (xs : List A) → All P (map f xs)
    → AllByRecursion (λ x. P (f x)) xs
mapped-each P f [] h = tt
mapped-each P f (x ∷ xs) h = (All-head P (f x) (map f xs) h, mapped-each P f xs (All-tail P (f x) (map f xs) h))

-- what holds of each element of a mapped list holds of each element as it is mapped
pub all-mapped : {A B : Type 0} (P : B → Type 0) (f : A → B) (xs : List A) → All P (map f xs) → All (λ x. P (f x)) xs
all-mapped P f xs h = All-from_recursion (λ x. P (f x)) xs (mapped-each P f xs h)

-- a walk over a table shows what it has shown so far, the item of this turn, and what is left
pub walk-here : {A X : Type 0} (shows : A → X) (all : List X) (xs : List A) (s t u : List X) (r : Option A)
    → s ≡ all → Yields (TakesFirst shows) s xs t → (x : A) → r ≡ Some x → TakesFirst shows t r u
    → all ≡ map shows xs ++ shows x ∷ u
walk-here shows all xs s t u r start yielded x is step =
    sym start ∙ rest_so_far shows xs s t yielded
    ∙ ap (λ rest. map shows xs ++ rest) (rest_more shows t u r x is step)

-- and so it is with a row of each
pub walk-split : {A X Y : Type 0} (shows : A → X) (row_of : X → Y) (all : List X) (xs : List A) (s t u : List X)
    (r : Option A) → s ≡ all → Yields (TakesFirst shows) s xs t → (x : A) → r ≡ Some x → TakesFirst shows t r u
    → map row_of all ≡ map (λ item. row_of (shows item)) xs ++ row_of (shows x) ∷ map row_of u
walk-split shows row_of all xs s t u r start yielded x is step =
    ap (map row_of) (walk-here shows all xs s t u r start yielded x is step)
    ∙ map-append row_of (map shows xs) (shows x ∷ u)
    ∙ ap (λ rows. rows ++ row_of (shows x) ∷ map row_of u) (map-map row_of shows xs)

-- an element that shows what a walk shows in a turn, with those before it and those after it
pub record Turn {X Y : Type 0} (shows : X → Y) (all : List X) (turn : ℕ) (item : Y) : Type 0 where
  pub element : X
  pub behind : List X
  pub split : all ≡ take turn all ++ element ∷ behind
  pub is : shows element ≡ item
  pub next : take (turn + 1) all ≡ take turn all ++ element ∷ []

-- the element that a walk over what a list shows has come to
pub turn_of : {X Y : Type 0} (shows : X → Y) (all : List X) (xs : List Y) (y : Y) (ys : List Y)
    → map shows all ≡ xs ++ y ∷ ys → Turn shows all (length xs) y
turn_of shows [] [] y ys e = absurd (cc)
turn_of shows [] (x ∷ xs) y ys e = absurd (cc)
turn_of shows (first ∷ all) [] y ys e = record { element = first; behind = all; split = refl; is = cc; next = refl }
turn_of shows (first ∷ all) (x ∷ xs) y ys e =
    let later = turn_of shows all xs y ys (cc) in record {
      element = later.element;
      behind = later.behind;
      split = ap (λ rest. first ∷ rest) later.split;
      is = later.is;
      next =
          ap (λ n. take n (first ∷ all)) (let same : suc (length xs) + 1 ≡ suc (length xs + 1) = omega arith in same)
          ∙ ap (λ rest. first ∷ rest) later.next;
    }
