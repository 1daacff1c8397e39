-- A loop that fills a list from its front.
use Rattle.std.proofs.Common.{◌≡◌, ◌≢◌, ℕ, zero, suc, ◌+◌, ◌<◌, ◌≤◌, List, length, get_or, set, arith, below_more, get_or-set_other, get_or-set_same, length-set, replicate, subst}
use Rattle.std.proofs.lemmas.List.{length-replicate}

-- of n elements those below i are right, and the others are still blank, as what stands past the end is
pub record IsFilled {X : Type 0} (Right : ℕ → X → Type 0) (Blank : X → Type 0) (n : ℕ) (d : X) (xs : List X) (i : ℕ) : Type 0 where
  pub room : length xs ≡ n
  pub front : (a : ℕ) → a < i → Right a (get_or xs a d)
  pub rest : (a : ℕ) → i ≤ a → Blank (get_or xs a d)

-- each of n copies is blank
pub Blank-replicate : {X : Type 0} (Blank : X → Type 0) (x d : X) → Blank x → Blank d → (n a : ℕ) → Blank (get_or (replicate n x) a d)
Blank-replicate Blank x d blank past zero a = past
Blank-replicate Blank x d blank past (suc n) zero = blank
Blank-replicate Blank x d blank past (suc n) (suc a) = Blank-replicate Blank x d blank past n a

-- the loop begins with blank copies
pub IsFilled-none : {X : Type 0} (Right : ℕ → X → Type 0) (Blank : X → Type 0) (n : ℕ) (x d : X) → Blank x → Blank d
    → IsFilled Right Blank n d (replicate n x) 0
IsFilled-none Right Blank n x d blank past = record {
  room = length-replicate n x;
  front = λ a h. absurd (omega arith);
  rest = λ a h. Blank-replicate Blank x d blank past n a;
}

-- one more element is right
pub IsFilled-more : {X : Type 0} (Right : ℕ → X → Type 0) (Blank : X → Type 0) (n : ℕ) (d : X) (xs : List X) (i : ℕ) (v : X)
    → IsFilled Right Blank n d xs i → i < n → Right i v → IsFilled Right Blank n d (set xs i v) (i + 1)
IsFilled-more Right Blank n d xs i v so_far inside here =
    let room : length xs ≡ n = so_far.room in
    let within : i < length xs = omega arith in
    record {
      room = rw length-set room;
      front = below_more (λ a. Right a (get_or (set xs i v) a d)) i
          (λ a h. let ne : a ≢ i = omega arith in rw get_or-set_other (so_far.front a h))
          (rw get_or-set_same here);
      rest = λ a h. let ne : a ≢ i = omega arith in rw get_or-set_other (so_far.rest a (omega arith));
    }

-- of n elements those below i are made of the old ones, and the others are the old ones
pub record IsUpdated {X : Type 0} (Made : ℕ → X → X → Type 0) (n : ℕ) (d : X) (old new : List X) (i : ℕ) : Type 0 where
  pub room : length new ≡ n
  pub front : (a : ℕ) → a < i → Made a (get_or old a d) (get_or new a d)
  pub rest : (a : ℕ) → i ≤ a → get_or new a d ≡ get_or old a d

-- one more element is made of the old one
pub IsUpdated-more : {X : Type 0} (Made : ℕ → X → X → Type 0) (n : ℕ) (d : X) (old new : List X) (i : ℕ) (v : X) → IsUpdated Made n d old new i → i < n
    → Made i (get_or new i d) v → IsUpdated Made n d old (set new i v) (i + 1)
IsUpdated-more Made n d old new i v so_far inside here =
    let room : length new ≡ n = so_far.room in
    let within : i < length new = omega arith in
    let made : Made i (get_or old i d) v = subst (λ x. Made i x v) (so_far.rest i (omega arith)) here in
    record {
      room = rw length-set room;
      front = below_more (λ a. Made a (get_or old a d) (get_or (set new i v) a d)) i
          (λ a h. let ne : a ≢ i = omega arith in rw get_or-set_other (so_far.front a h))
          (rw get_or-set_same made);
      rest = λ a h. let ne : a ≢ i = omega arith in rw get_or-set_other (so_far.rest a (omega arith));
    }
