-- A loop that relates options through a middle one, and what it leaves when each option was the middle.
use Rattle.std.proofs.Common.{◌≡◌, ℕ, ◌+◌, ◌<◌, ◌≤◌, ◌⊎◌, ◌↔◌, length, inl, inr, arith, below_more}
use Rattle.gr_count.specs.declared.relation.Relation.{Relation}
use Rattle.gr_count.specs.Path.{TransitivelyDefeats}
use Rattle.gr_count.specs.Options.{Related, related_to}
use Rattle.gr_count.proofs.Paths.{one_step, two_paths, reach}

-- related, or so by way of a middle
abbrev pub IsJoined : (ℕ → ℕ → Type 0) → ℕ → ℕ → ℕ → Type 0
IsJoined R middle a b = R a b ⊎ (R a middle × R middle b)

-- of n rows those below i are joined, and the others are as before
pub record IsJoinedUpTo (n : ℕ) (old new : Relation) (middle i : ℕ) : Type 0 where
  pub room : length new.rows ≡ n
  pub front : (a b : ℕ) → a < i → Related new a b ↔ IsJoined (Related old) middle a b
  pub rest : (a : ℕ) → i ≤ a → related_to new a ≡ related_to old a

-- each option was the middle, up to k: what is related is a path, the defeats are among it, and what is related by way
-- of an option below k is related
pub record IsClosedUpTo (R C : ℕ → ℕ → Type 0) (k : ℕ) : Type 0 where
  pub sound : (a c : ℕ) → C a c → TransitivelyDefeats R a c
  pub begins : (a c : ℕ) → R a c → C a c
  pub joins : (a b c : ℕ) → b < k → C a b → C b c → C a c

pub IsClosedUpTo-none : (R : ℕ → ℕ → Type 0) → IsClosedUpTo R R 0
IsClosedUpTo-none R = record {
  sound = one_step R;
  begins = λ a c r. r;
  joins = λ a b c below. absurd (omega arith);
}

module _ (R C D : ℕ → ℕ → Type 0) (k : ℕ) (so_far : IsClosedUpTo R C k) (joined : (a b : ℕ) → D a b ↔ IsJoined C k a b) where
  -- nothing new leads to the middle, or away from it
  to_middle : (a : ℕ) → D a k → C a k
  to_middle a way = elim ((joined a k).0 way) as (λ _. C a k) [ inl r ↦ r | inr r ↦ r.0 ]

  from_middle : (c : ℕ) → D k c → C k c
  from_middle c way = elim ((joined k c).0 way) as (λ _. C k c) [ inl r ↦ r | inr r ↦ r.1 ]

  through : (a b c : ℕ) → b < k → D a b → D b c → D a c
  through a b c below one other =
      elim ((joined a b).0 one) as (λ _. D a c) [
        | inl first ↦ elim ((joined b c).0 other) as (λ _. D a c) [
          | inl second ↦ (joined a c).1 (inl (so_far.joins a b c below first second))
          | inr second ↦ (joined a c).1 (inr (so_far.joins a b k below first second.0, second.1))
        ]
        | inr first ↦ elim ((joined b c).0 other) as (λ _. D a c) [
          | inl second ↦ (joined a c).1 (inr (first.0, so_far.joins k b c below first.1 second))
          | inr second ↦ (joined a c).1 (inr (first.0, second.1))
        ]
      ]

  pub IsClosedUpTo-more : IsClosedUpTo R D (k + 1)
  IsClosedUpTo-more = record {
    sound = λ a c way. elim ((joined a c).0 way) as (λ _. TransitivelyDefeats R a c) [
      | inl r ↦ so_far.sound a c r
      | inr r ↦ two_paths R a k c (so_far.sound a k r.0) (so_far.sound k c r.1)
    ];
    begins = λ a c r. (joined a c).1 (inl (so_far.begins a c r));
    joins = λ a b c h one other. below_more (λ x. D a x → D x c → D a c) k (λ x below. through a x c below)
        (λ first second. (joined a c).1 (inr (to_middle a first, from_middle c second))) b h one other;
  }

-- where each option was the middle, the paths are all there
pub IsClosedUpTo-all : (n : ℕ) (R C : ℕ → ℕ → Type 0) → ((a b : ℕ) → R a b → (a < n) × (b < n)) → IsClosedUpTo R C n → (a c : ℕ) → C a c
    ↔ TransitivelyDefeats R a c
IsClosedUpTo-all n R C inside closed a c = (
  closed.sound a c,
  reach R (C a) a c (closed.begins a) (λ b d way r. closed.joins a b d (inside b d r).0 way (closed.begins b d r)),
)
