-- Transitive defeats. Constitution, A.5.5.1.
use Rattle.std.specs.Prelude.{◌≡◌, ℕ, ◌-◌, ◌≤◌, List, [], ◌∷◌, length, slice_get, Some}

-- the relation holds from each option of the list to the one after it
abbrev pub IsChain : (ℕ → ℕ → Type 0) → List ℕ → Type 0
IsChain R [] = Unit {0}
IsChain R (a ∷ []) = Unit {0}
IsChain R (a ∷ b ∷ rest) = R a b × IsChain R (b ∷ rest)

-- A path from a to c, of whatever length: a list of at least two options that begins with a and ends with c, with the
-- relation from each to the next.
pub record IsPath (R : ℕ → ℕ → Type 0) (a c : ℕ) (path : List ℕ) : Type 0 where
  pub two_or_more : 2 ≤ length path
  pub first : slice_get path 0 ≡ Some a
  pub last : slice_get path (length path - 1) ≡ Some c
  pub neighbours : IsChain R path

-- C is transitively defeated by A where these defeats make a path from A to C (Constitution, A.5.5.1).
pub record TransitivelyDefeats (R : ℕ → ℕ → Type 0) (a c : ℕ) : Type 0 where
  pub path : List ℕ
  pub leads : IsPath R a c path
