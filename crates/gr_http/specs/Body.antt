-- What reading a request's body does.
use Rattle.std.specs.Prelude.{◌≡◌, ℕ, ◌<◌, ◌≤◌, Bool, true, false, List, length, take, Option}
use Rattle.std.specs.Io.KnownBytes.{Consumes, IsAtEnd}

-- the body has its length's first bytes, or fewer are there
abbrev pub TakesBody : List ℕ → List ℕ → Bool → Type 0
TakesBody bytes body true = (body ≡ take (length body) bytes) × (length body ≤ length bytes)
TakesBody bytes body false = length bytes < length body

-- the reads consumed the first n bytes of the buffer, and left it short only at the end of the input
pub record Fills (old new : Option (List ℕ)) (buffer : List ℕ) (n : ℕ) : Type 0 where
  pub fits : n ≤ length buffer
  pub consumed : Consumes old new (take n buffer)
  pub end : n < length buffer → IsAtEnd new
