-- What connections that come one after the other bring, and how they end.
use Rattle.std.specs.Prelude.{◌≡◌, ℕ, ◌<◌, ⊤, List, [], ◌∷◌, ◌++◌, length, take, Option, Some, None}
use Rattle.gr_http.specs.Reads.{AreNeeded}
use Rattle.gr_http.specs.Request.{HasRequest}

-- how a connection ended: what each read of it brought, what it was told, and how many of its reads and writes failed
pub record Ended : Type 0 where
  pub calls : List (List ℕ)
  pub told : List ℕ
  pub failed_reads : ℕ
  pub failed_writes : ℕ

-- Where it is known what the connections to come bring, there is a next one, which brought these bytes, and those
-- after it are to come.
abbrev pub Brings : Option (List (List ℕ)) → Option (List (List ℕ)) → Option (List ℕ) → Type 0
Brings None left bytes = ⊤
Brings (Some []) left bytes = ⊥
Brings (Some (next ∷ behind)) left bytes = (bytes ≡ Some next) × (left ≡ Some behind)

-- where it is known how the connections so far ended, it is known of one more that there is nothing yet of this: of
-- what was read, call by call, or of what was written
abbrev pub IsFresh : {A : Type 0} → Option (List Ended) → Option (List A) → Type 0
IsFresh None had = ⊤
IsFresh (Some ended) had = had ≡ Some []

-- Where it is known how the connections so far ended, it is known of one more: its reads brought what was taken, it was
-- told what was written, and so many of its reads and writes failed.
abbrev pub Ends : Option (List Ended) → Option (List Ended) → Option (List (List ℕ)) → Option (List ℕ) → ℕ → ℕ → Type 0
Ends None new taken written reads writes = ⊤
Ends (Some old) new None written reads writes = ⊥
Ends (Some old) new (Some calls) None reads writes = ⊥
Ends (Some old) new (Some calls) (Some told) reads writes =
    new ≡ Some (old ++ record { calls = calls; told = told; failed_reads = reads; failed_writes = writes } ∷ [])

-- one more connection ended so, and each read of it was needed for a request
abbrev pub EndsNeeded : Option (List Ended) → Option (List Ended) → List ℕ → ℕ → ℕ → Type 0
EndsNeeded old new told reads writes =
    (calls : List (List ℕ)) × AreNeeded HasRequest [] calls × Ends old new (Some calls) (Some told) reads writes

-- one more connection was told these bytes, whole, and nothing failed
abbrev pub EndsTold : Option (List Ended) → Option (List Ended) → List ℕ → Type 0
EndsTold old new bytes = EndsNeeded old new bytes 0 0

-- one more connection was told a beginning of these bytes, and then a write failed
abbrev pub EndsCutOff : Option (List Ended) → Option (List Ended) → List ℕ → Type 0
EndsCutOff old new bytes = (n : ℕ) × (n < length bytes) × EndsNeeded old new (take n bytes) 0 1

-- one more connection was told nothing, since a read failed
abbrev pub EndsUnread : Option (List Ended) → Option (List Ended) → Type 0
EndsUnread old new = EndsNeeded old new [] 1 0
