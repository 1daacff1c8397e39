-- What a connection that is accepted, answered and ended brought, and how it ended.
use Rattle.std.proofs.Common.{◌≡◌, ℕ, List, [], Option, Some, None, sym, subst, append-nil}
use Rattle.std.specs.Io.KnownBytes.{Appends}
use Rattle.gr_http.specs.Reads.{Reads, AreNeeded}
use Rattle.gr_http.specs.Request.{HasRequest}
use Rattle.gr_http.specs.Door.{Ended, Brings, IsFresh, Ends, EndsNeeded}

pub brought : (old mid new : Option (List (List ℕ))) (bytes : Option (List ℕ)) → new ≡ mid → Brings old mid bytes → Brings old new bytes
brought old mid new bytes same came = subst (λ left. Brings old left bytes) (sym same) came

-- an output that is as it was got nothing more
pub appends_nothing : (old new : Option (List ℕ)) → new ≡ old → Appends old new []
appends_nothing None new same = tt
appends_nothing (Some bytes) new same = subst (λ o. Appends (Some bytes) o []) (sym same) (sym (append-nil bytes))

ended_known : (ended : List Ended) (new : Option (List Ended)) (taken : Option (List (List ℕ))) (written : Option (List ℕ)) (bytes : List ℕ)
    (reads writes : ℕ) → Reads (Some []) taken (AreNeeded HasRequest []) → Appends (Some []) written bytes
    → Ends (Some ended) new taken written reads writes → EndsNeeded (Some ended) new bytes reads writes
ended_known ended new None written bytes reads writes needed appends ends = absurd ends
ended_known ended new (Some calls) None bytes reads writes needed appends ends = absurd ends
ended_known ended new (Some calls) (Some told) bytes reads writes (found, is, needed) appends ends = (
  calls,
  subst (AreNeeded HasRequest []) (sym is) needed,
  subst (λ b. Ends (Some ended) new (Some calls) (Some b) reads writes) appends ends,
)

ended_from : (old new : Option (List Ended)) (unread taken : Option (List (List ℕ))) (begun written : Option (List ℕ)) (bytes : List ℕ)
    (reads writes : ℕ) → IsFresh old unread → IsFresh old begun → Reads unread taken (AreNeeded HasRequest []) → Appends begun written bytes
    → Ends old new taken written reads writes → EndsNeeded old new bytes reads writes
ended_from None new unread taken begun written bytes reads writes is_unread is_unwritten needed appends ends = ([], tt, tt)
ended_from (Some ended) new unread taken begun written bytes reads writes is_unread is_unwritten needed appends ends =
    ended_known ended new taken written bytes reads writes
    (subst (λ u. Reads u taken (AreNeeded HasRequest [])) is_unread needed)
    (subst (λ b. Appends b written bytes) is_unwritten appends) ends

-- the reads and the failures are those since the accept
pub ended_so : (old mid new : Option (List Ended)) (unread taken : Option (List (List ℕ))) (begun written : Option (List ℕ)) (bytes : List ℕ)
    (reads writes lost_reads lost_writes : ℕ) → mid ≡ old → IsFresh old unread × IsFresh old begun
    → Reads unread taken (AreNeeded HasRequest []) → Appends begun written bytes → reads ≡ lost_reads → writes ≡ lost_writes
    → Ends mid new taken written reads writes → EndsNeeded old new bytes lost_reads lost_writes
ended_so old mid new unread taken begun written bytes reads writes lost_reads lost_writes same fresh needed appends is_reads is_writes ends =
    ended_from old new unread taken begun written bytes lost_reads lost_writes fresh.0 fresh.1 needed appends
    (subst (λ m. Ends m new taken written lost_reads lost_writes) same
    (subst (λ r. Ends mid new taken written r lost_writes) is_reads (subst (λ w. Ends mid new taken written reads w) is_writes ends)))
