-- What is answered where the routes were not made.
use Rattle.std.proofs.Common.{ℕ, inr, List, [], Option, Some, None, Result, Ok, Err, refl, sym, append-nil}
use Rattle.std.specs.Prelude.{IfSome, IfOk, IfErr}
use Rattle.gr_core.specs.Desks.State.{State}
use Rattle.gr_store.specs.declared.fault.Fault.TheVariants.{Memory}
use Rattle.gr_office.specs.Office.{Office}
use Rattle.gr_office.specs.History.{Fate}
use Rattle.gr_http.specs.Reads.{Reads, AreNeeded}
use Rattle.gr_http.specs.Request.{HasRequest}
use Rattle.gr_http.specs.Response.{fault_response}
use Rattle.gr_http.specs.Answer.{Responds}
use Rattle.gr_http.specs.Fates.{RequestMakes}
use Rattle.gr_http.specs.Secrecy.{RevealsNothing, ResponsesRevealNothing}
use Rattle.sqlite_trees.specs.declared.store.Store.{Ghosts}

pub IfOk-map : {A E : Type 0} {P Q : A → Type 0} (r : Result A E) → ((x : A) → P x → Q x) → IfOk r P → IfOk r Q
IfOk-map (Ok x) f p = f x p
IfOk-map (Err e) f p = tt

pub IfErr-map : {A E : Type 0} {P Q : E → Type 0} (r : Result A E) → ((e : E) → P e → Q e) → IfErr r P → IfErr r Q
IfErr-map (Ok x) f p = tt
IfErr-map (Err e) f p = f e p

-- what is so of every error is so of the one that is told
pub IfErr-all : {A E : Type 0} {P : E → Type 0} (r : Result A E) → ((e : E) → P e) → IfErr r P
IfErr-all (Ok x) each = tt
IfErr-all (Err e) each = each e

pub memory_after : (coming : Option (List ℕ)) (desk : Option State) (at : ℕ)
    → IfSome coming (λ bytes. Responds desk at bytes (fault_response Memory) desk)
memory_after None desk at = tt
memory_after (Some bytes) desk at = inr (refl, refl)

pub memory_makes : {S : Type 0} (g : Ghosts S) (office : Office S) (at : ℕ) (coming : Option (List ℕ)) (delivery : Fate → Fate)
    → RequestMakes g office at coming (fault_response Memory) delivery office
memory_makes g office at coming delivery = inr (refl, refl)

pub memory_reveals : ResponsesRevealNothing → (coming : Option (List ℕ)) (desk : Option State) (at : ℕ)
    → IfSome coming (λ bytes. RevealsNothing desk at bytes (fault_response Memory) desk)
memory_reveals law None desk at = tt
memory_reveals law (Some bytes) desk at = law desk at bytes (fault_response Memory) desk (inr (refl, refl))

-- no read at all
pub reads_none : (taken : Option (List (List ℕ))) → Reads taken taken (AreNeeded HasRequest [])
reads_none None = tt
reads_none (Some old) = ([], sym (append-nil old), tt)
