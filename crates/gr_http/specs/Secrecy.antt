-- What replies and responses reveal of a vote before it is closed (Constitution, 4.2.3): nothing of its ballots,
-- neither what they say nor whose they are.
use Rattle.std.specs.Prelude.{◌≡◌, ℕ, ⊤, ◌⊎◌, List, [], ◌∷◌, ◌++◌, Option, Some, None, Ok}
use Rattle.std.specs.FinMap.{get}
use Rattle.gr_core.specs.Desks.State.{State}
use Rattle.gr_core.specs.Desks.Valid.{IsValid}
use Rattle.gr_core.specs.Machine.Act.{Act}
use Rattle.gr_core.specs.Machine.Refusal.{IsAccepted}
use Rattle.gr_core.specs.Laws.Secrecy.{AreAlike, ClosesTheSame}
use Rattle.gr_store.specs.declared.fault.Fault.{Fault}
use Rattle.gr_store.specs.declared.fault.Fault.TheVariants.{Memory}
use Rattle.gr_store.specs.Faults.{IsOfStore}
use Rattle.gr_http.specs.Demand.{Do}
use Rattle.gr_http.specs.Response.{Response, fault_response}
use Rattle.gr_http.specs.Answer.{Asks, IsReply, Responds}

-- two states that desks may have, and that have the same rows but for ballots of votes that are not closed
pub record AreAlikeDesks (s t : State) : Type 0 where
  pub one : IsValid s
  pub other : IsValid t
  pub alike : AreAlike s t

-- At this moment the bytes close no vote of the desk s, or one that has the same ballots on both desks.
abbrev pub CloseTheSame : State → State → ℕ → List ℕ → Type 0
CloseTheSame s t at bytes = (act : Act) → Asks bytes (Ok (Do act)) → IsAccepted s at act → ClosesTheSame s t act

-- Whatever bytes come, and when: what is right to reply on a desk is right on each that is alike to it. Since bytes
-- have one reply, it is the same reply. Both desks are alike after it too, unless it closes a vote of which they have
-- different ballots: that vote is then revealed.
abbrev pub RepliesRevealNothing : Type 0
RepliesRevealNothing = (s t : State) (at : ℕ) (bytes : List ℕ) (response : Response) (u : State)
    → AreAlikeDesks s t → IsReply s at bytes response u
    → (v : State) × IsReply t at bytes response v × IsValid u × IsValid v
    × (CloseTheSame s t at bytes → AreAlike u v)

-- ==== lists of requests

-- A desk with the state s replies so to requests one after the other, each with its moment and its bytes, and has the
-- state t after them.
abbrev pub Replies : State → List (ℕ × List ℕ) → List Response → State → Type 0
Replies s [] [] t = t ≡ s
Replies s (request ∷ requests) (response ∷ responses) t =
    (mid : State) × IsReply s request.0 request.1 response mid × Replies mid requests responses t
Replies s [] (response ∷ responses) t = ⊥
Replies s (request ∷ requests) [] t = ⊥

-- Each of these requests closes no vote, or one that has the same ballots on both desks at that moment: on the desks
-- that the same replies to the requests before it have left.
abbrev pub AllCloseTheSame : State → State → List (ℕ × List ℕ) → Type 0
AllCloseTheSame s t requests =
    (before after : List (ℕ × List ℕ)) (at : ℕ) (bytes : List ℕ) (responses : List Response) (u v : State)
    → requests ≡ before ++ (at, bytes) ∷ after → Replies s before responses u → Replies t before responses v
    → CloseTheSame u v at bytes

-- Nor do all the replies to a list of requests reveal anything, as long as it closes no vote of which the two desks
-- have different ballots by then.
abbrev pub ListsOfRepliesRevealNothing : Type 0
ListsOfRepliesRevealNothing = (s t : State) (requests : List (ℕ × List ℕ)) (responses : List Response) (u : State)
    → AreAlikeDesks s t → AllCloseTheSame s t requests → Replies s requests responses u
    → (v : State) × Replies t requests responses v × AreAlikeDesks u v

-- both desks have the same ballots on the resolution
abbrev pub HaveTheSameBallots : State → State → ℕ → Type 0
HaveTheSameBallots s t resolution =
    (login : List ℕ) → get t.ballots (resolution, login) ≡ get s.ballots (resolution, login)

-- Where two desks reply the same to requests, ballots on a resolution that were the same stay the same: so a vote of
-- which both had the same ballots before the list has them when the list closes it.
abbrev pub SameBallotsStayTheSame : Type 0
SameBallotsStayTheSame = (s t : State) (requests : List (ℕ × List ℕ)) (responses : List Response) (u v : State)
    (resolution : ℕ)
    → Replies s requests responses u → Replies t requests responses v → HaveTheSameBallots s t resolution
    → HaveTheSameBallots u v resolution

-- ==== offices

-- The fault that comes in place of a reply, and what it leaves of the office: running out of memory, with the desk as
-- it was; or, where an act that no refusal meets was being carried out, running out of memory or another failure of
-- the database, which closes the office.
abbrev pub MayComeInstead : Fault → State → ℕ → List ℕ → Option State → Type 0
MayComeInstead fault s at bytes after =
    ((fault ≡ Memory) × (after ≡ Some s))
    ⊎ ((act : Act) × Asks bytes (Ok (Do act)) × IsAccepted s at act × IsOfStore fault × (after ≡ None))

-- An open office responds the reply of its desk, and has the desk after it; or the line of a fault.
abbrev pub ResponsesAreRepliesOrFaults : Type 0
ResponsesAreRepliesOrFaults = (s : State) (at : ℕ) (bytes : List ℕ) (response : Response) (after : Option State)
    → Responds (Some s) at bytes response after
    → ((t : State) × IsReply s at bytes response t × (after ≡ Some t))
    ⊎ ((fault : Fault) × (response ≡ fault_response fault) × MayComeInstead fault s at bytes after)

-- both offices, by their desks, are closed, or their desks are alike
abbrev pub AreAlikeOffices : Option State → Option State → Type 0
AreAlikeOffices (Some s) (Some t) = AreAlikeDesks s t
AreAlikeOffices None None = ⊤
AreAlikeOffices (Some s) None = ⊥
AreAlikeOffices None (Some t) = ⊥

-- This response, which an office with this desk may give to the bytes at this moment, reveals nothing of votes that are
-- not closed. An open office whose desk is alike may give it too. Both offices are alike after it, unless a vote was
-- closed of which they have different ballots: that vote is then revealed.
abbrev pub RevealsNothing : Option State → ℕ → List ℕ → Response → Option State → Type 0
RevealsNothing (Some s) at bytes response after =
    (t : State) → AreAlikeDesks s t
    → (other : Option State) × Responds (Some t) at bytes response other
    × (CloseTheSame s t at bytes → AreAlikeOffices after other)
RevealsNothing None at bytes response after = ⊤

-- Nor do responses with their faults reveal anything, be it a reply or the line of a fault.
abbrev pub ResponsesRevealNothing : Type 0
ResponsesRevealNothing = (before : Option State) (at : ℕ) (bytes : List ℕ) (response : Response) (after : Option State)
    → Responds before at bytes response after → RevealsNothing before at bytes response after
