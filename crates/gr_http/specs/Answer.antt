-- What is answered to bytes (this project's profile). Bytes ask a demand; a desk answers a demand, and an office
-- handles it, with its faults; so a desk has a reply to bytes, and an office responds to them. Of an office this speaks
-- by its desk, which is `None` once a fault has closed it.
use Rattle.std.specs.Prelude.{◌≡◌, ℕ, ◌⊎◌, Bool, true, false, List, Option, Some, None, Result, Ok, Err, codes}
use Rattle.gr_core.specs.Desks.State.{State}
use Rattle.gr_core.specs.Machine.Refusal.{IsAccepted}
use Rattle.gr_core.specs.Machine.Step.{Answer, Step}
use Rattle.gr_store.specs.declared.fault.Fault.{Fault}
use Rattle.gr_store.specs.declared.fault.Fault.TheVariants.{Memory, Closed}
use Rattle.gr_store.specs.Faults.{IsOfStore}
use Rattle.gr_http.specs.declared.problem.Problem.{Problem}
use Rattle.gr_http.specs.declared.answer.Served.{Served}
use Rattle.gr_http.specs.declared.answer.Lost.{Lost}
use Rattle.gr_http.specs.declared.answer.Lost.TheVariants.{Read, Write}
use Rattle.gr_http.specs.Request.{Texts, IsReceived}
use Rattle.gr_http.specs.Demand.{Demand, Do, Show, demand_of}
use Rattle.gr_http.specs.Response.{Response, problem_response, answer_response, IsSheetResponse, fault_response}

-- the bytes up to their end ask this
abbrev pub Asks : List ℕ → Result Demand Problem → Type 0
Asks bytes asked = (received : Result Texts Problem) × IsReceived bytes received × (asked ≡ demand_of received)

-- A desk with the state s answers this so at this moment, and has the state t after it.
abbrev pub Answers : State → ℕ → Result Demand Problem → Response → State → Type 0
Answers s at (Err problem) response t = (response ≡ problem_response problem) × (t ≡ s)
Answers s at (Ok (Show kind number)) response t = IsSheetResponse s kind number response × (t ≡ s)
Answers s at (Ok (Do act)) response t = (answer : Answer) × Step s at act answer t × (response ≡ answer_response answer)

-- The reply to bytes: a desk with the state s that is sent these bytes answers so at this moment, and has the state t
-- after it.
abbrev pub IsReply : State → ℕ → List ℕ → Response → State → Type 0
IsReply s at bytes response t = (asked : Result Demand Problem) × Asks bytes asked × Answers s at asked response t

-- what a closed office says: what is wrong with a request that asks nothing of it, and else that it is closed
abbrev pub closed_response : Result Demand Problem → Response
closed_response (Err problem) = problem_response problem
closed_response (Ok demand) = fault_response Closed

-- an act that no refusal meets is asked for
abbrev pub MayBeDone : State → ℕ → Result Demand Problem → Type 0
MayBeDone s at (Err problem) = ⊥
MayBeDone s at (Ok (Show kind number)) = ⊥
MayBeDone s at (Ok (Do act)) = IsAccepted s at act

-- Which fault may come in place of the answer, and what it leaves. Of an open office: running out of memory, whatever
-- is asked, which leaves the desk as it was; or, where an act that no refusal meets was being carried out, running out
-- of memory or another failure of the database, which closes the office. A closed office answers by what it has.
abbrev pub Hinders : Fault → Option State → ℕ → Result Demand Problem → Option State → Type 0
Hinders fault (Some s) at asked after =
    ((fault ≡ Memory) × (after ≡ Some s)) ⊎ (MayBeDone s at asked × IsOfStore fault × (after ≡ None))
Hinders fault None at asked after = ⊥

-- what an office answers that no fault hinders, and how it is after that: an open one as its desk
abbrev pub Grants : Option State → ℕ → Result Demand Problem → Response → Option State → Type 0
Grants (Some s) at asked response after = (t : State) × Answers s at asked response t × (after ≡ Some t)
Grants None at asked response after = (response ≡ closed_response asked) × (after ≡ None)

-- An office, by its desk before and after, handles what is asked: it grants it, or answers the fault that hindered it.
abbrev pub Handles : Option State → ℕ → Result Demand Problem → Response → Option State → Type 0
Handles before at asked response after =
    Grants before at asked response after
    ⊎ ((fault : Fault) × (response ≡ fault_response fault) × Hinders fault before at asked after)

-- The response to bytes, and the desk of the office after it: the office handles what they ask, or memory was wanted
-- before it was known what that is, and the desk is as it was.
abbrev pub Responds : Option State → ℕ → List ℕ → Response → Option State → Type 0
Responds before at bytes response after =
    ((asked : Result Demand Problem) × Asks bytes asked × Handles before at asked response after)
    ⊎ ((response ≡ fault_response Memory) × (after ≡ before))

-- Whether a request was received of these bytes, where the response has this status: none is where they have a problem,
-- or memory ran out.
abbrev pub KnowsReceived : List ℕ → Bool → ℕ → Type 0
KnowsReceived bytes true status = (request : Texts) × IsReceived bytes (Ok request)
KnowsReceived bytes false status = ((problem : Problem) × IsReceived bytes (Err problem)) ⊎ (status ≡ 503)

-- the reply to bytes is one at most
abbrev pub BytesHaveOneReply : Type 0
BytesHaveOneReply = (s : State) (at : ℕ) (bytes : List ℕ) (one other : Response) (t u : State)
    → IsReply s at bytes one t → IsReply s at bytes other u → (one ≡ other) × (t ≡ u)

-- and there is one, whatever the bytes: not each response and each state can be wrong
abbrev pub BytesHaveAReply : Type 0
BytesHaveAReply =
    (s : State) (at : ℕ) (bytes : List ℕ) → ¬ ((response : Response) (t : State) → ¬ (IsReply s at bytes response t))

-- how many reads, and how many writes, failed in a call with this result
abbrev pub lost_reads : Result Served Lost → ℕ
lost_reads (Ok served) = 0
lost_reads (Err Read) = 1
lost_reads (Err Write) = 0

abbrev pub lost_writes : Result Served Lost → ℕ
lost_writes (Ok served) = 0
lost_writes (Err Read) = 0
lost_writes (Err Write) = 1

-- what is printed of it
abbrev pub lost_text : Lost → List ℕ
lost_text Read = codes "a read failed"
lost_text Write = codes "a write failed"
