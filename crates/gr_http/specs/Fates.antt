-- Requests as attempts: which command a request hands to an office, and what became of it. What a stop may leave after
-- any attempts, `gr_office` says (this project's profile).
use Rattle.std.specs.Prelude.{◌≡◌, ℕ, ◌⊎◌, List, Option, Some, None, IfSome, IsSome, Result, Ok, Err}
use Rattle.sqlite_trees.specs.declared.store.Store.{Ghosts}
use Rattle.gr_core.specs.Machine.Step.{Accepted, Refused}
use Rattle.gr_store.specs.declared.fault.Fault.{Fault}
use Rattle.gr_store.specs.declared.fault.Fault.TheVariants.{Memory}
use Rattle.gr_office.specs.Office.{Office}
use Rattle.gr_office.specs.Crash as crash
use Rattle.gr_office.specs.Crash.{Acknowledged, ReplyLost, NotDone, Interrupted}
use Rattle.gr_office.specs.History.{Fate, Makes}
use Rattle.gr_http.specs.declared.problem.Problem.{Problem}
use Rattle.gr_http.specs.Demand.{Demand, Do, Show}
use Rattle.gr_http.specs.Response.{Response, answer_response, fault_response}
use Rattle.gr_http.specs.Answer.{Asks, Handles}

-- the response is the line of a fault
abbrev pub IsFaultLine : Response → Type 0
IsFaultLine response = (fault : Fault) × (response ≡ fault_response fault)

-- the response is the line of the fault that closed the office: it was open before, and this fault is remembered
abbrev pub IsLineOfClosing : {S : Type 0} → Office S → Response → Office S → Type 0
IsLineOfClosing before response after =
    ((fault : Fault) × (response ≡ fault_response fault) × (after.closed_by ≡ Some fault))
    × IsSome before.desk × (after.desk ≡ None)

-- Which response tells of which fate of a command, with the office before it and the office after it. A reply has its
-- response, and the office is still open. A refusal has its own, and the office is as it was. The line of a fault tells
-- that nothing was done, where the office is as it was; or that the stop fell in the command, where the office was open
-- and it is this fault that closed it. No response tells of a reply that was lost.
abbrev pub TellsOf : {S : Type 0} → Office S → Response → Office S → Fate → Type 0
TellsOf before response after (Acknowledged reply) =
    (response ≡ answer_response (Accepted reply)) × IsSome after.desk
TellsOf before response after (ReplyLost reply) = ⊥
TellsOf before response after (crash.Refused refusal) =
    (response ≡ answer_response (Refused refusal)) × (after ≡ before)
TellsOf before response after NotDone = IsFaultLine response × (after ≡ before)
TellsOf before response after Interrupted = IsLineOfClosing before response after

-- the fate of a command whose response is written whole: that of which the response tells
abbrev pub delivered : Fate → Fate
delivered fate = fate

-- The fate of a command whose response is not written whole: a reply is lost on its way. Any other fate stays.
abbrev pub undelivered : Fate → Fate
undelivered (Acknowledged reply) = ReplyLost reply
undelivered (ReplyLost reply) = ReplyLost reply
undelivered (crash.Refused refusal) = crash.Refused refusal
undelivered NotDone = NotDone
undelivered Interrupted = Interrupted

-- What a request that asks this makes of an office, where this is the response to it, delivered or not. One that asks
-- for a command is one attempt: that command at this moment, with the fate of which the response tells. Any other
-- leaves the office as it was.
abbrev pub DemandMakes : {S : Type 0} → Ghosts S → Office S → ℕ → Result Demand Problem → Response → (Fate → Fate)
    → Office S → Type 0
DemandMakes g before at (Ok (Do act)) response delivery after =
    (fate : Fate) × TellsOf before response after fate
    × Makes g before (record { command = (at, act); fate = delivery fate }) after
DemandMakes g before at (Ok (Show kind number)) response delivery after = after ≡ before
DemandMakes g before at (Err problem) response delivery after = after ≡ before

-- What a request makes of an office, where its bytes are these or are not known: the office handles what they ask, with
-- this response, and that makes it; or memory was wanted before it was known what that is, and the office is as it was.
abbrev pub RequestMakes : {S : Type 0} → Ghosts S → Office S → ℕ → Option (List ℕ) → Response → (Fate → Fate)
    → Office S → Type 0
RequestMakes g before at coming response delivery after =
    ((asked : Result Demand Problem) × IfSome coming (λ bytes. Asks bytes asked)
    × Handles before.desk at asked response after.desk × DemandMakes g before at asked response delivery after)
    ⊎ ((response ≡ fault_response Memory) × (after ≡ before))
