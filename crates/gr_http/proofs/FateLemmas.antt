-- What requests make of an office, as calls of the crash prefix.
use Rattle.std.proofs.Common.{◌≡◌, ℕ, inl, inr, List, Option, Some, None, Result, Ok, Err, refl, sym, ◌∙◌, ap, subst}
use Rattle.std.specs.Prelude.{IfSome, IsSome, ◌⊎◌}
use Rattle.gr_core.specs.declared.reply.Reply.{Reply}
use Rattle.gr_core.specs.declared.refusal.Refusal.{Refusal}
use Rattle.gr_core.specs.Desks.State.{State}
use Rattle.gr_core.specs.Machine.Act.{Act}
use Rattle.gr_core.specs.Machine.Step as step
use Rattle.gr_sheet.specs.declared.kind.Kind.{Kind}
use Rattle.gr_store.specs.declared.fault.Fault.{Fault}
use Rattle.gr_store.specs.declared.fault.Fault.TheVariants.{Memory, Closed}
use Rattle.gr_store.specs.Faults.{IsOfStore}
use Rattle.gr_office.specs.declared.fault.ActFault.TheVariants as answered
use Rattle.gr_office.specs.Office.{Office, Acts, remembered}
use Rattle.gr_office.specs.Crash.{Acknowledged, ReplyLost, Refused, NotDone, Interrupted}
use Rattle.gr_office.specs.History.{Fate, Makes, act_attempt, fate_of}
use Rattle.sqlite.specs.Held.{state}
use Rattle.sqlite.specs.State.{HasCleanDisk}
use Rattle.sqlite_trees.specs.declared.store.Store.{Ghosts}
use Rattle.gr_http.specs.declared.problem.Problem.{Problem}
use Rattle.gr_http.specs.declared.response.ReadyResponse.{ReadyResponse}
use Rattle.gr_http.specs.Request.{Texts, IsReceived}
use Rattle.gr_http.specs.Demand.{Demand, Do, Show, demand_of}
use Rattle.gr_http.specs.Response.{Response, answer_response, fault_response}
use Rattle.gr_http.specs.ReadyResponse.{IsReady, Prepares}
use Rattle.gr_http.specs.Answer.{Asks, Handles, Responds}
use Rattle.gr_http.specs.Fates.{delivered, undelivered, DemandMakes, RequestMakes}
use Rattle.gr_http.proofs.AnsweredRequests.{memory_known, reply_granted, refusal_granted, act_fault_met, responds_known}

-- a reply comes from an open office, and leaves it open
replied_open : (desk left : Option State) (at : ℕ) (asked : Act) (reply : Reply) → Acts desk at asked (Ok reply) left → IsSome left
replied_open (Some s) left at asked reply acts = subst IsSome (sym acts.2) refl
replied_open None left at asked reply acts = absurd (let never = acts.0 in cc)

-- so does a refusal
refused_open : (desk left : Option State) (at : ℕ) (asked : Act) (refusal : Refusal) → Acts desk at asked (Err (answered.Refused refusal)) left
    → IsSome left
refused_open (Some s) left at asked refusal acts = subst IsSome (sym acts.1) refl
refused_open None left at asked refusal acts = absurd (let never = acts.0 in cc)

-- running out of memory that leaves the office open has done nothing
open_fate : (fault : Fault) (s : State) (left : Option State) → fault ≡ Memory → left ≡ Some s
    → fate_of (Err (answered.Fault fault)) left ≡ NotDone
open_fate fault s left memory still = rw (memory, still) refl

-- so has a closed office
closed_fate : (fault : Fault) (left : Option State) → fault ≡ Closed → fate_of (Err (answered.Fault fault)) left ≡ NotDone
closed_fate fault left closed = rw (closed) refl

-- a fault of the store that leaves a closed office interrupts the command
closing_fate : (fault : Fault) (left : Option State) → IsOfStore fault → left ≡ None
    → fate_of (Err (answered.Fault fault)) left ≡ Interrupted
closing_fate fault left (inl memory) shut = rw (memory, shut) refl
closing_fate fault left (inr other) shut = rw (other, shut) refl

-- what was received asks what it is understood as
asks_known : (coming : Option (List ℕ)) (received : Result Texts Problem) → IfSome coming (λ bytes. IsReceived bytes received)
    → IfSome coming (λ bytes. Asks bytes (demand_of received))
asks_known None received is = tt
asks_known (Some bytes) received is = (received, is, refl)

module _ {S : Type 0} (g : Ghosts S) where
  -- ==== replies that were lost

  -- a command is finished, whether its reply comes to the caller or not
  pub reply_lost : (before after : Office S) (command : ℕ × Act) (reply : Reply)
      → Makes g before (record { command = command; fate = Acknowledged reply }) after
      → Makes g before (record { command = command; fate = ReplyLost reply }) after
  reply_lost before after command reply makes = record {
    clean = makes.clean;
    from_open = makes.from_open;
    from_shut = λ none. absurd (let never = (makes.from_shut none).1 in cc);
  }

  -- ==== what is asked

  -- an office that gives a response to what is asked, and what that makes of it
  abbrev pub PreparesDemand : Office S → ℕ → Result Demand Problem → Office S → ReadyResponse → Type 0
  PreparesDemand before at asked after ready = Prepares ready (λ response. Handles before.desk at asked response after.desk
      × DemandMakes g before at asked response delivered after)

  -- what asks for nothing to be done leaves the office alone
  pub sheet_leaves_alone : (office : Office S) (at : ℕ) (kind : Kind) (number : ℕ) (ready : ReadyResponse)
      → Prepares ready (λ response. Handles office.desk at (Ok (Show kind number)) response office.desk)
      → PreparesDemand office at (Ok (Show kind number)) office ready
  sheet_leaves_alone office at kind number ready p = (p.0, p.1, (p.2, refl))

  pub problem_leaves_alone : (office : Office S) (at : ℕ) (problem : Problem) (ready : ReadyResponse)
      → Prepares ready (λ response. Handles office.desk at (Err problem) response office.desk) → PreparesDemand office at (Err problem) office ready
  problem_leaves_alone office at problem ready p = (p.0, p.1, (p.2, refl))

  -- the same, or running out of memory before it was known what is asked
  abbrev pub PreparesWhole : Office S → ℕ → Result Demand Problem → Office S → ReadyResponse → Type 0
  PreparesWhole before at asked after ready = Prepares ready (λ response. (Handles before.desk at asked response after.desk
      × DemandMakes g before at asked response delivered after) ⊎ ((response ≡ fault_response Memory) × (after ≡ before)))

  -- what serves the demand that a request was understood as serves what it asks
  pub as_understood : (before after : Office S) (at : ℕ) (asked understood : Result Demand Problem) (ready : ReadyResponse) → asked ≡ understood
      → PreparesDemand before at understood after ready → PreparesWhole before at asked after ready
  as_understood before after at asked understood ready is p =
      subst (λ d. PreparesWhole before at d after ready) (sym is) (p.0, p.1, inl p.2)

  -- before that is known
  pub not_understood : (office : Office S) (at : ℕ) (asked : Result Demand Problem) (ready : ReadyResponse)
      → IsReady ready (fault_response Memory) → PreparesWhole office at asked office ready
  not_understood office at asked ready is = (fault_response Memory, is, inr (refl, refl))

  -- ==== a command

  module _ (before after : Office S) (at : ℕ) (asked : Act) where
    pub reply_prepared : (reply : Reply) (ready : ReadyResponse) → Acts before.desk at asked (Ok reply) after.desk
        → Makes g before (act_attempt at asked (Ok reply) after.desk) after
        → IsReady ready (answer_response (step.Accepted reply)) → PreparesDemand before at (Ok (Do asked)) after ready
    reply_prepared reply ready acts makes is = (
      answer_response (step.Accepted reply),
      is,
      (
        inl (reply_granted at before.desk asked reply after.desk acts),
        (Acknowledged reply, (refl, replied_open before.desk after.desk at asked reply acts), makes),
      ),
    )

    pub refusal_prepared : (refusal : Refusal) (ready : ReadyResponse) → Acts before.desk at asked (Err (answered.Refused refusal)) after.desk
        → (IsSome after.desk → after ≡ before) → Makes g before (act_attempt at asked (Err (answered.Refused refusal)) after.desk) after
        → IsReady ready (answer_response (step.Refused refusal)) → PreparesDemand before at (Ok (Do asked)) after ready
    refusal_prepared refusal ready acts kept makes is = (
      answer_response (step.Refused refusal),
      is,
      (
        inl (refusal_granted at before.desk asked refusal after.desk acts),
        (Refused refusal, (refl, kept (refused_open before.desk after.desk at asked refusal acts)), makes),
      ),
    )

    with_fate : (fate other : Fate) → fate ≡ other → Makes g before (record { command = (at, asked); fate = fate }) after
        → Makes g before (record { command = (at, asked); fate = other }) after
    with_fate fate other same makes = subst (λ f. Makes g before (record { command = (at, asked); fate = f }) after) same makes

    fault_makes : (fault : Fault) (desk : Option State) → before.desk ≡ desk → Acts desk at asked (Err (answered.Fault fault)) after.desk
        → after.closed_by ≡ remembered (Some fault) desk after.desk before.closed_by → (IsSome after.desk → after ≡ before)
        → Makes g before (act_attempt at asked (Err (answered.Fault fault)) after.desk) after
        → DemandMakes g before at (Ok (Do asked)) (fault_response fault) delivered after
    fault_makes fault (Some s) was (accepts, inl (memory, still)) remembers kept makes = (
      NotDone,
      ((fault, refl), kept (subst IsSome (sym still) refl)),
      with_fate _ NotDone (open_fate fault s after.desk memory still) makes,
    )
    fault_makes fault (Some s) was (accepts, inr (of_store, shut)) remembers kept makes = (
      Interrupted,
      (
        (fault, refl, remembers ∙ ap (λ desk. remembered (Some fault) (Some s) desk before.closed_by) shut),
        subst IsSome (sym was) refl,
        shut,
      ),
      with_fate _ Interrupted (closing_fate fault after.desk of_store shut) makes,
    )
    fault_makes fault None was (is, shut) remembers kept makes =
        let closed : fault ≡ Closed = cc in
        (NotDone, ((fault, refl), (makes.from_shut was).0), with_fate _ NotDone (closed_fate fault after.desk closed) makes)

    pub fault_prepared : (fault : Fault) (ready : ReadyResponse) → Acts before.desk at asked (Err (answered.Fault fault)) after.desk
        → after.closed_by ≡ remembered (Some fault) before.desk after.desk before.closed_by
        → (IsSome after.desk → after ≡ before) → Makes g before (act_attempt at asked (Err (answered.Fault fault)) after.desk) after
        → IsReady ready (fault_response fault) → PreparesDemand before at (Ok (Do asked)) after ready
    fault_prepared fault ready acts remembers kept makes is = (
      fault_response fault,
      is,
      (act_fault_met at before.desk asked fault after.desk acts, fault_makes fault before.desk refl acts remembers kept makes),
    )

  -- ==== a request

  -- what a request has as its response, with what it makes of the office
  abbrev pub PreparesRequest : Office S → ℕ → Option (List ℕ) → Office S → ReadyResponse → Type 0
  PreparesRequest before at coming after ready =
      Prepares ready (λ response. IfSome coming (λ bytes. Responds before.desk at bytes response after.desk)
      × RequestMakes g before at coming response delivered after)

  -- what was met of what was received is met of the request
  request_met : (before after : Office S) (at : ℕ) (coming : Option (List ℕ)) (received : Result Texts Problem) (response : Response)
      → IfSome coming (λ bytes. IsReceived bytes received)
      → (Handles before.desk at (demand_of received) response after.desk
      × DemandMakes g before at (demand_of received) response delivered after) ⊎ ((response ≡ fault_response Memory) × (after ≡ before))
      → IfSome coming (λ bytes. Responds before.desk at bytes response after.desk) × RequestMakes g before at coming response delivered after
  request_met before after at coming received response is (inl (handles, makes)) = (
    responds_known before.desk at coming received response after.desk is handles,
    inl (demand_of received, asks_known coming received is, handles, makes),
  )
  request_met before after at coming received response is (inr (memory, alone)) = (
    subst (λ r. IfSome coming (λ bytes. Responds before.desk at bytes r after.desk)) (sym memory)
        (subst (λ (o : Office S). IfSome coming (λ bytes. Responds before.desk at bytes (fault_response Memory) o.desk)) (sym alone)
        (memory_known before.desk at coming)),
    inr (memory, alone),
  )

  pub request_prepared : (before after : Office S) (at : ℕ) (coming : Option (List ℕ)) (received : Result Texts Problem) (ready : ReadyResponse)
      → IfSome coming (λ bytes. IsReceived bytes received)
      → PreparesWhole before at (demand_of received) after ready → PreparesRequest before at coming after ready
  request_prepared before after at coming received ready is p = (p.0, p.1, request_met before after at coming received p.0 is p.2)

  pub request_without_memory : (office : Office S) (at : ℕ) (coming : Option (List ℕ)) (ready : ReadyResponse)
      → IsReady ready (fault_response Memory) → PreparesRequest office at coming office ready
  request_without_memory office at coming ready is =
      (fault_response Memory, is, (memory_known office.desk at coming, inr (refl, refl)))

  -- a response that is not written whole loses the reply, and nothing else
  undelivered_demand : (before after : Office S) (at : ℕ) (asked : Result Demand Problem) (response : Response)
      → DemandMakes g before at asked response delivered after → DemandMakes g before at asked response undelivered after
  undelivered_demand before after at (Ok (Do act)) response (Acknowledged reply, tells, makes) =
      (Acknowledged reply, tells, reply_lost before after (at, act) reply makes)
  undelivered_demand before after at (Ok (Do act)) response (ReplyLost reply, tells, makes) = (ReplyLost reply, tells, makes)
  undelivered_demand before after at (Ok (Do act)) response (Refused refusal, tells, makes) = (Refused refusal, tells, makes)
  undelivered_demand before after at (Ok (Do act)) response (NotDone, tells, makes) = (NotDone, tells, makes)
  undelivered_demand before after at (Ok (Do act)) response (Interrupted, tells, makes) = (Interrupted, tells, makes)
  undelivered_demand before after at (Ok (Show kind number)) response makes = makes
  undelivered_demand before after at (Err problem) response makes = makes

  pub undelivered_request : (before after : Office S) (at : ℕ) (coming : Option (List ℕ)) (response : Response)
      → RequestMakes g before at coming response delivered after → RequestMakes g before at coming response undelivered after
  undelivered_request before after at coming response (inl (asked, asks, handles, makes)) =
      inl (asked, asks, handles, undelivered_demand before after at asked response makes)
  undelivered_request before after at coming response (inr alone) = inr alone

-- an office that is as it was
pub clean_same : {S : Type 0} (g : Ghosts S) (before after : Office S) → after ≡ before → HasCleanDisk (state g after.conn)
    → HasCleanDisk (state g before.conn)
clean_same {S} g before after same = subst (λ (o : Office S). HasCleanDisk (state g o.conn)) same

module _ {S : Type 0} (g : Ghosts S) (before after : Office S) (at : ℕ) (response : Response) (delivery : Fate → Fate) where
  -- after a request a disk that returns what was written has done so before it
  clean-demand : (asked : Result Demand Problem) → DemandMakes g before at asked response delivery after
      → HasCleanDisk (state g after.conn) → HasCleanDisk (state g before.conn)
  clean-demand (Ok (Do act)) (fate, tells, makes) = makes.clean
  clean-demand (Ok (Show kind number)) same = clean_same g before after same
  clean-demand (Err problem) same = clean_same g before after same

  pub clean-request : (coming : Option (List ℕ)) → RequestMakes g before at coming response delivery after
      → HasCleanDisk (state g after.conn) → HasCleanDisk (state g before.conn)
  clean-request coming (inl (asked, asks, handles, makes)) = clean-demand asked makes
  clean-request coming (inr (memory, same)) = clean_same g before after same
