-- From what the office answers to what a request is answered.
use Rattle.std.proofs.Common.{◌≡◌, ℕ, inl, inr, List, [], ◌∷◌, Option, Some, None, Result, Ok, Err, String, string_bytes, refl, sym, ap, ◌∙◌, subst}
use Rattle.std.specs.Prelude.{IfSome, IsSome}
use Rattle.std.specs.declared.alloc.Global.{Global}
use Rattle.gr_core.specs.declared.reply.Reply.{Reply}
use Rattle.gr_core.specs.declared.refusal.Refusal.{Refusal}
use Rattle.gr_core.specs.Desks.State.{State}
use Rattle.gr_core.specs.Machine.Act.{Act}
use Rattle.gr_core.specs.Machine.Step as step
use Rattle.gr_core.specs.Machine.Run.{After}
use Rattle.gr_core.specs.Laws.MachineLaws.{EachListHasOneOutcome, EachListHasAnOutcome}
use Rattle.gr_sheet.specs.declared.kind.Kind.{Kind}
use Rattle.gr_sheet.specs.Laws.{SheetsAreDetermined, SheetsAreShownOrRefused}
use Rattle.gr_store.specs.declared.fault.Fault.{Fault}
use Rattle.gr_store.specs.declared.fault.Fault.TheVariants.{Memory, Closed}
use Rattle.gr_office.specs.declared.fault.ActFault.TheVariants as act
use Rattle.gr_office.specs.declared.fault.SheetFault.TheVariants as sheets
use Rattle.gr_office.specs.Office.{Acts, ShowsSheet}
use Rattle.gr_http.specs.declared.problem.Problem.{Problem}
use Rattle.gr_http.specs.declared.problem.Problem.TheVariants.{BadHead}
use Rattle.gr_http.specs.declared.response.ReadyResponse.{ReadyResponse}
use Rattle.gr_http.specs.Head.{HasNoHead}
use Rattle.gr_http.specs.Request.{Texts, IsReceived, ReceivedIsDetermined, received_from}
use Rattle.gr_http.specs.Demand.{Demand, Do, Show, demand_of}
use Rattle.gr_http.specs.Response.{Response, problem_response, answer_response, sheet_response, IsSheetResponse, fault_response}
use Rattle.gr_http.specs.ReadyResponse.{IsReady, Prepares}
use Rattle.gr_http.specs.Answer.{Asks, Answers, Hinders, Grants, Handles, Responds, BytesHaveOneReply, BytesHaveAReply}

-- running out of memory that changes nothing, where something is asked of an open office
open_hinders : (desk : Option State) (at : ℕ) (asked : Result Demand Problem) → IsSome desk → Hinders Memory desk at asked desk
open_hinders (Some s) at asked some = inl (refl, refl)
open_hinders None at asked some = absurd cc

-- an office that shows a sheet is open
shows_open : (desk : Option State) (kind : Kind) (number : ℕ) (text : String Global) → ShowsSheet desk kind number (Ok text) → IsSome desk
shows_open (Some s) kind number text shows = refl
shows_open None kind number text shows = absurd (let never = shows in cc)

-- what an office handles, by its desk
module _ (at : ℕ) where
  problem_granted : (desk : Option State) (problem : Problem) → Grants desk at (Err problem) (problem_response problem) desk
  problem_granted (Some s) problem = (s, (refl, refl), refl)
  problem_granted None problem = (refl, refl)

  pub reply_granted : (desk : Option State) (asked : Act) (reply : Reply) (after : Option State) → Acts desk at asked (Ok reply) after
      → Grants desk at (Ok (Do asked)) (answer_response (step.Accepted reply)) after
  reply_granted (Some s) asked reply after p = (p.0, (step.Accepted reply, p.1, refl), p.2)
  reply_granted None asked reply after p = absurd (let never = p.0 in cc)

  pub refusal_granted : (desk : Option State) (asked : Act) (refusal : Refusal) (after : Option State) → Acts desk at asked (Err (act.Refused refusal)) after
      → Grants desk at (Ok (Do asked)) (answer_response (step.Refused refusal)) after
  refusal_granted (Some s) asked refusal after p = (s, (step.Refused refusal, p.0, refl), p.1)
  refusal_granted None asked refusal after p = absurd (let never = p.0 in cc)

  pub act_fault_met : (desk : Option State) (asked : Act) (fault : Fault) (after : Option State) → Acts desk at asked (Err (act.Fault fault)) after
      → Handles desk at (Ok (Do asked)) (fault_response fault) after
  act_fault_met (Some s) asked fault after (accepted, inl is) = inr (fault, refl, inl is)
  act_fault_met (Some s) asked fault after (accepted, inr is) = inr (fault, refl, inr (accepted, is.0, is.1))
  act_fault_met None asked fault after p =
      let closed : fault ≡ Closed = let is = p.0 in cc in
      inl (ap fault_response closed, p.1)

  sheet_granted : (desk : Option State) (kind : Kind) (number : ℕ) (text : String Global) → ShowsSheet desk kind number (Ok text)
      → Grants desk at (Ok (Show kind number)) (sheet_response (string_bytes text)) desk
  sheet_granted (Some s) kind number text shows = (s, (inl (string_bytes text, shows, refl), refl), refl)
  sheet_granted None kind number text shows = absurd (let never = shows in cc)

  sheet_refused : (desk : Option State) (kind : Kind) (number : ℕ) (refusal : Refusal) → ShowsSheet desk kind number (Err (sheets.Refused refusal))
      → Grants desk at (Ok (Show kind number)) (answer_response (step.Refused refusal)) desk
  sheet_refused (Some s) kind number refusal shows = (s, (inr (refusal, shows, refl), refl), refl)
  sheet_refused None kind number refusal shows = absurd (let never = shows in cc)

  sheet_fault_met : (desk : Option State) (kind : Kind) (number : ℕ) (fault : Fault) → ShowsSheet desk kind number (Err (sheets.Fault fault))
      → Handles desk at (Ok (Show kind number)) (fault_response fault) desk
  sheet_fault_met (Some s) kind number fault shows = inr (fault, refl, inl (shows.0, refl))
  sheet_fault_met None kind number fault shows =
      let closed : fault ≡ Closed = let is = shows in cc in
      inl (ap fault_response closed, refl)

module _ (before : Option State) (at : ℕ) where
  memory_met : (asked : Result Demand Problem) → IsSome before → Handles before at asked (fault_response Memory) before
  memory_met asked some = inr (Memory, refl, open_hinders before at asked some)

  pub problem_prepared : (problem : Problem) (ready : ReadyResponse) → IsReady ready (problem_response problem)
      → Prepares ready (λ response. Handles before at (Err problem) response before)
  problem_prepared problem ready is = (problem_response problem, is, inl (problem_granted at before problem))

  pub sheet_prepared : (kind : Kind) (number : ℕ) (text : String Global) (ready : ReadyResponse) → ShowsSheet before kind number (Ok text)
      → IsReady ready (sheet_response (string_bytes text))
      → Prepares ready (λ response. Handles before at (Ok (Show kind number)) response before)
  sheet_prepared kind number text ready shows is = (_, is, inl (sheet_granted at before kind number text shows))

  pub sheet_refusal_prepared : (kind : Kind) (number : ℕ) (refusal : Refusal) (ready : ReadyResponse)
      → ShowsSheet before kind number (Err (sheets.Refused refusal)) → IsReady ready (answer_response (step.Refused refusal))
      → Prepares ready (λ response. Handles before at (Ok (Show kind number)) response before)
  sheet_refusal_prepared kind number refusal ready shows is = (_, is, inl (sheet_refused at before kind number refusal shows))

  -- the memory for the response was refused
  pub sheet_without_memory : (kind : Kind) (number : ℕ) (text : String Global) (ready : ReadyResponse) → ShowsSheet before kind number (Ok text)
      → IsReady ready (fault_response Memory)
      → Prepares ready (λ response. Handles before at (Ok (Show kind number)) response before)
  sheet_without_memory kind number text ready shows is =
      (fault_response Memory, is, memory_met (Ok (Show kind number)) (shows_open before kind number text shows))

  pub sheet_fault_prepared : (kind : Kind) (number : ℕ) (fault : Fault) (ready : ReadyResponse)
      → ShowsSheet before kind number (Err (sheets.Fault fault)) → IsReady ready (fault_response fault)
      → Prepares ready (λ response. Handles before at (Ok (Show kind number)) response before)
  sheet_fault_prepared kind number fault ready shows is =
      (fault_response fault, is, sheet_fault_met at before kind number fault shows)

  -- what meets the demand of what was received responds to the bytes, where they are known
  pub responds_known : (coming : Option (List ℕ)) (received : Result Texts Problem) (response : Response) (after : Option State)
      → IfSome coming (λ bytes. IsReceived bytes received) → Handles before at (demand_of received) response after
      → IfSome coming (λ bytes. Responds before at bytes response after)
  responds_known None received response after is p = tt
  responds_known (Some bytes) received response after is p = inl (demand_of received, (received, is, refl), p)

  pub memory_known : (coming : Option (List ℕ)) → IfSome coming (λ bytes. Responds before at bytes (fault_response Memory) before)
  memory_known None = tt
  memory_known (Some bytes) = inr (refl, refl)

head_same : (a b : step.Answer) → ◌≡◌ {A = List step.Answer} (a ∷ []) (b ∷ []) → a ≡ b
head_same a b e = cc

-- a sheet has one response
sheet_one : SheetsAreDetermined → (s : State) (kind : Kind) (number : ℕ) (one other : Response)
    → IsSheetResponse s kind number one → IsSheetResponse s kind number other → one ≡ other
sheet_one law s kind number one other (inl p) (inl q) =
    p.2 ∙ ap sheet_response ((law s kind number).text p.0 q.0 p.1 q.1) ∙ sym q.2
sheet_one law s kind number one other (inr p) (inr q) =
    p.2 ∙ ap (λ refusal. answer_response (step.Refused refusal)) ((law s kind number).refusal p.0 q.0 p.1 q.1) ∙ sym q.2
sheet_one law s kind number one other (inl p) (inr q) = absurd ((law s kind number).never_both p.0 q.0 p.1 q.1)
sheet_one law s kind number one other (inr p) (inl q) = absurd ((law s kind number).never_both q.0 p.0 q.1 p.1)

answers_one : SheetsAreDetermined → EachListHasOneOutcome → (s : State) (at : ℕ) (asked : Result Demand Problem) (one other : Response) (t u : State)
    → Answers s at asked one t → Answers s at asked other u → (one ≡ other) × (t ≡ u)
answers_one sheets law s at (Err problem) one other t u p q = (p.0 ∙ sym q.0, p.1 ∙ sym q.1)
answers_one sheets law s at (Ok (Show kind number)) one other t u p q =
    (sheet_one sheets s kind number one other p.0 q.0, p.1 ∙ sym q.1)
answers_one sheets law s at (Ok (Do asked)) one other t u p q =
    let same = law s ((at, asked) ∷ []) (p.0 ∷ []) (q.0 ∷ []) t u (t, p.1, refl) (u, q.1, refl) in
    (p.2 ∙ ap answer_response (head_same p.0 q.0 same.0) ∙ sym q.2, same.1)

-- bytes ask one thing
pub asks_one : ReceivedIsDetermined → (bytes : List ℕ) (one other : Result Demand Problem) → Asks bytes one → Asks bytes other → one ≡ other
asks_one law bytes one other p q = p.2 ∙ ap demand_of (law bytes p.0 q.0 p.1 q.1) ∙ sym q.2

pub one_reply : ReceivedIsDetermined → SheetsAreDetermined → EachListHasOneOutcome → BytesHaveOneReply
one_reply received sheets law s at bytes one other t u p q =
    let same = asks_one received bytes p.0 q.0 p.1 q.1 in
    answers_one sheets law s at q.0 one other t u (subst (λ d. Answers s at d one t) same p.2) q.2

-- the answer to a list of one act
after_one : (s : State) (at : ℕ) (asked : Act) (answers : List step.Answer) (t : State) → After s ((at, asked) ∷ []) answers t
    → (answer : step.Answer) × step.Step s at asked answer t
after_one s at asked [] t p = absurd p
after_one s at asked (answer ∷ []) t p = (answer, subst (λ u. step.Step s at asked answer u) (sym p.2) p.1)
after_one s at asked (answer ∷ other ∷ others) t p = absurd p.2

answers_some : SheetsAreShownOrRefused → EachListHasAnOutcome → (s : State) (at : ℕ) (asked : Result Demand Problem)
    → ¬ ((response : Response) (t : State) → ¬ (Answers s at asked response t))
answers_some sheets law s at (Err problem) none = none (problem_response problem) s (refl, refl)
answers_some sheets law s at (Ok (Show kind number)) none = sheets s kind number (
  (λ text is. none (sheet_response text) s (inl (text, is, refl), refl)),
  (λ refusal is. none (answer_response (step.Refused refusal)) s (inr (refusal, is, refl), refl)),
)
answers_some sheets law s at (Ok (Do asked)) none =
    law s ((at, asked) ∷ []) (λ answers t after.
    let one = after_one s at asked answers t after in
    none (answer_response one.0) t (one.0, one.1, refl))

-- where no head can be answered there is none, and that is answered
pub some_reply : SheetsAreShownOrRefused → EachListHasAnOutcome → BytesHaveAReply
some_reply sheets law s at bytes none =
    let no_head : HasNoHead bytes = λ head rest is.
    answers_some sheets law s at (demand_of (received_from head rest)) (λ response t answers.
    none response t (demand_of (received_from head rest), (received_from head rest, inr (head, rest, is, refl), refl), answers)) in
    none (problem_response BadHead) s (Err BadHead, (Err BadHead, inl (no_head, refl), refl), (refl, refl))
