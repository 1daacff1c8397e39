-- Which responses say `ok`, and what was done where one does.
use Rattle.std.proofs.Common.{◌≡◌, ℕ, inl, inr, List, [], ◌∷◌, Option, Some, None, Result, Ok, Err, refl, sym, ◌∙◌, ap, arith}
use Rattle.std.specs.Prelude.{IsTrue, IsSomeAnd}
use Rattle.std.specs.FinMap.{get}
use Rattle.sqlite_trees.specs.declared.store.Store.{Ghosts}
use Rattle.gr_core.specs.declared.reply.Reply.{Reply}
use Rattle.gr_core.specs.declared.refusal.Refusal.{Refusal}
use Rattle.gr_core.specs.declared.resolution.Resolution.{Resolution}
use Rattle.gr_core.specs.Parts.Resolution.{is_closed}
use Rattle.gr_core.specs.declared.resolution.Resolution.TheVariants.{Closed}
use Rattle.gr_core.specs.Desks.State.{State}
use Rattle.gr_core.specs.Machine.Act.{Act}
use Rattle.gr_core.specs.Machine.Step as step
use Rattle.gr_sheet.specs.declared.kind.Kind.{Kind}
use Rattle.gr_sheet.specs.declared.kind.Kind.TheVariants as kinds
use Rattle.gr_sheet.specs.Sheet.{IsSheet}
use Rattle.gr_sheet.specs.RollSheet.{roll_sheet}
use Rattle.gr_sheet.specs.StatusSheet.{status_sheet}
use Rattle.gr_sheet.specs.TallySheet.{IsTally, tally_sheet}
use Rattle.gr_sheet.specs.ResultSheet.{IsResultOf, result_sheet}
use Rattle.gr_store.specs.declared.fault.Fault.{Fault}
use Rattle.gr_store.specs.declared.fault.Fault.TheVariants as faults
use Rattle.gr_office.specs.Office.{Office}
use Rattle.gr_office.specs.Crash.{Acknowledged, ReplyLost, Refused, NotDone, Interrupted}
use Rattle.gr_office.specs.History.{Fate, Makes}
use Rattle.gr_http.specs.declared.problem.Problem.{Problem}
use Rattle.gr_http.specs.declared.problem.Problem.TheVariants as problems
use Rattle.gr_http.specs.Demand.{Demand, Do, Show}
use Rattle.gr_http.specs.Line.{refusal_line}
use Rattle.gr_http.specs.Response.{Response, answer_response, fault_response, problem_response}
use Rattle.gr_http.specs.Answer.{Handles}
use Rattle.gr_http.specs.Fates.{DemandMakes, RequestMakes}
use Rattle.gr_http.specs.Told.{SaysOk, IsDone, IsUndone, ResponsesTellWhatWasDone}

-- ==== which responses say `ok`: they differ in their first letters

abbrev first : List ℕ → ℕ
first [] = 0
first (x ∷ xs) = x

-- `ok ` begins with the letter 111
other_letter : (response : Response) (text : List ℕ) → response.body ≡ text → (first text ≡ 111 → ⊥) → SaysOk response → ⊥
other_letter response text is other (rest, says) = other (ap first (sym is ∙ says))

other_body : (response other : Response) → response ≡ other → (first other.body ≡ 111 → ⊥) → SaysOk response → ⊥
other_body response other is differs says = other_letter response other.body (ap (λ (r : Response). r.body) is) differs says

fault_letter : (fault : Fault) → first (fault_response fault).body ≡ 111 → ⊥
fault_letter faults.Memory is = omega arith
fault_letter faults.Store is = omega arith
fault_letter faults.Closed is = omega arith
fault_letter faults.Damaged is = omega arith
fault_letter faults.TooNew is = omega arith
fault_letter faults.NotADesk is = omega arith
fault_letter faults.TooOld is = omega arith
fault_letter faults.Occupied is = omega arith

problem_letter : (problem : Problem) → first (problem_response problem).body ≡ 111 → ⊥
problem_letter problems.BadHead is = omega arith
problem_letter problems.BadLength is = omega arith
problem_letter problems.TooLarge is = omega arith
problem_letter problems.ShortBody is = omega arith
problem_letter problems.NotFound is = omega arith
problem_letter (problems.MethodNotAllowed method) is = omega arith
problem_letter (problems.BadField which) is = omega arith
problem_letter (problems.BadRoll number) is = omega arith

refusal_letter : (refusal : Refusal) → first (refusal_line refusal) ≡ 111 → ⊥
refusal_letter refusal is = omega arith

not_of_fault : (response : Response) (fault : Fault) → response ≡ fault_response fault → SaysOk response → ⊥
not_of_fault response fault is says = other_body response (fault_response fault) is (fault_letter fault) says

not_of_problem : (response : Response) (problem : Problem) → response ≡ problem_response problem → SaysOk response → ⊥
not_of_problem response problem is says = other_body response (problem_response problem) is (problem_letter problem) says

not_of_refusal : (response : Response) (refusal : Refusal) → response ≡ answer_response (step.Refused refusal) → SaysOk response → ⊥
not_of_refusal response refusal is says = other_body response (answer_response (step.Refused refusal)) is (refusal_letter refusal) says

-- the line of a reply does
of_reply : (response : Response) (reply : Reply) → response ≡ answer_response (step.Accepted reply) → SaysOk response
of_reply response reply is = (_, ap (λ (r : Response). r.body) is)

-- ==== sheets

roll_letter : (s : State) → first (roll_sheet s) ≡ 111 → ⊥
roll_letter s is = omega arith

status_letter : (s : State) (number : ℕ) (row : Resolution) → first (status_sheet s number row) ≡ 111 → ⊥
status_letter s number row is = omega arith

of_status : (response : Response) (s : State) (number : ℕ) (text : List ℕ) (row : Option Resolution)
    → IsSomeAnd row (λ row. text ≡ status_sheet s number row) → response.body ≡ text → SaysOk response → ⊥
of_status response s number text (Some row) is same says =
    other_letter response (status_sheet s number row) (same ∙ is) (status_letter s number row) says
of_status response s number text None is same says = absurd is

of_tally : (response : Response) (s : State) (number : ℕ) (text : List ℕ) (row : Option Resolution)
    → IsSomeAnd row (λ row. IsTrue (is_closed row) × IsTally s number text) → response.body ≡ text → SaysOk response → ⊥
of_tally response s number text (Some row) (closed, tally) same says =
    other_letter response (tally_sheet s number tally.0) (same ∙ tally.2) (λ is. omega arith) says
of_tally response s number text None is same says = absurd is

of_result : (response : Response) (s : State) (number : ℕ) (text : List ℕ) (row : Option Resolution)
    → IsSomeAnd row (λ row. IsResultOf s number row text) → response.body ≡ text → SaysOk response → ⊥
of_result response s number text (Some (Closed discussion poll chosen)) (found, are, is) same says =
    other_letter response (result_sheet s number poll chosen found) (same ∙ is) (λ letter. omega arith) says
of_result response s number text (Some other) is same says = absurd is
of_result response s number text None is same says = absurd is

not_of_sheet : (response : Response) (s : State) (kind : Kind) (number : ℕ) (text : List ℕ) → IsSheet s kind number text
    → response.body ≡ text → SaysOk response → ⊥
not_of_sheet response s kinds.Roll number text is same says = other_letter response (roll_sheet s) (same ∙ is) (roll_letter s) says
not_of_sheet response s kinds.Status number text is same says = of_status response s number text (get s.resolutions number) is same says
not_of_sheet response s kinds.Tally number text is same says = of_tally response s number text (get s.resolutions number) is same says
not_of_sheet response s kinds.Result number text is same says = of_result response s number text (get s.resolutions number) is same says

-- ==== what asks for no act is not answered by `ok`

shown : (response : Response) (before after : Option State) (at : ℕ) (kind : Kind) (number : ℕ)
    → Handles before at (Ok (Show kind number)) response after → SaysOk response → ⊥
shown response (Some s) after at kind number (inl (t, (inl (text, sheet, is), same), left)) says =
    not_of_sheet response s kind number text sheet (ap (λ (r : Response). r.body) is) says
shown response (Some s) after at kind number (inl (t, (inr (refusal, refused, is), same), left)) says =
    not_of_refusal response refusal is says
shown response None after at kind number (inl (is, same)) says = not_of_fault response faults.Closed is says
shown response before after at kind number (inr (fault, is, hinders)) says = not_of_fault response fault is says

told_problem : (response : Response) (before after : Option State) (at : ℕ) (problem : Problem)
    → Handles before at (Err problem) response after → SaysOk response → ⊥
told_problem response (Some s) after at problem (inl (t, (is, same), left)) says = not_of_problem response problem is says
told_problem response None after at problem (inl (is, same)) says = not_of_problem response problem is says
told_problem response before after at problem (inr (fault, is, hinders)) says = not_of_fault response fault is says

-- ==== an act

module _ {S : Type 0} (g : Ghosts S) (before after : Office S) (at : ℕ) (response : Response) (delivery : Fate → Fate) where
  -- the desk made a step, and the response is that to its reply
  acted : (act : Act) (told : Reply) (desk : Option State) → before.desk ≡ desk → response ≡ answer_response (step.Accepted told)
      → Makes g before (record { command = (at, act); fate = delivery (Acknowledged told) }) after
      → Handles desk at (Ok (Do act)) response after.desk → IsDone g before at response delivery after
  acted act told (Some s) was tells makes (inl (t, (step.Accepted reply, took, is), left)) =
      (s, t, act, reply, told, was, left, took, is, tells, makes)
  acted act told (Some s) was tells makes (inl (t, (step.Refused refusal, took, is), left)) =
      absurd (not_of_refusal response refusal is (of_reply response told tells))
  acted act told None was tells makes (inl (is, same)) = absurd (not_of_fault response faults.Closed is (of_reply response told tells))
  acted act told desk was tells makes (inr (fault, is, hinders)) = absurd (not_of_fault response fault is (of_reply response told tells))

  Tells : Type 0
  Tells = (SaysOk response → IsDone g before at response delivery after) × (¬ SaysOk response → IsUndone before response after)

  of_demand : (asked : Result Demand Problem) → Handles before.desk at asked response after.desk
      → DemandMakes g before at asked response delivery after → Tells
  unfolding Tells
  of_demand (Ok (Do act)) handles (Acknowledged reply, tells, makes) = (
    λ says. acted act reply before.desk refl tells.0 makes handles,
    λ silent. absurd (silent (of_reply response reply tells.0)),
  )
  of_demand (Ok (Do act)) handles (ReplyLost reply, tells, makes) = absurd tells
  of_demand (Ok (Do act)) handles (Refused refusal, tells, makes) =
      (λ says. absurd (not_of_refusal response refusal tells.0 says), λ silent. inl tells.1)
  of_demand (Ok (Do act)) handles (NotDone, ((fault, is), same), makes) =
      (λ says. absurd (not_of_fault response fault is says), λ silent. inl same)
  of_demand (Ok (Do act)) handles (Interrupted, ((fault, is, closed), some, none), makes) =
      (λ says. absurd (not_of_fault response fault is says), λ silent. inr ((fault, is, closed), some, none))
  of_demand (Ok (Show kind number)) handles same =
      (λ says. absurd (shown response before.desk after.desk at kind number handles says), λ silent. inl same)
  of_demand (Err problem) handles same =
      (λ says. absurd (told_problem response before.desk after.desk at problem handles says), λ silent. inl same)

  of_request : (coming : Option (List ℕ)) → RequestMakes g before at coming response delivery after → Tells
  unfolding Tells
  of_request coming (inl (asked, asks, handles, makes)) = of_demand asked handles makes
  of_request coming (inr (memory, same)) =
      (λ says. absurd (not_of_fault response faults.Memory memory says), λ silent. inl same)

pub responses_tell : {S : Type 0} (g : Ghosts S) → ResponsesTellWhatWasDone g
unfolding Tells
responses_tell g before after at coming response delivery makes = of_request g before after at response delivery coming makes
