-- What is replied and responded by desks that are alike but for ballots of votes that are not closed.
use Rattle.std.proofs.Common.{◌≡◌, ℕ, inl, inr, Bool, true, false, arith, List, [], ◌∷◌, Option, Some, None, Result, Ok, Err, refl, sym, ap, ◌∙◌, subst}
use Rattle.std.specs.Prelude.{◌&&◌, nat_eq, IfSome}
use Rattle.std.specs.Str.{bytes_eq}
use Rattle.std.specs.FinMap.{get}
use Rattle.std.proofs.lemmas.Bool.{eqb-true}
use Rattle.std.proofs.lemmas.List.Elements.{All-nil, All-cons}
use Rattle.std.proofs.lemmas.Slice.Eq.{bytes_eq-Decides}
use Rattle.gr_core.specs.declared.reply.Reply.{Reply}
use Rattle.gr_core.specs.declared.refusal.Refusal.{Refusal}
use Rattle.gr_core.specs.declared.plan.NoPlan.TheVariants as no_plan
use Rattle.gr_core.specs.Parts.Ballot.{new_ballot}
use Rattle.gr_core.specs.Desks.State.{State}
use Rattle.gr_core.specs.Desks.Valid.{IsValid}
use Rattle.gr_core.specs.Machine.Act.{Act, Vote}
use Rattle.gr_core.specs.Machine.Refusal.{Refuses, IsAccepted}
use Rattle.gr_core.specs.Machine.Effect.{effect, counted}
use Rattle.gr_core.specs.Machine.Step.{Answer, Accepted, Refused, Step, reply_to}
use Rattle.gr_core.specs.Machine.Run.{After}
use Rattle.gr_core.specs.Laws.MachineLaws.{CommandsKeepADeskValid}
use Rattle.gr_core.specs.Laws.VotingLaws.{votes_as, VotesPutTheirBallot, OnlyVotesTouchBallots}
use Rattle.gr_core.specs.Laws.Secrecy.{AreAlike, PlansRevealNothing, ClosesTheSame, AnswersRevealNothing}
use Rattle.gr_sheet.specs.declared.kind.Kind.{Kind}
use Rattle.gr_sheet.specs.declared.no_sheet.NoSheet.TheVariants as no_sheet
use Rattle.gr_sheet.specs.Laws.{SheetsRevealNothing, ShowsTheSame}
use Rattle.gr_store.specs.declared.fault.Fault.{Fault}
use Rattle.gr_store.specs.declared.fault.Fault.TheVariants.{Memory}
use Rattle.gr_http.specs.declared.problem.Problem.{Problem}
use Rattle.gr_http.specs.Request.{ReceivedIsDetermined}
use Rattle.gr_http.specs.Demand.{Demand, Do, Show}
use Rattle.gr_http.specs.Response.{Response, answer_response, IsSheetResponse, fault_response}
use Rattle.gr_http.specs.Answer.{Asks, Answers, IsReply, Responds}
use Rattle.gr_http.specs.Secrecy.{AreAlikeDesks, CloseTheSame, RepliesRevealNothing, AllCloseTheSame, ListsOfRepliesRevealNothing}
use Rattle.gr_http.specs.Secrecy.{HaveTheSameBallots, SameBallotsStayTheSame, MayComeInstead, ResponsesAreRepliesOrFaults}
use Rattle.gr_http.specs.Secrecy.{AreAlikeOffices, RevealsNothing, ResponsesRevealNothing}
use Rattle.gr_http.proofs.AnsweredRequests.{asks_one}

-- one of two alike states is the other with its own ballots
alike_is : (s t : State) → AreAlike s t → t ≡ record s { ballots = t.ballots }
alike_is s t alike = λ i. record {
  header = alike.header i;
  developers = alike.developers i;
  resolutions = alike.resolutions i;
  choices = alike.choices i;
  sponsors = alike.sponsors i;
  ballots = t.ballots;
}

-- so an accepted act gets the same reply
reply_alike : (s t : State) (at : ℕ) (act : Act) → AreAlike s t → reply_to t at act ≡ reply_to s at act
reply_alike s t at act alike = ap (λ u. reply_to u at act) (alike_is s t alike)

-- ==== what is asked

-- What the laws say of desks that were alike before an answer: what the other one has after the same answer, if the
-- vote that the act asked for closes, if any, has the same ballots.
abbrev AnswersAlike : State → State → ℕ → Result Demand Problem → Response → State → Type 0
AnswersAlike s t at asked response u = (v : State) × Answers t at asked response v × IsValid u × IsValid v
    × (((act : Act) → asked ≡ Ok (Do act) → IsAccepted s at act → ClosesTheSame s t act) → AreAlike u v)

-- an answer that leaves both as they were
left_alike : (s t : State) (at : ℕ) (asked : Result Demand Problem) (response : Response) (u : State) → AreAlikeDesks s t
    → u ≡ s → Answers t at asked response t → AnswersAlike s t at asked response u
left_alike s t at asked response u desks same answers = (
  t,
  answers,
  subst IsValid (sym same) desks.one,
  desks.other,
  λ closes. subst (λ w. AreAlike w t) (sym same) desks.alike,
)

sheet_alike : (s t : State) (kind : Kind) (number : ℕ) (response : Response) → ShowsTheSame s t kind number
    → IsSheetResponse s kind number response → IsSheetResponse t kind number response
sheet_alike s t kind number response shows (inl (text, is, same)) = inl (text, shows.text text is, same)
sheet_alike s t kind number response shows (inr (refusal, is, same)) = inr (refusal, shows.missing (no_sheet.Refused refusal) is, same)

-- the state after an accepted act, where that answers a list of one act
after_one : (s : State) (at : ℕ) (act : Act) (reply : Reply) (t : State) → After s ((at, act) ∷ []) (Accepted reply ∷ []) t
    → t ≡ counted (effect s at act) at
after_one s at act reply t p = p.2 ∙ p.1.2

module _ (plans : PlansRevealNothing) (answers : AnswersRevealNothing) (valid : CommandsKeepADeskValid) (sheets : SheetsRevealNothing) where
  accepted_alike : (s t : State) (at : ℕ) (act : Act) (reply : Reply) (u : State) → AreAlikeDesks s t → Step s at act (Accepted reply) u
      → AnswersAlike s t at (Ok (Do act)) (answer_response (Accepted reply)) u
  accepted_alike s t at act reply u desks step =
      let v = counted (effect t at act) at in
      let accepted : IsAccepted t at act = (plans s t at act desks.alike).1 no_plan.Memory step.0 in
      let other : Step t at act (Accepted reply) v = (accepted, step.1 ∙ sym (reply_alike s t at act desks.alike), refl) in
      let one_act : List (ℕ × Act) = (at, act) ∷ [] in
      let one_answer : List Answer = Accepted reply ∷ [] in (
        v,
        (Accepted reply, other, refl),
        valid s one_act one_answer u desks.one (u, step, refl),
        valid t one_act one_answer v desks.other (v, other, refl),
        λ closes.
            let EndsSame = λ (a : ℕ × Act). ClosesTheSame s t a.1 in
            let ends = All-cons EndsSame (at, act) [] (closes act refl step.0) (All-nil EndsSame) in
            let left = answers s t one_act one_answer u desks.one desks.alike ends (u, step, refl) in
            subst (AreAlike u) (after_one t at act reply left.0 left.1) left.2,
      )

  answers_alike : (s t : State) (at : ℕ) (asked : Result Demand Problem) (response : Response) (u : State) → AreAlikeDesks s t
      → Answers s at asked response u → AnswersAlike s t at asked response u
  answers_alike s t at (Err problem) response u desks p = left_alike s t at (Err problem) response u desks p.1 (p.0, refl)
  answers_alike s t at (Ok (Show kind number)) response u desks p =
      left_alike s t at (Ok (Show kind number)) response u desks p.1
      (sheet_alike s t kind number response (sheets s t kind number desks.one desks.other desks.alike) p.0, refl)
  answers_alike s t at (Ok (Do act)) response u desks (Refused refusal, step, is) =
      let refuses : Refuses t at act refusal = (plans s t at act desks.alike).1 (no_plan.Refused refusal) step.0 in
      left_alike s t at (Ok (Do act)) response u desks step.1 (Refused refusal, (refuses, refl), is)
  answers_alike s t at (Ok (Do act)) response u desks (Accepted reply, step, is) =
      subst (λ r. AnswersAlike s t at (Ok (Do act)) r u) (sym is) (accepted_alike s t at act reply u desks step)

  pub replies_alike : RepliesRevealNothing
  replies_alike s t at bytes response u desks (asked, asks, p) =
      let other = answers_alike s t at asked response u desks p in (
        other.0,
        (asked, asks, other.1),
        other.2,
        other.3,
        λ closes. other.4 (λ act same. closes act (subst (Asks bytes) same asks)),
      )

-- ==== lists of requests

module _ (s t : State) (request : ℕ × List ℕ) (requests : List (ℕ × List ℕ)) (closes : AllCloseTheSame s t (request ∷ requests)) where
  -- the first of them closes the same
  first_closes : CloseTheSame s t request.0 request.1
  first_closes = closes [] requests request.0 request.1 [] s t refl refl refl

  -- and so do the others, on the desks after it
  others_close : (response : Response) (u v : State) → IsReply s request.0 request.1 response u → IsReply t request.0 request.1 response v
      → AllCloseTheSame u v requests
  others_close response u v one other =
      λ before after at bytes responses w x same p q. closes (request ∷ before) after at bytes (response ∷ responses) w x
      (ap (λ rs. request ∷ rs) same) (u, one, p) (v, other, q)

pub lists_alike : RepliesRevealNothing → ListsOfRepliesRevealNothing
lists_alike law s t [] [] u desks closes p = (t, refl, subst (λ w. AreAlikeDesks w t) (sym p) desks)
lists_alike law s t [] (response ∷ responses) u desks closes p = absurd p
lists_alike law s t (request ∷ requests) [] u desks closes p = absurd p
lists_alike law s t (request ∷ requests) (response ∷ responses) u desks closes (mid, reply, after) =
    let other = law s t request.0 request.1 response mid desks reply in
    let here : AreAlikeDesks mid other.0 = record {
      one = other.2;
      other = other.3;
      alike = other.4 (first_closes s t request requests closes);
    } in
    let later = others_close s t request requests closes response mid other.0 reply other.1 in
    let rest = lists_alike law mid other.0 requests responses u here later after in
    (rest.0, (other.0, other.1, rest.1), rest.2)

-- ==== ballots of votes that go on

-- an act that brings a ballot of this voter is a vote with this key
key_of_vote : (resolution number : ℕ) (voter login : List ℕ) → (nat_eq resolution number && bytes_eq voter login) ≡ true
    → ◌≡◌ {A = ℕ × List ℕ} (number, login) (resolution, voter)
key_of_vote resolution number voter login =
    elim (nat_eq resolution number) as (λ b. nat_eq resolution number ≡ b → (b && bytes_eq voter login) ≡ true
    → ◌≡◌ {A = ℕ × List ℕ} (number, login) (resolution, voter)) [
      | true ↦ λ one other. sym (ap (λ n. (n, voter)) (eqb-true resolution number one)
          ∙ ap (λ l. (number, l)) ((bytes_eq-Decides voter login).0 other))
      | false ↦ λ one other. absurd cc
    ] refl

-- the response tells whether an act was accepted
tells_apart : (reply : Reply) (refusal : Refusal) → ¬ (answer_response (Accepted reply) ≡ answer_response (Refused refusal))
tells_apart reply refusal same = let never : ◌≡◌ {A = ℕ} 200 409 = ap (λ (r : Response). r.status) same in omega arith

module _ (puts : VotesPutTheirBallot) (only : OnlyVotesTouchBallots) where
  -- where the voter's ballot was the same on both desks, it is so after an act that both accept
  ballot_stays : (s t : State) (at : ℕ) (act : Act) (one other : Reply) (u v : State) (resolution : ℕ) (voter : List ℕ)
      → Step s at act (Accepted one) u → Step t at act (Accepted other) v
      → get t.ballots (resolution, voter) ≡ get s.ballots (resolution, voter)
      → (b : Bool) → votes_as resolution voter act ≡ b → get v.ballots (resolution, voter) ≡ get u.ballots (resolution, voter)
  ballot_stays s t at act one other u v resolution voter p q same false is =
      only t at act other v resolution voter q is ∙ same ∙ sym (only s at act one u resolution voter p is)
  ballot_stays s t at (Vote number login ranks token) one other u v resolution voter p q same true is =
      let key = key_of_vote resolution number voter login is in
      let stood : get t.ballots (number, login) ≡ get s.ballots (number, login) =
      subst (λ key. get t.ballots key ≡ get s.ballots key) (sym key) same in
      subst (λ key. get v.ballots key ≡ get u.ballots key) key
      ((puts t at number login ranks token other v q).0
      ∙ ap (λ ballot. Some (new_ballot ballot number login ranks token)) stood
      ∙ sym (puts s at number login ranks token one u p).0)
  ballot_stays s t at act one other u v resolution voter p q same true is = absurd cc

  -- after answers that have the same response
  answers_keep : (s t : State) (at : ℕ) (asked : Result Demand Problem) (response : Response) (u v : State) (resolution : ℕ)
      → Answers s at asked response u → Answers t at asked response v
      → HaveTheSameBallots s t resolution → HaveTheSameBallots u v resolution
  answers_keep s t at (Err problem) response u v resolution p q same =
      λ login. rw (p.1, q.1) (same login)
  answers_keep s t at (Ok (Show kind number)) response u v resolution p q same =
      λ login. rw (p.1, q.1) (same login)
  answers_keep s t at (Ok (Do act)) response u v resolution (Accepted one, p, is) (Accepted other, q, also) same =
      λ login. ballot_stays s t at act one other u v resolution login p q (same login) (votes_as resolution login act) refl
  answers_keep s t at (Ok (Do act)) response u v resolution (Refused one, p, is) (Refused other, q, also) same =
      λ login. rw (p.1, q.1) (same login)
  answers_keep s t at (Ok (Do act)) response u v resolution (Accepted one, p, is) (Refused other, q, also) same =
      absurd (tells_apart one other (sym is ∙ also))
  answers_keep s t at (Ok (Do act)) response u v resolution (Refused one, p, is) (Accepted other, q, also) same =
      absurd (tells_apart other one (sym also ∙ is))

  pub ballots_stay : ReceivedIsDetermined → SameBallotsStayTheSame
  ballots_stay received s t [] [] u v resolution p q same = λ login. rw (p, q) (same login)
  ballots_stay received s t [] (response ∷ responses) u v resolution p q same = absurd p
  ballots_stay received s t (request ∷ requests) [] u v resolution p q same = absurd p
  ballots_stay received s t (request ∷ requests) (response ∷ responses) u v resolution (mid, one, p) (end, other, q) same =
      let asked = asks_one received request.1 one.0 other.0 one.1 other.1 in
      ballots_stay received mid end requests responses u v resolution p q
      (answers_keep s t request.0 other.0 response mid end resolution
      (subst (λ a. Answers s request.0 a response mid) asked one.2) other.2 same)

-- ==== offices

pub reply_or_fault : ResponsesAreRepliesOrFaults
reply_or_fault s at bytes response after (inl (asked, asks, inl (t, answers, is))) = inl (t, (asked, asks, answers), is)
reply_or_fault s at bytes response after (inl (asked, asks, inr (fault, is, inl left))) = inr (fault, is, inl left)
reply_or_fault s at bytes response after (inl (Err problem, asks, inr (fault, is, inr closed))) = absurd closed.0
reply_or_fault s at bytes response after (inl (Ok (Show kind number), asks, inr (fault, is, inr closed))) = absurd closed.0
reply_or_fault s at bytes response after (inl (Ok (Do act), asks, inr (fault, is, inr closed))) =
    inr (fault, is, inr (act, asks, closed.0, closed.1, closed.2))
reply_or_fault s at bytes response after (inr (is, left)) = inr (Memory, is, inl (refl, left))

-- the line of a fault comes from both offices, and leaves them alike
fault_alike : PlansRevealNothing → (s t : State) (at : ℕ) (bytes : List ℕ) (fault : Fault) (after : Option State) → AreAlikeDesks s t
    → MayComeInstead fault s at bytes after
    → (other : Option State) × Responds (Some t) at bytes (fault_response fault) other × AreAlikeOffices after other
fault_alike plans s t at bytes fault after desks (inl (memory, left)) =
    (Some t, inr (ap fault_response memory, refl), subst (λ o. AreAlikeOffices o (Some t)) (sym left) desks)
fault_alike plans s t at bytes fault after desks (inr (act, asks, accepted, of_store, closed)) = (
  None,
  inl (Ok (Do act), asks, inr (fault, refl, inr ((plans s t at act desks.alike).1 no_plan.Memory accepted, of_store, refl))),
  subst (λ o. AreAlikeOffices o None) (sym closed) tt,
)

open_responses_alike : RepliesRevealNothing → ResponsesAreRepliesOrFaults → PlansRevealNothing
    → (s t : State) (at : ℕ) (bytes : List ℕ) (response : Response) (after : Option State) → Responds (Some s) at bytes response after
    → AreAlikeDesks s t
    → (other : Option State) × Responds (Some t) at bytes response other × (CloseTheSame s t at bytes → AreAlikeOffices after other)
open_responses_alike replies responses plans s t at bytes response after p desks = elim (responses s at bytes response after p) [
  | inl (u, reply, is) ↦
      let other = replies s t at bytes response u desks reply in (
        Some other.0,
        inl (other.1.0, other.1.1, inl (other.0, other.1.2, refl)),
        λ closes. subst (λ o. AreAlikeOffices o (Some other.0)) (sym is) (record { one = other.2; other = other.3; alike = other.4 closes }),
      )
  | inr (fault, is, instead) ↦
      let other = fault_alike plans s t at bytes fault after desks instead in
      (other.0, subst (λ r. Responds (Some t) at bytes r other.0) (sym is) other.1, λ closes. other.2)
]

pub responses_alike : RepliesRevealNothing → ResponsesAreRepliesOrFaults → PlansRevealNothing → ResponsesRevealNothing
responses_alike replies responses plans (Some s) at bytes response after p =
    λ t. open_responses_alike replies responses plans s t at bytes response after p
responses_alike replies responses plans None at bytes response after p = tt

-- so where the bytes are known
pub nothing_revealed : ResponsesRevealNothing → (coming : Option (List ℕ)) (before : Option State) (at : ℕ) (response : Response) (after : Option State)
    → IfSome coming (λ bytes. Responds before at bytes response after) → IfSome coming (λ bytes. RevealsNothing before at bytes response after)
nothing_revealed law None before at response after p = tt
nothing_revealed law (Some bytes) before at response after p = law before at bytes response after p
