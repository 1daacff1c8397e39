-- What acts leave of the ballot of one voter in one resolution, from one state to the next and over lists of acts.
use Rattle.std.proofs.Common.{◌≡◌, ℕ, ◌≤◌, inl, inr, true, false, cond, List, None, [], ◌∷◌, Option, Some, option_map, is_some, IsFalse, refl, sym, ap, ◌∙◌, subst, arith}
use Rattle.std.specs.Prelude.{◌&&◌, ◌+◌, IsTrue, nat_eq, option_and_then}
use Rattle.std.specs.List.{AllByRecursion, count_by, fold}
use Rattle.std.specs.Str.{bytes_eq}
use Rattle.std.specs.declared.cmp.Ordering.{Ordering}
use Rattle.std.specs.declared.cmp.Ordering.TheVariants.{Less, Equal, Greater}
use Rattle.std.specs.Ordering.{nat_cmp, eq_by_cmp, is_eq, ordering_then}
use Rattle.std.specs.Cmp.{unsigned_ties}
use Rattle.std.specs.FinMap.{get, get-insert, get-empty}
use Rattle.std.proofs.lemmas.List.Elements.{recursion_from_All}
use Rattle.std.proofs.lemmas.List.Sums.{sum_by-cons}
use Rattle.gr_core.specs.declared.resolution.Poll.{Poll}
use Rattle.gr_core.specs.declared.resolution.Resolution.{Resolution}
use Rattle.gr_core.specs.declared.resolution.Resolution.TheVariants.{Draft, Discussing, Voting, Closed, Cancelled}
use Rattle.gr_core.specs.declared.refusal.Refusal.{Refusal}
use Rattle.gr_core.specs.declared.refusal.Refusal.TheVariants.{BadToken, ClockBack, WrongStage, Ended}
use Rattle.gr_core.specs.declared.reply.Note.TheVariants.{Receipt}
use Rattle.gr_core.specs.Parts.Key.{text_cmp, ballot_cmp, BallotKey}
use Rattle.gr_core.specs.Parts.Token.{IsToken}
use Rattle.gr_core.specs.Parts.Resolution.{poll_of, present_poll, is_voting, is_closed, end_of_voting}
use Rattle.gr_core.specs.Parts.Ballot.{BallotModel, new_ballot, with_received, received_of}
use Rattle.gr_core.specs.Desks.State.{State}
use Rattle.gr_core.specs.Machine.Act.{Act, Vote}
use Rattle.gr_core.specs.Machine.Refusal.{Applies, IsAccepted, may_come}
use Rattle.gr_core.specs.Machine.Effect.{effect, counted}
use Rattle.gr_core.specs.Machine.Step.{Answer, Accepted, Refused, Step}
use Rattle.gr_core.specs.Machine.Run.{After, accepted_acts}
use Rattle.gr_core.specs.Laws.ResolutionLaws.{MayBecome}
use Rattle.gr_core.specs.Laws.VotingLaws.{votes_in, votes_as, voted, BallotsAreTheLastVotes, VotesPutTheirBallot, OnlyVotesTouchBallots, BallotsStayOnceClosed, TokensLeaveNoTrace, BallotsStayFromTheEndOfVoting, NoVoteFromTheEndOfVoting, ReceiptsStandUntilTheNextVote, ReceivedCountsTheVotes, VotesRaiseReceivedByOne, left_by_vote, receipt_reply}
use Rattle.gr_core.proofs.Collections.PresenceLemmas.{not_None, given, taken}
use Rattle.gr_core.proofs.Contents.StableLemmas.{lt_or_ge}
use Rattle.gr_core.proofs.Contents.ChoiceKeys.{same_number}
use Rattle.gr_core.proofs.Effects.ImportLemmas.{same_login}
use Rattle.gr_core.proofs.Contents.BallotKeys.{ballot_total, ballot_only}
use Rattle.gr_core.proofs.Collections.RowPutLemmas.{get-put, get-put_other}
use Rattle.gr_core.proofs.Effects.LeftTableLemmas.{ballots-effect}
use Rattle.gr_core.proofs.Validity.ValidLemmas.{step_valid}
use Rattle.gr_core.proofs.Effects.ResolutionLemmas.{stages_follow}
use Rattle.gr_core.proofs.Effects.LeftVoteLemmas.{keeps_poll}
use Rattle.gr_core.proofs.Collections.TableLemmas.{tied}
use Rattle.gr_core.proofs.Columns.Rows1Lemmas.{get-received_once}

-- ==== votes

-- a vote puts its ballot, and touches nothing else
pub vote_puts : VotesPutTheirBallot
vote_puts s at resolution login ranks token reply t step =
    let ballot = new_ballot (get s.ballots (resolution, login)) resolution login ranks token in
    let put = ap (λ (u : State). u.ballots) step.2 in (
      ap (λ m. get m (resolution, login)) put
          ∙ get-put ballot_total ballot_only s.ballots (resolution, login) ballot,
      λ other differs. ap (λ m. get m other) put
          ∙ get-put_other ballot_total ballot_only s.ballots (resolution, login) other ballot differs,
      ap (λ (u : State). u.developers) step.2,
      ap (λ (u : State). u.resolutions) step.2,
      ap (λ (u : State). u.choices) step.2,
      ap (λ (u : State). u.sponsors) step.2,
      ap (λ (u : State). u.header) step.2,
    )

-- ==== the ballot of one voter

both_tie : (first second : Ordering) → is_eq (ordering_then first second) ≡ (is_eq first && is_eq second)
both_tie Less second = refl
both_tie Equal second = refl
both_tie Greater second = refl

-- keys of ballots are equal where their resolutions and their logins are
same_ballot : (resolution number : ℕ) (voter login : List ℕ)
    → eq_by_cmp ballot_cmp (resolution, voter) (number, login) ≡ (nat_eq resolution number && bytes_eq voter login)
same_ballot resolution number voter login =
    both_tie (nat_cmp resolution number) (text_cmp voter login)
    ∙ λ i. sym (unsigned_ties resolution number) i && same_login voter login i

module _ (resolution : ℕ) (voter : List ℕ) where
  -- the ballot that stands after an act is that of the act, if it is a vote of this voter, or stood before
  pub stands : (s : State) (at : ℕ) (act : Act)
      → get (effect s at act).ballots (resolution, voter)
      ≡ voted resolution voter (get s.ballots (resolution, voter)) (at, act)
  stands s at (Vote number login ranks token) =
      let key : BallotKey = (number, login) in
      let own : BallotKey = (resolution, voter) in
      let ballot : BallotKey → BallotModel = λ k. new_ballot (get s.ballots k) number login ranks token in
      get-insert ballot_total s.ballots key (ballot key) own
      ∙ elim (eq_by_cmp ballot_cmp own key) as (λ b. eq_by_cmp ballot_cmp own key ≡ b
      → cond b (Some (ballot key)) (get s.ballots own) ≡ cond b (Some (ballot own)) (get s.ballots own)) [
        | true ↦ λ same. ap (λ k. Some (ballot k)) (sym (ballot_only own key (tied _ same)))
        | false ↦ λ other. refl
      ] refl
      ∙ ap (λ b. cond b (Some (ballot own)) (get s.ballots own)) (same_ballot resolution number voter login)
  stands s at act = ap (λ ballots. get ballots (resolution, voter)) (ballots-effect s at act refl)

  -- where the act is no such vote, it stood before
  stood_before : (stood : Option BallotModel) (at : ℕ) (act : Act) → votes_as resolution voter act ≡ false
      → voted resolution voter stood (at, act) ≡ stood
  stood_before stood at (Vote number login ranks token) other =
      ap (λ b. cond b (Some (new_ballot stood number login ranks token)) stood) other
  stood_before stood at act other = refl

  -- after a list of acts it is that of the last such vote, or stood before
  stands_after : (s : State) (acts : List (ℕ × Act)) (answers : List Answer) (t : State) → After s acts answers t
      → get t.ballots (resolution, voter)
      ≡ fold (voted resolution voter) (get s.ballots (resolution, voter)) (accepted_acts acts answers)
  stands_after s [] [] t p = ap (λ (u : State). get u.ballots (resolution, voter)) p
  stands_after s [] (x ∷ xs) t p = absurd p
  stands_after s (act ∷ acts) [] t p = absurd p
  stands_after s ((at, act) ∷ acts) (Accepted reply ∷ xs) t p =
      stands_after p.0 acts xs t p.2
      ∙ ap (λ stood. fold (voted resolution voter) stood (accepted_acts acts xs))
      (ap (λ (u : State). get u.ballots (resolution, voter)) p.1.2 ∙ stands s at act)
  stands_after s (act ∷ acts) (Refused refusal ∷ xs) t p =
      stands_after s acts xs t (subst (λ mid. After mid acts xs t) p.1.1 p.2)

  -- where none of the acts is such a vote, it stood before
  stood_before_all : (stood : Option BallotModel) (acts : List (ℕ × Act))
      → AllByRecursion (λ act. votes_as resolution voter act.1 ≡ false) acts
      → fold (voted resolution voter) stood acts ≡ stood
  stood_before_all stood [] others = refl
  stood_before_all stood ((at, act) ∷ acts) others =
      ap (λ before. fold (voted resolution voter) before acts) (stood_before stood at act others.0)
      ∙ stood_before_all stood acts others.1

-- no act but a vote of its voter in its resolution touches a ballot
pub others_leave : OnlyVotesTouchBallots
others_leave s at act reply t resolution voter step other =
    ap (λ (u : State). get u.ballots (resolution, voter)) step.2 ∙ stands resolution voter s at act
    ∙ stood_before resolution voter (get s.ballots (resolution, voter)) at act other

-- the ballots are the last votes, and before all acts there is none
pub last_votes : BallotsAreTheLastVotes
last_votes = (
  λ s acts answers t resolution voter p. stands_after resolution voter s acts answers t p,
  λ key. get-empty ballot_cmp key,
)

-- ==== how often a developer voted

module _ (resolution : ℕ) (voter : List ℕ) where
  -- one act raises the number by one if it is a vote of this voter
  raised : (stood : Option BallotModel) (at : ℕ) (act : Act)
      → received_of (voted resolution voter stood (at, act))
      ≡ received_of stood + cond (votes_as resolution voter act) 1 0
  raised stood at (Vote number login ranks token) =
      elim (votes_as resolution voter (Vote number login ranks token)) as (λ b.
      received_of (cond b (Some (new_ballot stood number login ranks token)) stood)
      ≡ received_of stood + cond b 1 0) [
        | true ↦ refl
        | false ↦ omega arith
      ]
  raised stood at act = omega arith

  -- so a list of acts by the number of such votes
  raised_all : (stood : Option BallotModel) (acts : List (ℕ × Act))
      → received_of (fold (voted resolution voter) stood acts)
      ≡ received_of stood + count_by (λ act. votes_as resolution voter act.1) acts
  raised_all stood [] = omega arith
  raised_all stood ((at, act) ∷ acts) =
      let one = raised stood at act in
      let others = raised_all (voted resolution voter stood (at, act)) acts in
      let test = λ (a : ℕ × Act). votes_as resolution voter a.1 in
      let count : count_by test ((at, act) ∷ acts) ≡ cond (votes_as resolution voter act) 1 0 + count_by test acts
      = sum_by-cons (λ a. cond (test a) 1 0) (at, act) acts in
      omega arith

once_received : (o : Option BallotModel) → received_of (option_map (with_received 1) o) ≡ cond (is_some o) 1 0
once_received None = refl
once_received (Some ballot) = refl

-- `received` counts the accepted votes
pub received_counts : ReceivedCountsTheVotes
received_counts = (
  λ s acts answers t resolution voter p.
      ap received_of (stands_after resolution voter s acts answers t p)
      ∙ raised_all resolution voter (get s.ballots (resolution, voter)) (accepted_acts acts answers),
  λ key. ap received_of (get-empty ballot_cmp key),
  λ s key. ap received_of (get-received_once s.ballots key) ∙ once_received (get s.ballots key),
)

-- a vote raises it by one
pub raised_by_one : VotesRaiseReceivedByOne
raised_by_one s at resolution login ranks token reply t step =
    ap received_of (vote_puts s at resolution login ranks token reply t step).0

-- a receipt stands until the voter votes on the resolution again
pub receipt_stands : ReceiptsStandUntilTheNextVote
receipt_stands s at resolution login ranks token reply t acts answers u step p others =
    let ballot = new_ballot (get s.ballots (resolution, login)) resolution login ranks token in
    let accepted = accepted_acts acts answers in
    let stood = stands_after resolution login t acts answers u p
    ∙ stood_before_all resolution login (get t.ballots (resolution, login)) accepted
    (recursion_from_All (λ act. votes_as resolution login act.1 ≡ false) accepted others)
    ∙ (vote_puts s at resolution login ranks token reply t step).0 in
    given (get u.ballots (resolution, login)) (λ b. reply.note ≡ Receipt b.receipt) ballot stood
    (ap (λ r. r.note) step.1)

-- ==== from the end of voting on

module _ (s : State) (at number : ℕ) (poll : Poll) (late : end_of_voting poll ≤ at) where
  -- no vote on the resolution is accepted
  too_late : (row : Resolution) → get s.resolutions number ≡ Some row → poll_of row ≡ Some poll
      → (login ranks token : List ℕ) → IsAccepted s at (Vote number login ranks token) → ⊥
  too_late (Voting discussion held) is polled login ranks token accepted =
      accepted Ended (inr (given (option_and_then present_poll (get s.resolutions number))
      (λ (p : Poll). end_of_voting p ≤ at) poll (ap (option_and_then present_poll) is ∙ polled) late))
  too_late (Closed discussion held chosen) is polled login ranks token accepted =
      accepted WrongStage (given (get s.resolutions number)
      (λ row. IsFalse (may_come (Vote number login ranks token) row)) (Closed discussion held chosen) is refl)
  too_late Draft is polled login ranks token accepted = absurd (not_None poll polled)
  too_late (Discussing discussion) is polled login ranks token accepted = absurd (not_None poll polled)
  too_late (Cancelled discussion) is polled login ranks token accepted = absurd (not_None poll polled)

  -- so an accepted act is none
  no_vote : (row : Resolution) → get s.resolutions number ≡ Some row → poll_of row ≡ Some poll
      → (act : Act) → IsAccepted s at act → votes_in number act ≡ false
  no_vote row is polled (Vote resolution login ranks token) accepted =
      elim (nat_eq number resolution) as (λ b. nat_eq number resolution ≡ b → b ≡ false) [
        | true ↦ λ same. absurd (too_late row is polled login ranks token
            (subst (λ n. IsAccepted s at (Vote n login ranks token)) (sym (same_number number resolution same)) accepted))
        | false ↦ λ other. refl
      ] refl
  no_vote row is polled act accepted = refl

-- an act that is no vote on the resolution is none of one of its voters
no_vote_as : (number : ℕ) (voter : List ℕ) (act : Act) → votes_in number act ≡ false
    → votes_as number voter act ≡ false
no_vote_as number voter (Vote resolution login ranks token) other = ap (λ b. b && bytes_eq voter login) other
no_vote_as number voter act other = refl

-- no act at or after the end of voting is a vote, or changes a ballot
pub no_late_vote : NoVoteFromTheEndOfVoting
no_late_vote s at act reply t number row poll voter is polled late step =
    let none = no_vote s at number poll late row is polled act step.0 in
    (none, others_leave s at act reply t number voter step (no_vote_as number voter act none))

-- nor does any of a list of acts, once the clock is there
pub late_ballots_stay : BallotsStayFromTheEndOfVoting
late_ballots_stay s [] [] t number row poll voter valid is polled late p =
    ap (λ (u : State). get u.ballots (number, voter)) p
late_ballots_stay s [] (x ∷ xs) t number row poll voter valid is polled late p = absurd p
late_ballots_stay s (act ∷ acts) [] t number row poll voter valid is polled late p = absurd p
late_ballots_stay s ((at, act) ∷ acts) (Accepted reply ∷ xs) t number row poll voter valid is polled late p =
    let mid = counted (effect s at act) at in
    let later : s.header.clock ≤ at = elim (lt_or_ge at s.header.clock) [
      | inl before ↦ absurd (p.1.0 ClockBack before)
      | inr after ↦ after
    ] in
    let due : end_of_voting poll ≤ at = omega arith in
    let kept = keeps_poll s.header.clock s at valid.tables number row poll is polled act p.1.0 in
    let after = taken (get mid.resolutions number) (λ r. poll_of r ≡ Some poll) kept.row in
    late_ballots_stay mid acts xs t number after.0 poll voter (step_valid s at act valid p.1.0) after.1 after.2 due
    (subst (λ u. After u acts xs t) p.1.2 p.2)
    ∙ (no_late_vote s at act reply mid number row poll voter is polled due (p.1.0, p.1.1, refl)).1
late_ballots_stay s (act ∷ acts) (Refused refusal ∷ xs) t number row poll voter valid is polled late p =
    late_ballots_stay s acts xs t number row poll voter valid is polled late
    (subst (λ mid. After mid acts xs t) p.1.1 p.2)

-- ==== once a vote is closed

-- a closed resolution stays closed
closed_stays : (before after : Resolution) → IsTrue (is_closed before) → MayBecome before after → IsTrue (is_closed after)
closed_stays (Closed discussion poll None) (Closed later held None) closed follows = refl
closed_stays (Closed discussion poll None) (Closed later held (Some place)) closed follows = refl
closed_stays (Closed discussion poll (Some chosen)) (Closed later held None) closed follows = refl
closed_stays (Closed discussion poll (Some chosen)) (Closed later held (Some place)) closed follows = refl
closed_stays (Closed discussion poll None) Draft closed follows = absurd (cc)
closed_stays (Closed discussion poll None) (Discussing later) closed follows = absurd (cc)
closed_stays (Closed discussion poll None) (Voting later held) closed follows = absurd (cc)
closed_stays (Closed discussion poll None) (Cancelled later) closed follows = absurd (cc)
closed_stays (Closed discussion poll (Some chosen)) Draft closed follows = absurd (cc)
closed_stays (Closed discussion poll (Some chosen)) (Discussing later) closed follows = absurd (cc)
closed_stays (Closed discussion poll (Some chosen)) (Voting later held) closed follows = absurd (cc)
closed_stays (Closed discussion poll (Some chosen)) (Cancelled later) closed follows = absurd (cc)
closed_stays Draft after closed follows = absurd (cc)
closed_stays (Discussing discussion) after closed follows = absurd (cc)
closed_stays (Voting discussion poll) after closed follows = absurd (cc)
closed_stays (Cancelled discussion) after closed follows = absurd (cc)

-- no vote is taken in it
closed_takes_none : (row : Resolution) → IsTrue (is_closed row) → IsFalse (is_voting row)
closed_takes_none Draft closed = refl
closed_takes_none (Discussing discussion) closed = refl
closed_takes_none (Voting discussion poll) closed = absurd (cc)
closed_takes_none (Closed discussion poll chosen) closed = refl
closed_takes_none (Cancelled discussion) closed = refl

no_vote_once_closed : (s : State) (at number : ℕ) (row : Resolution) → get s.resolutions number ≡ Some row
    → IsTrue (is_closed row) → (act : Act) → IsAccepted s at act → votes_in number act ≡ false
no_vote_once_closed s at number row is closed (Vote resolution login ranks token) accepted =
    elim (nat_eq number resolution) as (λ b. nat_eq number resolution ≡ b → b ≡ false) [
      | true ↦ λ same. absurd (accepted WrongStage (given (get s.resolutions resolution)
          (λ r. IsFalse (is_voting r)) row (ap (get s.resolutions) (sym (same_number number resolution same)) ∙ is)
          (closed_takes_none row closed)))
      | false ↦ λ other. refl
    ] refl
no_vote_once_closed s at number row is closed act accepted = refl

-- so its ballots stay
pub closed_ballots_stay : BallotsStayOnceClosed
closed_ballots_stay s [] [] t number row voter valid is closed p = ap (λ (u : State). get u.ballots (number, voter)) p
closed_ballots_stay s [] (x ∷ xs) t number row voter valid is closed p = absurd p
closed_ballots_stay s (act ∷ acts) [] t number row voter valid is closed p = absurd p
closed_ballots_stay s ((at, act) ∷ acts) (Accepted reply ∷ xs) t number row voter valid is closed p =
    let mid = counted (effect s at act) at in
    let step : Step s at act (Accepted reply) mid = (p.1.0, p.1.1, refl) in
    let after = taken (get mid.resolutions number) (MayBecome row)
    (stages_follow s at act reply mid number row valid step is) in
    closed_ballots_stay mid acts xs t number after.0 voter (step_valid s at act valid p.1.0) after.1
    (closed_stays row after.0 closed after.2) (subst (λ u. After u acts xs t) p.1.2 p.2)
    ∙ others_leave s at act reply mid number voter step
    (no_vote_as number voter act (no_vote_once_closed s at number row is closed act p.1.0))
closed_ballots_stay s (act ∷ acts) (Refused refusal ∷ xs) t number row voter valid is closed p =
    closed_ballots_stay s acts xs t number row voter valid is closed
    (subst (λ mid. After mid acts xs t) p.1.1 p.2)

-- ==== tokens

-- a vote that is refused with one token is refused with another, but for a token that is none
other_token : (s : State) (at resolution : ℕ) (login ranks token other : List ℕ) → IsToken other → (refusal : Refusal)
    → Applies refusal s at (Vote resolution login ranks other) → Applies refusal s at (Vote resolution login ranks token)
other_token s at resolution login ranks token other well_formed BadToken h = absurd (h well_formed)
other_token s at resolution login ranks token other well_formed refusal h = h

-- what a vote leaves and is answered with speaks of its receipt alone
pub tokens_vanish : TokensLeaveNoTrace
tokens_vanish s at resolution login ranks token reply t step = (
  step.2,
  step.1,
  λ other well_formed same. (
    λ refusal h. step.0 refusal (other_token s at resolution login ranks token other well_formed refusal h),
    step.1 ∙ ap (receipt_reply s) (sym same),
    step.2 ∙ ap (left_by_vote s at resolution login ranks) (sym same),
  ),
)
