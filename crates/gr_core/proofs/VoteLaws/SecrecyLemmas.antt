-- What is planned and answered on two states that are alike but for the ballots of votes that are held.
use Rattle.std.proofs.Common.{◌≡◌, ℕ, ◌⊎◌, true, false, cond, Bool, List, [], ◌∷◌, ◌++◌, Option, Some, None, is_some, IsSomeAnd, inl, inr, refl, sym, ap, ◌∙◌, subst}
use Rattle.std.specs.Prelude.{◌+◌, map, IsSome, IsTrue, IsFalse, option_and_then, unwrap_or}
use Rattle.std.proofs.lemmas.List.Elements.{All-head, All-tail, All-weaker}
use Rattle.std.specs.FinMap.{FinMap, get, insert}
use Rattle.gr_core.specs.declared.resolution.Poll.{Poll}
use Rattle.gr_core.specs.declared.discussion.Discussion.{Discussion}
use Rattle.gr_core.specs.declared.resolution.Resolution.{Resolution}
use Rattle.gr_core.specs.declared.resolution.Resolution.TheVariants.{Voting, Closed}
use Rattle.gr_core.specs.declared.bookkeeping.Gain.{Gain}
use Rattle.gr_core.specs.declared.bookkeeping.Gain.TheVariants.{Nothing, Introduction, Remedy}
use Rattle.gr_core.specs.declared.choice.ChoiceKey.{ChoiceKey}
use Rattle.gr_core.specs.declared.refusal.Refusal.{Refusal}
use Rattle.gr_core.specs.declared.refusal.Refusal.TheVariants.{WrongStage, Full, NotTied, BadRanks}
use Rattle.gr_core.specs.declared.plan.Plan.{Plan}
use Rattle.gr_core.specs.declared.plan.NoPlan.{NoPlan}
use Rattle.gr_core.specs.declared.plan.NoPlan.TheVariants as none
use Rattle.gr_core.specs.Parts.Key.{BallotKey, ballot_cmp}
use Rattle.gr_core.specs.Parts.Resolution.{present_poll, poll_of, is_closed}
use Rattle.gr_core.specs.Parts.Ballot.{BallotModel, with_received, new_ballot}
use Rattle.gr_core.specs.Columns.Fields.{ranks_text}
use Rattle.gr_core.specs.Desks.State.{State}
use Rattle.gr_count.specs.Ballot.{IsBallot, mark_of}
use Rattle.gr_count.specs.Rounds.{IsInOutcome}
use Rattle.gr_core.specs.Desks.Outcome.{place_count, election_at, option_at, HasWinner, IsPlace, CannotBeChosen}
use Rattle.gr_core.specs.Machine.Bookkeeping.{with_gain, gain_at, becomes_short, shortened}
use Rattle.gr_core.specs.Machine.Map.{changed_at, changed_where}
use Rattle.gr_core.specs.Desks.Valid.{IsValid}
use Rattle.gr_core.specs.Machine.Act.{Act, SetDeveloper, Vote, Close, Cast}
use Rattle.gr_core.specs.Machine.Refusal.{Applies, PassesALimit, ChoosesWithoutATie, Refuses, IsAccepted}
use Rattle.gr_core.specs.Machine.Effect.{own, gaining, losing, booked, effect, counted, ballots_put, developer_rows, resolutions_put, choices_put, sponsors_put, rows_at, puts_by, rows_by}
use Rattle.gr_core.specs.Machine.Row.{ResolutionOf, ChoiceOf, SponsorOf, BallotOf, HeaderOf, put_all}
use Rattle.gr_core.specs.Machine.Plan.{HasRowsOf, IsNoPlanFor, rows_of, IsPlanFor}
use Rattle.gr_core.specs.Machine.Step.{Accepted, Refused, reply_to}
use Rattle.gr_core.specs.Machine.Run.{After, accepted_acts}
use Rattle.gr_core.specs.Laws.ResolutionLaws.{touched}
use Rattle.gr_core.specs.Laws.Secrecy.{IsHeldIn, AreAlike, PlansRevealNothing, ClosesTheSame, AnswersRevealNothing, put_with, row_with, IsPlanButForReceived, OtherRanksLeaveAnAlikeDesk}
use Rattle.gr_core.proofs.Collections.PresenceLemmas.{not_false, given}
use Rattle.gr_core.proofs.Collections.RowPutLemmas.{get-put, insert-again, get-put_other}
use Rattle.gr_core.proofs.Contents.StableLemmas.{same_or_other}
use Rattle.gr_core.proofs.Contents.BallotKeys.{ballot_total, ballot_only}
use Rattle.gr_core.proofs.Columns.RanksLemmas.{text-of-marks}
use Rattle.gr_core.proofs.Effects.PutAllLemmas.{put_all-rows_by}
use Rattle.gr_core.proofs.Effects.VoteFindsPollLemmas.{poll_of_vote, ranks_of_vote}
use Rattle.gr_core.proofs.Validity.ValidLemmas.{step_valid}
use Rattle.gr_core.proofs.Effects.LeftResolutionLemmas.{touches_one}
use Rattle.gr_core.proofs.Effects.LeftVoteLemmas.{ballots_of-same, election-same, touches_another}
use Rattle.gr_core.specs.Laws.VotingLaws.{voted}
use Rattle.gr_core.proofs.Effects.PutLemmas.{vote_puts}
use Rattle.gr_core.proofs.VoteLaws.VoterLemmas.{stands}

-- ==== the same state with other ballots

-- the state with these ballots
abbrev with_ballots : State → FinMap ballot_cmp BallotModel → State
with_ballots s ballots = record s { ballots = ballots }

-- outside of the votes that are held these are the ballots of the state
abbrev HasTheEnded : State → FinMap ballot_cmp BallotModel → Type 0
HasTheEnded s ballots = (resolution : ℕ) (login : List ℕ) → ¬ (IsHeldIn s resolution)
    → get ballots (resolution, login) ≡ get s.ballots (resolution, login)

-- ==== refusals

module _ (s : State) (ballots : FinMap ballot_cmp BallotModel) (ended : HasTheEnded s ballots) where
  -- what is counted of a resolution on which no vote is held is the same
  election-ended : (number : ℕ) (poll : Poll) → ¬ (IsHeldIn s number)
      → election_at (with_ballots s ballots) number poll ≡ election_at s number poll
  election-ended number poll unheld =
      election-same s (with_ballots s ballots) number poll refl
      (ballots_of-same s.ballots ballots number (λ login. ended number login unheld))

  -- what a casting vote cannot choose on a closed resolution it cannot choose in either state
  tie-same : (number place : ℕ) (found : Option Resolution) → get s.resolutions number ≡ found
      → IsSomeAnd found (λ row.
      IsTrue (is_closed row) × IsSomeAnd (poll_of row) (λ poll. CannotBeChosen s number poll place))
      → IsSomeAnd found (λ row. IsTrue (is_closed row)
      × IsSomeAnd (poll_of row) (λ poll. CannotBeChosen (with_ballots s ballots) number poll place))
  tie-same number place None is h = h
  tie-same number place (Some (Closed discussion poll chosen)) is h = (
    h.0,
    subst (λ e. HasWinner e ⊎ (¬ (IsPlace s number place × IsInOutcome e (option_at place))))
        (sym (election-ended number poll (λ held. not_false
        (ap (λ o. is_some (option_and_then present_poll o)) (sym is) ∙ held))))
        h.1,
  )
  tie-same number place (Some other) is h = absurd (not_false h.0)

  -- so it is refused alike
  untied-same : (act : Act) → ChoosesWithoutATie s act → ChoosesWithoutATie (with_ballots s ballots) act
  untied-same (Cast number place) h = tie-same number place (get s.resolutions number) refl h
  untied-same act h = h

  -- what passes a limit does so in both
  limit-same : (act : Act) → PassesALimit s act → PassesALimit (with_ballots s ballots) act
  limit-same (SetDeveloper login name standing) h = record { new = h.new; full = h.full }
  limit-same other h = h

  -- no refusal's condition sees ballots of votes that are held
  applies-same : (refusal : Refusal) (at : ℕ) (act : Act) → Applies refusal s at act
      → Applies refusal (with_ballots s ballots) at act
  applies-same Full at act (inl many) = inl many
  applies-same Full at act (inr past) = inr (limit-same act past)
  applies-same NotTied at act h = untied-same act h
  applies-same refusal at act h = h

-- ==== states that are alike

-- one of two alike states is the other with its own ballots
alike-is : (s t : State) → AreAlike s t → t ≡ with_ballots s t.ballots
alike-is s t alike = λ i. record {
  header = alike.header i;
  developers = alike.developers i;
  resolutions = alike.resolutions i;
  choices = alike.choices i;
  sponsors = alike.sponsors i;
  ballots = t.ballots;
}

-- each is alike to the other
alike-sym : (s t : State) → AreAlike s t → AreAlike t s
alike-sym s t alike = record {
  header = sym alike.header;
  developers = sym alike.developers;
  resolutions = sym alike.resolutions;
  choices = sym alike.choices;
  sponsors = sym alike.sponsors;
  ballots = λ resolution login unheld. sym (alike.ballots resolution login (λ held. unheld
      (subst (λ resolutions. IsSome (option_and_then present_poll (get resolutions resolution)))
      (sym alike.resolutions) held)));
}

module _ (s t : State) (alike : AreAlike s t) (at : ℕ) (act : Act) where
  -- the same refusals apply to an act
  applies-alike : (refusal : Refusal) → Applies refusal s at act → Applies refusal t at act
  applies-alike refusal h =
      subst (λ u. Applies refusal u at act) (sym (alike-is s t alike))
      (applies-same s t.ballots alike.ballots refusal at act h)

-- so an act is refused alike
refuses-alike : (s t : State) → AreAlike s t → (at : ℕ) (act : Act) (refusal : Refusal) → Refuses s at act refusal
    → Refuses t at act refusal
refuses-alike s t alike at act refusal refuses = record {
  applies = applies-alike s t alike at act refusal refuses.applies;
  least = λ other h. refuses.least other (applies-alike t s (alike-sym s t alike) at act other h);
}

-- and accepted alike
accepted-alike : (s t : State) → AreAlike s t → (at : ℕ) (act : Act) → IsAccepted s at act → IsAccepted t at act
accepted-alike s t alike at act accepted =
    λ refusal h. accepted refusal (applies-alike t s (alike-sym s t alike) at act refusal h)

-- with the same reply
reply-alike : (s t : State) → AreAlike s t → (at : ℕ) (act : Act) → reply_to t at act ≡ reply_to s at act
reply-alike s t alike at act = ap (λ u. reply_to u at act) (alike-is s t alike)

-- ==== what an accepted act puts

module _ (s : State) (ballots : FinMap ballot_cmp BallotModel) where
  -- bookkeeping sees no ballots
  gain-with : (gain : Gain) (at : ℕ) (key : ChoiceKey)
      → with_gain gain (with_ballots s ballots) at key ≡ with_ballots (with_gain gain s at key) ballots
  gain-with Nothing at key = refl
  gain-with Introduction at key = refl
  gain-with Remedy at key = refl

  loss-with : (is : Bool) (at : ℕ) (key : ChoiceKey)
      → cond is (with_ballots (record s { choices = changed_at s.choices key (shortened at) }) ballots)
      (with_ballots s ballots)
      ≡ with_ballots (cond is (record s { choices = changed_at s.choices key (shortened at) }) s) ballots
  loss-with true at key = refl
  loss-with false at key = refl

  booked-with : (gains loses : Option ChoiceKey) (at : ℕ)
      → booked gains loses at (with_ballots s ballots) ≡ with_ballots (booked gains loses at s) ballots
  booked-with (Some choice) loses at = gain-with (gain_at s choice) at choice
  booked-with None (Some choice) at = loss-with (becomes_short s choice) at choice
  booked-with None None at = refl

module _ (s : State) (ballots : FinMap ballot_cmp BallotModel) where
  -- nor does an act that puts none
  own-with : (at : ℕ) (act : Act) → ballots_put act ≡ []
      → own (with_ballots s ballots) at act ≡ with_ballots (own s at act) ballots
  own-with at (Vote resolution login ranks token) none =
      absurd (let never : ◌≡◌ {A = List BallotKey} ((resolution, login) ∷ []) [] = none in cc)
  own-with at other none = refl

  -- so its effect is the same but for them
  effect-with : (at : ℕ) (act : Act) → ballots_put act ≡ []
      → effect (with_ballots s ballots) at act ≡ with_ballots (effect s at act) ballots
  effect-with at act none =
      ap (booked (gaining s act) (losing act) at) (own-with at act none)
      ∙ booked-with (own s at act) ballots (gaining s act) (losing act) at

  -- and it puts the same rows
  puts-with : (at : ℕ) (act : Act) → ballots_put act ≡ [] → puts_by (with_ballots s ballots) at act ≡ puts_by s at act
  puts-with at (Vote resolution login ranks token) none =
      absurd (let never : ◌≡◌ {A = List BallotKey} ((resolution, login) ∷ []) [] = none in cc)
  puts-with at act none =
      ap (λ (u : State). developer_rows s act
      ++ rows_at ResolutionOf u.resolutions (resolutions_put s at act)
      ++ rows_at ChoiceOf u.choices (choices_put s at act)
      ++ rows_at SponsorOf u.sponsors (sponsors_put s act)
      ++ [])
      (effect-with at act refl)

-- an accepted act that is no vote puts the same rows on alike states
rows-alike : (s t : State) → AreAlike s t → (at : ℕ) (act : Act) → ballots_put act ≡ []
    → rows_by t at act ≡ rows_by s at act
rows-alike s t alike at act none =
    ap (λ u. rows_by u at act) (alike-is s t alike)
    ∙ ap (λ rows. rows ++ HeaderOf (counted s at).header ∷ []) (puts-with s t.ballots at act none)

-- the rows of a vote
vote_rows : (s : State) (at resolution : ℕ) (login ranks token : List ℕ)
    → rows_by s at (Vote resolution login ranks token)
    ≡ BallotOf (resolution, login) (new_ballot (get s.ballots (resolution, login)) resolution login ranks token)
    ∷ HeaderOf (counted s at).header ∷ []
vote_rows s at resolution login ranks token =
    ap (λ rows. rows ++ HeaderOf (counted s at).header ∷ []) (vote_puts s at resolution login ranks token)

-- the state after a vote, with another number in its ballot
vote_with : (t : State) (at resolution : ℕ) (login ranks token : List ℕ) (received : ℕ)
    → put_with received (Vote resolution login ranks token)
    (counted (effect t at (Vote resolution login ranks token)) at)
    ≡ counted (with_ballots t (insert t.ballots (resolution, login) (with_received received
    (new_ballot (get t.ballots (resolution, login)) resolution login ranks token)))) at
vote_with t at resolution login ranks token received =
    let key : BallotKey = (resolution, login) in
    let row = new_ballot (get t.ballots key) resolution login ranks token in
    let ballots = insert t.ballots key row in
    ap (λ m. counted (with_ballots t m) at)
    (ap (changed_where ballots key (with_received received)) (get-put ballot_total ballot_only t.ballots key row)
    ∙ insert-again ballot_total ballot_only t.ballots key row (with_received received row))

-- ==== plans

-- where none can be made on the one, none can be made on the other
unplanned-alike : (s t : State) → AreAlike s t → (at : ℕ) (act : Act) (no_plan : NoPlan) → IsNoPlanFor s at act no_plan
    → IsNoPlanFor t at act no_plan
unplanned-alike s t alike at act (none.Refused refusal) is = refuses-alike s t alike at act refusal is
unplanned-alike s t alike at act none.Memory is = accepted-alike s t alike at act is

-- what is right to answer on the one is right on the other
module _ (s t : State) (alike : AreAlike s t) (at : ℕ) where
  -- the plan of an act that is no vote is right on both
  same_plan : (act : Act) → ballots_put act ≡ [] → (plan : Plan) → IsPlanFor s at act plan → HasRowsOf s at act plan
      → IsPlanFor t at act plan × HasRowsOf t at act plan
  same_plan act none plan is has =
      let accepted = accepted-alike s t alike at act is.0 in
      let rows : HasRowsOf t at act plan = has ∙ sym (rows-alike s t alike at act none) in (
        (
          accepted,
          is.1 ∙ sym (reply-alike s t alike at act),
          ap (put_all t) rows ∙ put_all-rows_by t at act accepted,
        ),
        rows,
      )

  -- and that of a vote but for its number
  plan_alike : (act : Act) (plan : Plan) → IsPlanFor s at act plan → HasRowsOf s at act plan
      → IsPlanButForReceived t at act plan
  plan_alike (Vote resolution login ranks token) plan is has =
      let act = Vote resolution login ranks token in
      let key : BallotKey = (resolution, login) in
      let row : BallotModel = new_ballot (get s.ballots key) resolution login ranks token in
      let rows = has ∙ vote_rows s at resolution login ranks token
      ∙ ap (λ header. BallotOf key row ∷ HeaderOf (record header { accepted = header.accepted + 1; clock = at }) ∷ [])
      (sym alike.header) in
      record {
        received = row.received;
        after = counted (effect t at act) at;
        step = (accepted-alike s t alike at act is.0, is.1 ∙ sym (reply-alike s t alike at act), refl);
        puts = ap (put_all t) rows ∙ sym (vote_with t at resolution login ranks token row.received);
        rows = rows ∙ ap (map (row_with row.received)) (sym (vote_rows t at resolution login ranks token));
      }
  plan_alike act plan is has =
      let same = same_plan act refl plan is has in
      record { received = 0; after = put_all t (rows_of plan); step = same.0; puts = refl; rows = same.1 }

pub plans_alike : PlansRevealNothing
plans_alike s t at act alike = (plan_alike s t alike at act, unplanned-alike s t alike at act)

-- ==== lists of acts

-- a vote that is held
voting : (found : Option Resolution) → IsSome (option_and_then present_poll found)
    → (discussion : Discussion) × (poll : Poll) × (found ≡ Some (Voting discussion poll))
voting None held = absurd (not_false held)
voting (Some (Voting discussion poll)) held = (discussion, poll, refl)
voting (Some other) held = absurd (not_false held)

-- the act ends a vote
abbrev closes : Act → Bool
closes (Close resolution) = true
closes other = false

module _ (s : State) (at : ℕ) (valid : IsValid s) (number : ℕ) where
  -- an act that names another resolution leaves this one
  left-row : (act : Act) → IsAccepted s at act → ¬ (touched s act ≡ Some number)
      → get (effect s at act).resolutions number ≡ get s.resolutions number
  left-row act accepted other =
      (touches_one s at act (reply_to s at act) (counted (effect s at act) at) number (accepted, refl, refl) other).row

  -- an accepted act that closes no vote leaves one that is held
  held-left : (discussion : Discussion) (poll : Poll) → get s.resolutions number ≡ Some (Voting discussion poll)
      → (act : Act) → IsAccepted s at act → closes act ≡ false
      → get (effect s at act).resolutions number ≡ get s.resolutions number
  held-left discussion poll is (Vote resolution login ranks token) accepted unclosed = refl
  held-left discussion poll is (Close resolution) accepted unclosed = absurd (not_false (sym unclosed))
  held-left discussion poll is (Cast resolution place) accepted unclosed =
      left-row (Cast resolution place) accepted (λ same. accepted WrongStage
      (given (get s.resolutions resolution) (λ row. IsFalse (is_closed row)) (Voting discussion poll)
      (ap (option_and_then (get s.resolutions)) same ∙ is) refl))
  held-left discussion poll is act accepted unclosed =
      left-row act accepted
      (touches_another s.header.clock s at valid.tables number (Voting discussion poll) poll is refl act accepted refl)

  -- where none is held after an act that leaves it, none was
  unheld-left : (act : Act) → get (effect s at act).resolutions number ≡ get s.resolutions number
      → ¬ (IsHeldIn (effect s at act) number) → ¬ (IsHeldIn s number)
  unheld-left act left unheld held = unheld (subst (λ o. IsSome (option_and_then present_poll o)) (sym left) held)

  -- nor was one where none is held after an act that closes none
  unheld-before : (act : Act) → IsAccepted s at act → closes act ≡ false → ¬ (IsHeldIn (effect s at act) number)
      → ¬ (IsHeldIn s number)
  unheld-before act accepted unclosed unheld held =
      let row = voting (get s.resolutions number) held in
      unheld-left act (held-left row.0 row.1 row.2 act accepted unclosed) unheld held

module _ (s t : State) (valid : IsValid s) (alike : AreAlike s t) (at : ℕ) where
  -- ballots that are the same before an act are so after it
  ballots-after : (act : Act) (resolution : ℕ) (login : List ℕ)
      → get t.ballots (resolution, login) ≡ get s.ballots (resolution, login)
      → get (effect t at act).ballots (resolution, login) ≡ get (effect s at act).ballots (resolution, login)
  ballots-after act resolution login same =
      stands resolution login t at act
      ∙ ap (λ stood. voted resolution login stood (at, act)) same
      ∙ sym (stands resolution login s at act)

  -- a vote that has the same ballots in both states has them after any act
  closes-after : (act later : Act) → ClosesTheSame s t later
      → ClosesTheSame (counted (effect s at act) at) (counted (effect t at act) at) later
  closes-after act (Close resolution) same = λ login. ballots-after act resolution login (same login)
  closes-after act later same = tt

  -- where no vote is held after an act, the ballots were the same before it
  same-before : (act : Act) → IsAccepted s at act → ClosesTheSame s t act → (resolution : ℕ) (login : List ℕ)
      → ¬ (IsHeldIn (effect s at act) resolution)
      → get t.ballots (resolution, login) ≡ get s.ballots (resolution, login)
  same-before (Close number) accepted ends resolution login unheld =
      elim (same_or_other resolution number) [
        | inl same ↦
            subst (λ n. get t.ballots (n, login) ≡ get s.ballots (n, login)) (sym same) (ends login)
        | inr other ↦
            let left = left-row s at valid resolution (Close number) accepted
            (λ one. other (ap (λ o. unwrap_or o 0) (sym one))) in
            alike.ballots resolution login (unheld-left s at valid resolution (Close number) left unheld)
      ]
  same-before act accepted ends resolution login unheld =
      alike.ballots resolution login (unheld-before s at valid resolution act accepted refl unheld)

  -- what acts leave of alike states, the ballots aside
  rest-after : (act : Act) → with_ballots (effect t at act) s.ballots ≡ with_ballots (effect s at act) s.ballots
  rest-after (Vote number name ranks token) = ap (λ u. with_ballots u s.ballots) (alike-is s t alike)
  rest-after act =
      ap (λ u. with_ballots (effect u at act) s.ballots) (alike-is s t alike)
      ∙ ap (λ u. with_ballots u s.ballots) (effect-with s t.ballots at act refl)

  -- an accepted act that closes no vote in which they differ leaves alike states
  step-alike : (act : Act) → IsAccepted s at act → ClosesTheSame s t act
      → AreAlike (counted (effect s at act) at) (counted (effect t at act) at)
  step-alike act accepted ends =
      let rest = rest-after act in
      record {
        header = ap (λ (u : State). (counted u at).header) rest;
        developers = ap (λ (u : State). u.developers) rest;
        resolutions = ap (λ (u : State). u.resolutions) rest;
        choices = ap (λ (u : State). u.choices) rest;
        sponsors = ap (λ (u : State). u.sponsors) rest;
        ballots = λ resolution login unheld. ballots-after act resolution login
            (same-before act accepted ends resolution login unheld);
      }

-- alike states answer alike, as long as no vote is closed in which they differ, and are left alike
pub answers_same : AnswersRevealNothing
answers_same s t [] [] u valid alike ends p = (t, refl, subst (λ v. AreAlike v t) (sym p) alike)
answers_same s t [] (x ∷ xs) u valid alike ends p = absurd p
answers_same s t (act ∷ acts) [] u valid alike ends p = absurd p
answers_same s t (act ∷ acts) (Accepted reply ∷ xs) u valid alike ends p =
    let EndsSame = λ (a : ℕ × Act). ClosesTheSame s t a.1 in
    let others = accepted_acts acts xs in
    let accepted = accepted-alike s t alike act.0 act.1 p.1.0 in
    let next = counted (effect t act.0 act.1) act.0 in
    let here = subst (λ v. AreAlike v next) (sym p.1.2)
    (step-alike s t valid alike act.0 act.1 p.1.0 (All-head EndsSame act others ends)) in
    let later = All-weaker EndsSame (λ a. ClosesTheSame p.0 next a.1)
    (λ a same. subst (λ v. ClosesTheSame v next a.1) (sym p.1.2) (closes-after s t valid alike act.0 act.1 a.1 same))
    others (All-tail EndsSame act others ends) in
    let rest = answers_same p.0 next acts xs u
    (subst IsValid (sym p.1.2) (step_valid s act.0 act.1 valid p.1.0)) here later p.2 in (
      rest.0,
      (next, (accepted, p.1.1 ∙ sym (reply-alike s t alike act.0 act.1), refl), rest.1),
      rest.2,
    )
answers_same s t (act ∷ acts) (Refused refusal ∷ xs) u valid alike ends p =
    let rest = answers_same s t acts xs u valid alike ends (subst (λ mid. After mid acts xs u) p.1.1 p.2) in
    (rest.0, (t, (refuses-alike s t alike act.0 act.1 refusal p.1.0, refl), rest.1), rest.2)

-- ==== two alike states that differ

-- texts of ranks whose marks are the same are the same
same_text : (places : ℕ) (a b : List ℕ) → IsBallot places a → IsBallot places b → map mark_of a ≡ map mark_of b → a ≡ b
same_text places a b first second same =
    sym (text-of-marks a first.1) ∙ ap ranks_text same ∙ text-of-marks b second.1

module _ (s : State) (at resolution : ℕ) (login ranks others token : List ℕ)
    (accepted : IsAccepted s at (Vote resolution login ranks token))
    (whole : IsBallot (place_count s.choices resolution) others) where
  abbrev key : BallotKey
  key = (resolution, login)

  -- the states that the vote leaves, and the one with the other ranks
  abbrev left : State
  left = counted (effect s at (Vote resolution login ranks token)) at

  abbrev left_by_others : State
  left_by_others = counted (effect s at (Vote resolution login others token)) at

  -- no refusal applies to the other ranks that does not apply to the first
  refused_alike : (refusal : Refusal) → Applies refusal s at (Vote resolution login others token)
      → Applies refusal s at (Vote resolution login ranks token)
  refused_alike BadRanks h = absurd (h.1 whole)
  refused_alike refusal h = h

  -- the ballots of other votes are the same
  other_votes_same : (number : ℕ) (name : List ℕ) → ¬ (IsHeldIn left number)
      → get left_by_others.ballots (number, name) ≡ get left.ballots (number, name)
  other_votes_same number name unheld =
      let q : BallotKey = (number, name) in
      elim (same_or_other number resolution) [
        | inl same ↦ absurd (unheld
            (subst (λ n. IsSome (option_and_then present_poll (get s.resolutions n))) (sym same)
            (poll_of_vote s at resolution login ranks token accepted)))
        | inr other ↦
            let apart : q ≡ key → ⊥ = λ same. other (ap (λ (k : BallotKey). k.0) same) in
            get-put_other ballot_total ballot_only s.ballots key q (new_ballot (get s.ballots (resolution, login)) resolution login others token) apart
            ∙ sym (get-put_other ballot_total ballot_only s.ballots key q (new_ballot (get s.ballots (resolution, login)) resolution login ranks token) apart)
      ]

  -- so the states are alike
  others_are_alike : AreAlike left left_by_others
  others_are_alike = record {
    header = refl;
    developers = refl;
    resolutions = refl;
    choices = refl;
    sponsors = refl;
    ballots = other_votes_same;
  }

  -- the voter's ballot says the other ranks in the one of them
  others_tell : left_by_others ≡ left → others ≡ ranks
  others_tell same =
      let first = new_ballot (get s.ballots (resolution, login)) resolution login ranks token in
      let second = new_ballot (get s.ballots (resolution, login)) resolution login others token in
      let found : Some second ≡ Some first =
      sym (get-put ballot_total ballot_only s.ballots key second)
      ∙ ap (λ (u : State). get u.ballots key) same
      ∙ get-put ballot_total ballot_only s.ballots key first in
      same_text (place_count s.choices resolution) others ranks whole
      (ranks_of_vote s at resolution login ranks token accepted)
      (ap (λ o. (unwrap_or o first).ranks) found)

-- a vote with other ranks leaves an alike state, and another one
pub others_alike : OtherRanksLeaveAnAlikeDesk
others_alike s at resolution login ranks others token reply t valid step whole differ =
    let vote = Vote resolution login others token in
    let u = left_by_others s at resolution login ranks others token step.0 whole in
    let accepted : IsAccepted s at vote = λ refusal h.
    step.0 refusal (refused_alike s at resolution login ranks others token step.0 whole refusal h) in (
      u,
      (accepted, step.1, refl),
      subst IsValid (sym step.2) (step_valid s at (Vote resolution login ranks token) valid step.0),
      step_valid s at vote valid accepted,
      subst (λ v. AreAlike v u) (sym step.2)
          (others_are_alike s at resolution login ranks others token step.0 whole),
      λ same. differ (others_tell s at resolution login ranks others token step.0 whole (same ∙ step.2)),
    )
