-- A desk keeps valid ballots, and places that were rightly chosen.
use Rattle.std.proofs.Common.{◌≡◌, ℕ, ◌<◌, ◌≤◌, ◌⊎◌, true, false, List, Option, Some, None, IsSome, IsSomeAnd, IsTrue, IsFalse, inl, inr, refl, sym, ap, ◌∙◌, subst, arith}
use Rattle.std.proofs.lemmas.List.{length-map}
use Rattle.std.proofs.lemmas.List.Elements.{All-map}
use Rattle.sha2.proofs.Facts256.{length-sha256}
use Rattle.std.specs.Prelude.{option_and_then, option_map, unwrap_or, nat_eq, get_or}
use Rattle.std.specs.Cmp.{nat_cmp_total}
use Rattle.std.specs.FinMap.{get, nat_cmp-IsAntisymmetric}
use Rattle.gr_count.specs.Ballot.{mark_of}
use Rattle.gr_core.specs.declared.discussion.Discussion.{Discussion}
use Rattle.gr_core.specs.declared.bookkeeping.Gain.{Gain}
use Rattle.gr_core.specs.declared.bookkeeping.Gain.TheVariants.{Nothing, Introduction, Remedy}
use Rattle.gr_core.specs.declared.choice.ChoiceKey.{ChoiceKey}
use Rattle.gr_core.specs.declared.resolution.Poll.{Poll}
use Rattle.gr_core.specs.declared.resolution.Resolution.{Resolution}
use Rattle.gr_core.specs.declared.resolution.Resolution.TheVariants.{Draft, Discussing, Voting, Closed, Cancelled}
use Rattle.gr_core.specs.declared.refusal.Refusal.TheVariants.{NoResolution, WrongStage, NoDeveloper, NotTied}
use Rattle.gr_core.specs.Parts.Key.{BallotKey}
use Rattle.gr_core.specs.Parts.Resolution.{poll_of, chosen_of, is_voting, is_closed, entered, closed, decided}
use Rattle.gr_core.specs.Machine.Map.{changed_at}
use Rattle.gr_core.specs.Machine.Bookkeeping.{with_gain, gain_at}
use Rattle.gr_core.specs.Parts.Receipt.{receipt_lines}
use Rattle.gr_core.specs.Parts.Ballot.{BallotModel, AreRanks, IsMark, new_ballot, received_of}
use Rattle.gr_core.specs.Desks.State.{State}
use Rattle.gr_core.specs.Desks.Outcome.{place_count, election_at, option_at, HasWinner, CannotBeChosen}
use Rattle.gr_core.specs.Desks.Valid.{IsValid, AreTables, AreVotes, IsBallotIn, IsRightlyChosen}
use Rattle.gr_core.specs.Machine.Act.{Act, SetDeveloper, ImportRoll, Propose, Vote, Close, Cast, resolution_of, place_of}
use Rattle.gr_core.specs.Machine.Refusal.{IsAccepted}
use Rattle.gr_core.specs.Machine.Effect.{own, effect, counted, next_resolution, first_choice_key}
use Rattle.gr_core.specs.Laws.ResolutionLaws.{MayBecome, touched}
use Rattle.gr_core.proofs.Contents.DigestLemmas.{bytes-sha256}
use Rattle.gr_core.proofs.Collections.PresenceLemmas.{not_None, given, taken, present, is_given, unmapped, of_value}
use Rattle.gr_core.proofs.Collections.RowChangedLemmas.{get-changed_at, get-changed_at_other}
use Rattle.gr_core.proofs.Contents.StableLemmas.{same_or_other}
use Rattle.gr_core.proofs.Effects.VoteFindsPollLemmas.{held_is_had, poll_of_vote, ranks_of_vote}
use Rattle.gr_core.proofs.Collections.RowPutLemmas.{insert_cases, get-put}
use Rattle.gr_core.proofs.Validity.RollLemmas.{grows-put, grows-imported}
use Rattle.gr_core.proofs.Effects.LeftTableLemmas.{developers-effect, ballots-effect, header-effect}
use Rattle.gr_core.proofs.Validity.NewRowsValidLemmas.{on_roll}
use Rattle.gr_core.proofs.Contents.BallotKeys.{ballot_total, ballot_only}
use Rattle.gr_core.proofs.Effects.LeftVoteLemmas.{place_count-same, is_quiet, keeps_poll, keeps_election, touches_another}
use Rattle.gr_count.specs.Election.{Election}
use Rattle.gr_count.specs.Rounds.{IsInOutcome}
use Rattle.gr_core.specs.Laws.VotingLaws.{votes_in}
use Rattle.gr_core.specs.Machine.Step.{reply_to}
use Rattle.gr_core.proofs.Effects.ResolutionLemmas.{stages_follow}
use Rattle.gr_core.proofs.Effects.LeftResolutionLemmas.{touches_one}
use Rattle.gr_core.proofs.Contents.ChoiceKeys.{same_number}

-- nobody leaves the roll by an act
pub roll_grows : (s : State) (at : ℕ) (act : Act) (login : List ℕ) → IsSome (get s.developers login)
    → IsSome (get (effect s at act).developers login)
roll_grows s at (SetDeveloper name label standing) login on =
    grows-put s.developers name (record { name = label; standing = standing }) login on
roll_grows s at (ImportRoll rows) login on = grows-imported s.developers rows login on
roll_grows s at act login on =
    subst (λ developers. IsSome (get developers login)) (sym (developers-effect s at act refl)) on

-- the resolution that has this poll
polled_row : (o : Option Resolution) (poll : Poll) → option_and_then poll_of o ≡ Some poll
    → (row : Resolution) × (o ≡ Some row) × (poll_of row ≡ Some poll)
polled_row None poll is = absurd (not_None poll is)
polled_row (Some row) poll is = (row, refl, is)

-- a resolution that had no poll has no place chosen after an act
undecided : (before after : Resolution) → poll_of before ≡ None → MayBecome before after → chosen_of after ≡ None
undecided before Draft unpolled may = refl
undecided before (Discussing discussion) unpolled may = refl
undecided before (Voting discussion poll) unpolled may = refl
undecided before (Cancelled discussion) unpolled may = refl
undecided Draft (Closed discussion poll chosen) unpolled may = cc
undecided (Discussing before) (Closed discussion poll chosen) unpolled may = cc
undecided (Cancelled before) (Closed discussion poll chosen) unpolled may = cc
undecided (Voting before held) (Closed discussion poll chosen) unpolled may = absurd (not_None held (sym unpolled))
undecided (Closed before held was) (Closed discussion poll chosen) unpolled may = absurd (not_None held (sym unpolled))

-- the end of a vote chooses no place
closed_decided : (before : Resolution) (discussion : Discussion) (poll : Poll) (place : ℕ)
    → closed before ≡ Closed discussion poll (Some place) → before ≡ Closed discussion poll (Some place)
closed_decided (Voting before held) discussion poll place is = absurd (not_None place (ap chosen_of is))
closed_decided other discussion poll place is = is

-- the casting vote chooses its place in a closed resolution, and leaves the poll
decided_place : (before : Resolution) (discussion : Discussion) (poll : Poll) (place chosen : ℕ)
    → decided chosen before ≡ Closed discussion poll (Some place)
    → IsTrue (is_closed before) × (poll_of before ≡ Some poll) × (place ≡ chosen)
decided_place (Closed before held was) discussion poll place chosen is =
    (refl, ap poll_of is, ap (λ r. unwrap_or (chosen_of r) 0) (sym is))
decided_place Draft discussion poll place chosen is = cc
decided_place (Discussing before) discussion poll place chosen is = cc
decided_place (Voting before held) discussion poll place chosen is = cc
decided_place (Cancelled before) discussion poll place chosen is = cc

-- what a casting vote cannot choose, by the number of places and the election
abbrev cannot : ℕ → Election → ℕ → Type 0
cannot places e place = HasWinner e ⊎ (¬ (((0 < place) × (place ≤ places)) × IsInOutcome e (option_at place)))

-- it cannot choose the same with the same places and the same election
cannot-same : (s t : State) (number : ℕ) (poll : Poll) (place : ℕ)
    → place_count t.choices number ≡ place_count s.choices number
    → election_at t number poll ≡ election_at s number poll
    → CannotBeChosen t number poll place → CannotBeChosen s number poll place
cannot-same s t number poll place places election h =
    subst (λ e. cannot (place_count s.choices number) e place) election
    (subst (λ n. cannot n (election_at t number poll) place) places h)

-- a new resolution has no place chosen
new_undecided : (gain : Gain) (u : State) (at : ℕ) (key : ChoiceKey) → get u.resolutions key.resolution ≡ Some Draft
    → IsSomeAnd (get (with_gain gain u at key).resolutions key.resolution) (λ row. chosen_of row ≡ None)
new_undecided Nothing u at key is = given _ _ Draft is refl
new_undecided Introduction u at key is =
    given (get (changed_at u.resolutions key.resolution (entered at)) key.resolution) _ (entered at Draft)
    (get-changed_at nat_cmp_total nat_cmp-IsAntisymmetric u.resolutions key.resolution (entered at)
    ∙ ap (option_map (entered at)) is) refl
new_undecided Remedy u at key is = given _ _ Draft is refl

few_of : (most : ℕ) (stood : Option BallotModel) → ((ballot : BallotModel) → stood ≡ Some ballot → ballot.received ≤ most)
    → received_of stood ≤ most
few_of most None each = omega arith
few_of most (Some ballot) each = each ballot refl

-- no more votes of a developer were accepted than commands
pub few_received : (s : State) → AreVotes s → (number : ℕ) (login : List ℕ)
    → received_of (get s.ballots (number, login)) ≤ s.header.accepted
few_received s votes number login =
    few_of s.header.accepted (get s.ballots (number, login))
    (λ ballot there. (votes.ballots number login ballot there).received.1)

module _ (s : State) (at : ℕ) (valid : AreTables at s) (votes : AreVotes s) where
  -- a number that was at most that of the accepted acts is at most theirs and this one
  within : (act : Act) (received : ℕ) → received ≤ s.header.accepted
      → received ≤ (counted (effect s at act) at).header.accepted
  within act received few =
      let same : (effect s at act).header.accepted ≡ s.header.accepted = ap (λ h. h.accepted) (header-effect s at act) in
      omega arith

  -- a ballot that was there stays one that the developer may have
  stays : (act : Act) → IsAccepted s at act → (number : ℕ) (login : List ℕ) (ballot : BallotModel)
      → get s.ballots (number, login) ≡ Some ballot → IsBallotIn (counted (effect s at act) at) number login ballot
  stays act accepted number login ballot is =
      let t = counted (effect s at act) at in
      let was = votes.ballots number login ballot is in
      let poll = present (option_and_then poll_of (get s.resolutions number)) was.poll in
      let row = polled_row (get s.resolutions number) poll.0 poll.1 in
      let kept = keeps_poll at s at valid number row.0 poll.0 row.1 row.2 act accepted in
      let after = taken (get t.resolutions number) (λ r. poll_of r ≡ Some poll.0) kept.row in
      record {
        poll = is_given (option_and_then poll_of (get t.resolutions number)) poll.0
            (ap (option_and_then poll_of) after.1 ∙ after.2);
        on_roll = roll_grows s at act login was.on_roll;
        ranks = subst (λ places. AreRanks places ballot.ranks)
            (sym (place_count-same s.choices t.choices number kept.choices)) was.ranks;
        receipt = was.receipt;
        received = (was.received.0, within act ballot.received was.received.1);
      }

  -- a ballot that is taken is one that the developer may have
  fits : (number : ℕ) (login ranks token : List ℕ) → IsAccepted s at (Vote number login ranks token)
      → IsBallotIn (counted (effect s at (Vote number login ranks token)) at) number login
      (new_ballot (get s.ballots (number, login)) number login ranks token)
  fits number login ranks token accepted =
      let is = ranks_of_vote s at number login ranks token accepted in
      record {
        poll = held_is_had (get s.resolutions number) (poll_of_vote s at number login ranks token accepted);
        on_roll = on_roll s login (accepted NoDeveloper);
        ranks = record {
          whole = length-map ranks mark_of ∙ is.0;
          marks = All-map IsMark mark_of ranks (λ k d below. (get_or ranks k d, is.1 k d below, refl));
        };
        receipt = record {
          long = length-sha256 (receipt_lines number login token);
          bytes = bytes-sha256 (receipt_lines number login token);
        };
        received =
            let few = few_received s votes number login in
            (omega arith, omega arith);
      }

  -- the ballots stay valid
  ballots-valid : (act : Act) → IsAccepted s at act → (number : ℕ) (login : List ℕ) (ballot : BallotModel)
      → get (effect s at act).ballots (number, login) ≡ Some ballot
      → IsBallotIn (counted (effect s at act) at) number login ballot
  ballots-valid (Vote resolution name ranks token) accepted number login ballot is =
      let act = Vote resolution name ranks token in
      let new = new_ballot (get s.ballots (resolution, name)) resolution name ranks token in
      let t = counted (effect s at act) at in
      elim (insert_cases ballot_total ballot_only s.ballots (resolution, name) (number, login) new ballot is) [
        | inl here ↦
            let of : number ≡ resolution = ap (λ (k : BallotKey). k.0) here.0 in
            let by : login ≡ name = ap (λ (k : BallotKey). k.1) here.0 in
            subst (λ n. IsBallotIn t n login ballot) (sym of)
            (subst (λ l. IsBallotIn t resolution l ballot) (sym by)
            (subst (IsBallotIn t resolution name) here.1 (fits resolution name ranks token accepted)))
        | inr before ↦ stays act accepted number login ballot before
      ]
  ballots-valid act accepted number login ballot is =
      stays act accepted number login ballot
      (sym (ap (λ ballots. get ballots (number, login)) (ballots-effect s at act refl)) ∙ is)

  module _ (whole : IsValid s) where
    -- an act that makes a resolution, or names one, leaves none with a chosen place where there was none
    touched_missing : (act : Act) → IsAccepted s at act → (number : ℕ) (discussion : Discussion) (poll : Poll) (place : ℕ)
        → touched s act ≡ Some number → get s.resolutions number ≡ None
        → get (effect s at act).resolutions number ≡ Some (Closed discussion poll (Some place)) → ⊥
    touched_missing (Propose proposer wording ratio) accepted number discussion poll place touched none is =
        let act = Propose proposer wording ratio in
        let u = own s at act in
        let key = first_choice_key s in
        let one : next_resolution s ≡ number = ap (λ o. unwrap_or o 0) touched in
        let new = new_undecided (gain_at u key) u at key
        (get-put nat_cmp_total nat_cmp-IsAntisymmetric s.resolutions (next_resolution s) Draft) in
        not_None place (sym (of_value _ _ (Closed discussion poll (Some place))
        (ap (get (effect s at act).resolutions) one ∙ is) new))
    touched_missing act accepted number discussion poll place touched none is =
        accepted NoResolution (given (resolution_of act) (λ n. get s.resolutions n ≡ None) number touched none)

    module _ (act : Act) (accepted : IsAccepted s at act) (number : ℕ) (discussion : Discussion) (poll : Poll) (place : ℕ)
        (is : get (effect s at act).resolutions number ≡ Some (Closed discussion poll (Some place))) where
      -- what an act does not touch stays
      row-left : (touched s act ≡ Some number → ⊥)
          → get (counted (effect s at act) at).resolutions number ≡ get s.resolutions number
      row-left other =
          (touches_one s at act (reply_to s at act) (counted (effect s at act) at) number (accepted, refl, refl) other).row

      -- so a place is chosen only in a resolution that was there
      missing : get s.resolutions number ≡ None → ⊥
      missing none =
          elim (touched s act) as (λ o. touched s act ≡ o → ⊥) [
            | None ↦ λ nothing.
                not_None (Closed discussion poll (Some place))
                (sym none ∙ sym (row-left (λ same. not_None number (sym nothing ∙ same))) ∙ is)
            | Some q ↦ λ touching. elim (same_or_other q number) [
              | inl same ↦
                  touched_missing act accepted number discussion poll place (touching ∙ ap Some same) none is
              | inr other ↦
                  not_None (Closed discussion poll (Some place))
                  (sym none ∙ sym (row-left (λ one. other (ap (λ o. unwrap_or o 0) (sym touching ∙ one)))) ∙ is)
            ]
          ] refl

      -- and by a quiet act only where it was chosen before
      quiet_before : is_quiet act ≡ true → get s.resolutions number ≡ Some (Closed discussion poll (Some place))
      quiet_before quiet =
          elim (get s.resolutions number) as (λ o. get s.resolutions number ≡ o
          → o ≡ Some (Closed discussion poll (Some place))) [
            | None ↦ λ was. absurd (missing was)
            | Some before ↦ λ was.
                elim (poll_of before) as (λ p. poll_of before ≡ p
                → Some before ≡ Some (Closed discussion poll (Some place))) [
                  | Some held ↦ λ polled.
                      sym was ∙ sym (row-left (touches_another at s at valid number before held was polled act accepted quiet))
                      ∙ is
                  | None ↦ λ unpolled.
                      let follows = stages_follow s at act (reply_to s at act) (counted (effect s at act) at) number before
                      whole (accepted, refl, refl) was in
                      let may = of_value (get (effect s at act).resolutions number) (MayBecome before)
                      (Closed discussion poll (Some place)) is follows in
                      absurd (not_None place
                      (sym (undecided before (Closed discussion poll (Some place)) unpolled may)))
                ] refl
          ] refl

    -- a place that is chosen after an act was so before, unless the act is the casting vote
    chosen_before : (act : Act) → IsAccepted s at act → place_of act ≡ None
        → (number : ℕ) (discussion : Discussion) (poll : Poll) (place : ℕ)
        → get (effect s at act).resolutions number ≡ Some (Closed discussion poll (Some place))
        → get s.resolutions number ≡ Some (Closed discussion poll (Some place))
    chosen_before (Vote resolution login ranks token) accepted none number discussion poll place is = is
    chosen_before (Close resolution) accepted none number discussion poll place is =
        elim (same_or_other number resolution) [
          | inl same ↦
              let changed = get-changed_at nat_cmp_total nat_cmp-IsAntisymmetric s.resolutions resolution closed in
              let old = unmapped closed (get s.resolutions resolution) (Closed discussion poll (Some place))
              (sym changed ∙ ap (get (changed_at s.resolutions resolution closed)) (sym same) ∙ is) in
              ap (get s.resolutions) same ∙ old.1 ∙ ap Some (closed_decided old.0 discussion poll place (sym old.2))
          | inr other ↦
              sym (get-changed_at_other nat_cmp_total nat_cmp-IsAntisymmetric s.resolutions resolution number closed other)
              ∙ is
        ]
    chosen_before (Cast resolution chosen) accepted none number discussion poll place is =
        absurd (not_None chosen (sym none))
    chosen_before act accepted none number discussion poll place is =
        quiet_before act accepted number discussion poll place is refl

    -- no act votes on a resolution that is closed
    no_vote : (act : Act) → IsAccepted s at act → (number : ℕ) (row : Resolution)
        → get s.resolutions number ≡ Some row → IsFalse (is_voting row) → votes_in number act ≡ false
    no_vote (Vote resolution login ranks token) accepted number row is wrong =
        elim (nat_eq number resolution) as (λ b. nat_eq number resolution ≡ b → b ≡ false) [
          | true ↦ λ same.
              let one : number ≡ resolution = same_number number resolution same in
              absurd (accepted WrongStage (given (get s.resolutions resolution) (λ r. IsFalse (is_voting r)) row
              (ap (get s.resolutions) (sym one) ∙ is) wrong))
          | false ↦ λ other. refl
        ] refl
    no_vote act accepted number row is wrong = refl

    -- a place that was rightly chosen stays so
    chosen_stays : (act : Act) → IsAccepted s at act → (number : ℕ) (discussion : Discussion) (poll : Poll) (place : ℕ)
        → get s.resolutions number ≡ Some (Closed discussion poll (Some place))
        → ¬ (CannotBeChosen (counted (effect s at act) at) number poll place)
    chosen_stays act accepted number discussion poll place was =
        let row = Closed discussion poll (Some place) in
        let t = counted (effect s at act) at in
        let kept = keeps_poll at s at valid number row poll was refl act accepted in
        λ cannot. whole.votes.chosen number row was (cannot-same s t number poll place
        (place_count-same s.choices t.choices number kept.choices)
        (keeps_election at s at valid number row poll was refl act accepted (no_vote act accepted number row was refl))
        cannot)

    -- and one that the casting vote chose is so
    cast_rightly : (number chosen : ℕ) → IsAccepted s at (Cast number chosen) → (discussion : Discussion) (poll : Poll)
        (place : ℕ)
        → get (changed_at s.resolutions number (decided chosen)) number ≡ Some (Closed discussion poll (Some place))
        → ¬ (CannotBeChosen (counted (effect s at (Cast number chosen)) at) number poll place)
    cast_rightly number chosen accepted discussion poll place is =
        let act = Cast number chosen in
        let t = counted (effect s at act) at in
        let changed = get-changed_at nat_cmp_total nat_cmp-IsAntisymmetric s.resolutions number (decided chosen) in
        let old = unmapped (decided chosen) (get s.resolutions number) (Closed discussion poll (Some place))
        (sym changed ∙ is) in
        let was = decided_place old.0 discussion poll place chosen (sym old.2) in
        let kept = keeps_poll at s at valid number old.0 poll old.1 was.1 act accepted in
        λ cannot. accepted NotTied (given (get s.resolutions number) _ old.0 old.1 (
          was.0,
          given (poll_of old.0) (λ held. CannotBeChosen s number held chosen) poll was.1
              (subst (λ n. CannotBeChosen s number poll n) was.2
              (cannot-same s t number poll place
              (place_count-same s.choices t.choices number kept.choices)
              (keeps_election at s at valid number old.0 poll old.1 was.1 act accepted refl)
              cannot)),
        ))

    -- what was chosen after an act was rightly chosen
    chosen-valid : (act : Act) → IsAccepted s at act → (number : ℕ) (discussion : Discussion) (poll : Poll) (place : ℕ)
        → get (effect s at act).resolutions number ≡ Some (Closed discussion poll (Some place))
        → ¬ (CannotBeChosen (counted (effect s at act) at) number poll place)
    chosen-valid (Cast resolution chosen) accepted number discussion poll place is =
        elim (same_or_other number resolution) [
          | inl same ↦
              let t = counted (effect s at (Cast resolution chosen)) at in
              subst (λ n. ¬ (CannotBeChosen t n poll place)) (sym same)
              (cast_rightly resolution chosen accepted discussion poll place
              (ap (get (changed_at s.resolutions resolution (decided chosen))) (sym same) ∙ is))
          | inr other ↦
              chosen_stays (Cast resolution chosen) accepted number discussion poll place
              (sym (get-changed_at_other nat_cmp_total nat_cmp-IsAntisymmetric s.resolutions resolution number
              (decided chosen) other) ∙ is)
        ]
    chosen-valid act accepted number discussion poll place is =
        chosen_stays act accepted number discussion poll place
        (chosen_before act accepted refl number discussion poll place is)

    -- so every resolution
    rightly : (act : Act) → IsAccepted s at act → (number : ℕ) (row : Resolution)
        → get (effect s at act).resolutions number ≡ Some row
        → IsRightlyChosen (counted (effect s at act) at) number row
    rightly act accepted number (Closed discussion poll (Some place)) is =
        chosen-valid act accepted number discussion poll place is
    rightly act accepted number other is = tt

    -- what an act leaves are votes that a desk may have
    pub votes-valid : (act : Act) → IsAccepted s at act → AreVotes (counted (effect s at act) at)
    votes-valid act accepted = record {
      ballots = ballots-valid act accepted;
      chosen = rightly act accepted;
    }
