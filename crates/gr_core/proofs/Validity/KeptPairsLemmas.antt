-- The preference counts that a desk keeps are those of its ballots: from one state to the next, and as a load adds them up.
use Rattle.std.proofs.Common.{◌≡◌, ◌≢◌, ℕ, ◌+◌, ◌^◌, ◌<◌, ◌≤◌, ◌↔◌, inl, inr, List, [], ◌∷◌, ◌++◌, map, length, cond, false, Option, Some, None, option_map, is_some, IsSome, IfSome, MatchOption, refl, sym, ap, ◌∙◌, subst, arith}
use Rattle.std.specs.Prelude.{ℤ, option_and_then}
use Rattle.std.specs.Ordering.{nat_cmp}
use Rattle.std.specs.Cmp.{nat_cmp_total}
use Rattle.std.specs.Prelude.{IsFalse, IsSomeAnd}
use Rattle.std.specs.FinMap.{nat_cmp-IsAntisymmetric, contains_key, empty, entries, find, get, get-empty, get-entries, insert, len, len-insert}
use Rattle.gr_count.specs.declared.mark.Mark.{Mark}
use Rattle.gr_core.specs.Parts.Ballot.{BallotModel, new_ballot, received_of, vote_of, votes_received}
use Rattle.gr_count.specs.declared.limits.TheConstants.{MAX_BALLOTS, MAX_OPTIONS, MIN_OPTIONS}
use Rattle.gr_count.specs.declared.pairs.Pairs.{Pairs}
use Rattle.gr_count.specs.declared.ranks.Ranks.{Ranks}
use Rattle.gr_count.specs.Ballot.{Vote, mark_of}
use Rattle.gr_count.specs.Shown.{ballots_in, marks_in, options_of_pairs}
use Rattle.gr_count.specs.PairwiseCount.{HoldsBallot, IsPairwiseCountOf}
use Rattle.gr_core.specs.declared.kept_pairs.KeptPairs.{KeptPairs}
use Rattle.gr_core.specs.declared.kept_vote.KeptVote.{KeptVote}
use Rattle.gr_core.specs.declared.choice.ChoiceKey.{ChoiceKey}
use Rattle.gr_core.specs.declared.counting.Counting.{Counting}
use Rattle.gr_core.specs.declared.counting.Counting.TheVariants as counting
use Rattle.gr_core.specs.declared.discussion.Discussion.{Discussion}
use Rattle.gr_core.specs.declared.resolution.Resolution.{Resolution}
use Rattle.gr_core.specs.declared.resolution.Resolution.TheVariants.{Discussing, Voting}
use Rattle.gr_core.specs.Parts.Choice.{ChoiceModel}
use Rattle.gr_core.specs.declared.refusal.Refusal.TheVariants.{NoResolution, WrongStage}
use Rattle.gr_core.specs.Parts.Resolution.{poll_of, is_discussing}
use Rattle.gr_core.specs.Desks.State.{State, new_state}
use Rattle.gr_core.specs.Desks.Valid.{IsValid}
use Rattle.gr_core.specs.Machine.Act.{Act, Call, Vote as VoteAct}
use Rattle.gr_core.specs.Machine.Refusal.{IsAccepted}
use Rattle.gr_core.specs.Machine.Effect.{ballots_put, called, counted, effect, live_choices, poll_at}
use Rattle.gr_core.specs.Machine.Counting.{Counts, counting_of_call, marks_of}
use Rattle.gr_core.specs.Desks.Outcome.{place_count}
use Rattle.gr_core.specs.InMemory.Replaced.{MayReplace, ReplacesBallot}
use Rattle.gr_core.specs.InMemory.KeptPairs.{ArePairsOf, HasPoll, IsCountedBehind, IsKeptOf, KeepsPairs, received_at, vote_at}
use Rattle.gr_core.specs.Laws.VotingLaws.{votes_in}
use Rattle.gr_core.proofs.Contents.BallotKeys.{ballot_total, ballot_only}
use Rattle.gr_core.proofs.Collections.TextKeys.{text_total}
use Rattle.gr_core.proofs.Collections.PresenceLemmas.{absent, given, not_None, not_false, present, taken, unmapped}
use Rattle.gr_core.proofs.Contents.StableLemmas.{same_or_other}
use Rattle.gr_core.proofs.Collections.RowPutLemmas.{get-put}
use Rattle.gr_core.proofs.Collections.RowChangedLemmas.{get-changed_at}
use Rattle.gr_core.proofs.Collections.RowsInOrderLemmas.{found_elsewhere, found_here, none_before}
use Rattle.gr_core.proofs.Contents.ElectionLemmas.{enough_places, few_ballots, few_places, with_poll}
use Rattle.gr_core.proofs.Effects.VoteFindsPollLemmas.{held_is_had, poll_of_vote}
use Rattle.gr_core.proofs.Contents.ReceivedLemmas.{room_to_receive, votes_received-none, votes_received-put}
use Rattle.gr_core.proofs.Contents.VoterCounts.{voters_as_ballots}
use Rattle.gr_core.proofs.Validity.ValidLemmas.{step_valid}
use Rattle.gr_core.proofs.Contents.VoteBallotLemmas.{ranks_in, get-vote_of, vote_of-put, vote_of-none}
use Rattle.gr_core.proofs.Validity.PollsAfterLemmas.{has_poll_still, kept_stays, no_ballot_yet, polled_elsewhere, BeginsNone, polled_before}

-- ==== the counts that are kept, from one state to the next

-- an act that puts no ballot votes on no resolution
votes_nowhere : (act : Act) → ballots_put act ≡ [] → (number : ℕ) → votes_in number act ≡ false
votes_nowhere (VoteAct resolution login ranks token) none number = cc
votes_nowhere other none number = refl

module _ (s : State) (at : ℕ) (valid : IsValid s) (act : Act) (accepted : IsAccepted s at act) (kept : KeptPairs) (keeps : KeepsPairs s kept) where
  abbrev next : State
  next = counted (effect s at act) at

  -- what is kept of a resolution on which the act is no vote
  kept_of_other : (number : ℕ) → votes_in number act ≡ false → IfSome (vote_at kept number) (IsKeptOf next number)
  kept_of_other number other =
      elim (vote_at kept number) as (λ o. vote_at kept number ≡ o → IfSome o (IsKeptOf next number)) [
        | None ↦ λ is. tt
        | Some vote ↦ λ is. kept_stays s at valid act accepted number ((keeps.polled number).0 (ap is_some is)) other vote
            (subst (λ o. IfSome o (IsKeptOf s number)) is (keeps.votes number))
      ] refl

  -- the resolutions that have a poll now, where the act begins none on this one
  polled_still : (number : ℕ) → (HasPoll next number → HasPoll s number) → IsSome (vote_at kept number) ↔ HasPoll next number
  polled_still number before = (
    λ some. has_poll_still s at valid act accepted number ((keeps.polled number).0 some),
    λ has. (keeps.polled number).1 (before has),
  )

  -- an act that is no vote and begins none leaves them
  kept_without_vote : ballots_put act ≡ [] → BeginsNone s at act → KeepsPairs next kept
  kept_without_vote no_ballot none = record {
    polled = λ number. polled_still number (polled_before s at act none number);
    votes = λ number. kept_of_other number (votes_nowhere act no_ballot number);
  }

-- a resolution that is found, and in a stage in which a call may come, is under discussion
found_discussion : (found : Option Resolution) → ¬ (found ≡ None) → ¬ (IsSomeAnd found (λ row. IsFalse (is_discussing row)))
    → (discussion : Discussion) × (found ≡ Some (Discussing discussion))
found_discussion None there stage = absurd (there refl)
found_discussion (Some (Discussing discussion)) there stage = (discussion, refl)
found_discussion (Some other) there stage = absurd (stage refl)

-- the counts of a resolution that is called begin with nobody
module _ (s : State) (at : ℕ) (valid : IsValid s) (number : ℕ) (days : ℤ) (accepted : IsAccepted s at (Call number days))
    (first : ChoiceKey × ChoiceModel) (others : List (ChoiceKey × ChoiceModel)) (live : live_choices s.choices at number ≡ first ∷ others) where
  abbrev called_state : State
  called_state = counted (effect s at (Call number days)) at

  abbrev call : Resolution → Resolution
  call = called (live_choices s.choices at number) (poll_at s at days)

  discussed : (discussion : Discussion) × (get s.resolutions number ≡ Some (Discussing discussion))
  discussed = found_discussion (get s.resolutions number) (accepted NoResolution) (accepted WrongStage)

  polled_now : HasPoll called_state number
  polled_now =
      let discussion = discussed.0 in
      let voting : get called_state.resolutions number ≡ Some (Voting discussion (poll_at s at days)) =
      get-changed_at nat_cmp_total nat_cmp-IsAntisymmetric s.resolutions number call
      ∙ ap (option_map call) discussed.1
      ∙ ap (λ these. Some (called these (poll_at s at days) (Discussing discussion))) live in
      ap (λ found. is_some (option_and_then poll_of found)) voting

  unpolled : ¬ HasPoll s number
  unpolled has = not_false (subst (λ found. IsSome (option_and_then poll_of found)) discussed.1 has)

  kept_called : (kept : KeptPairs) → KeepsPairs s kept → (vote : KeptVote) → options_of_pairs vote.pairs ≡ place_count called_state.choices number
      → IsPairwiseCountOf vote.pairs empty → vote.received ≡ 0 → (more : KeptPairs) → vote_at more number ≡ Some vote
      → ((other : ℕ) → other ≢ number → vote_at more other ≡ vote_at kept other) → KeepsPairs called_state more
  kept_called kept keeps vote places nobody nothing more here elsewhere =
      let act = Call number days in
      let no_ballot = no_ballot_yet s at valid act accepted number unpolled in
      let is : IsKeptOf called_state number vote = record {
        pairs = record {
          options = places;
          tally = subst (IsPairwiseCountOf vote.pairs) (sym (vote_of-none called_state.ballots number no_ballot)) nobody;
        };
        received = nothing ∙ sym (votes_received-none called_state.ballots number no_ballot);
      } in
      record {
        polled = λ n. elim (same_or_other n number) as (λ _. IsSome (vote_at more n) ↔ HasPoll called_state n) [
          | inl same ↦ subst (λ m. IsSome (vote_at more m) ↔ HasPoll called_state m) (sym same) (λ some. polled_now, λ has. ap is_some here)
          | inr other ↦ subst (λ o. IsSome o ↔ HasPoll called_state n) (sym (elsewhere n other))
              (polled_still s at valid act accepted kept keeps n (polled_elsewhere s.resolutions number call n other))
        ];
        votes = λ n. elim (same_or_other n number) as (λ _. IfSome (vote_at more n) (IsKeptOf called_state n)) [
          | inl same ↦ subst (λ m. IfSome (vote_at more m) (IsKeptOf called_state m)) (sym same)
              (subst (λ o. IfSome o (IsKeptOf called_state number)) (sym here) is)
          | inr other ↦ subst (λ o. IfSome o (IsKeptOf called_state n)) (sym (elsewhere n other))
              (kept_of_other s at valid act accepted kept keeps n refl)
        ];
      }

-- the later ballot may be counted in the place of the earlier one
abbrev MayCount : Option Ranks → Ranks → KeptVote → Type 0
MayCount earlier ranks old = MayReplace earlier ranks old.pairs × (old.received + 1 < 2 ^ 64)

-- and is
abbrev CountsVote : Option Ranks → Ranks → KeptVote → KeptVote → Type 0
CountsVote earlier ranks old new = ReplacesBallot earlier ranks old.pairs new.pairs × (new.received ≡ old.received + 1)

-- the counts of the resolution on which somebody votes have the later ballot in the place of the earlier one
module _ (s : State) (at : ℕ) (valid : IsValid s) (number : ℕ) (login text token : List ℕ)
    (accepted : IsAccepted s at (VoteAct number login text token)) (kept : KeptPairs) (keeps : KeepsPairs s kept)
    (earlier : Option Ranks) (ranks : Ranks) (says : marks_in ranks ≡ map mark_of text) (stood : option_map marks_in earlier ≡ marks_of s number login) where
  abbrev voted : State
  voted = counted (effect s at (VoteAct number login text token)) at

  abbrev its_ballot : BallotModel
  its_ballot = new_ballot (get s.ballots (number, login)) number login text token

  found : get (vote_of s.ballots number) login ≡ option_map marks_in earlier
  found = get-vote_of number login s.ballots ∙ sym stood

  whole_marks : length (marks_in ranks) ≡ place_count s.choices number
  whole_marks =
      ap length says
      ∙ ((step_valid s at (VoteAct number login text token) valid accepted).votes.ballots number login its_ballot
      (get-put ballot_total ballot_only s.ballots (number, login) its_ballot)).ranks.whole

  has_poll_now : HasPoll s number
  has_poll_now = held_is_had (get s.resolutions number) (poll_of_vote s at number login text token accepted)

  -- the vote after the act
  vote_then : vote_of voted.ballots number ≡ insert (vote_of s.ballots number) login (marks_in ranks)
  vote_then = vote_of-put s.ballots number login its_ballot ∙ ap (insert (vote_of s.ballots number) login) (sym says)

  -- where the voter has no ballot there is room for one
  room_for : (pairs : Pairs) → ArePairsOf s number pairs → get (vote_of s.ballots number) login ≡ None → ballots_in pairs < MAX_BALLOTS
  room_for pairs are none =
      let after_valid = step_valid s at (VoteAct number login text token) valid accepted in
      let new : contains_key (vote_of s.ballots number) login ≡ false = ap is_some none in
      let more : len (insert (vote_of s.ballots number) login (marks_in ranks)) ≡ len (vote_of s.ballots number) + 1 =
      len-insert text_total (vote_of s.ballots number) login (marks_in ranks)
      ∙ ap (λ b. cond b (len (vote_of s.ballots number)) (len (vote_of s.ballots number) + 1)) new in
      let same : len (vote_of voted.ballots number) ≡ len (insert (vote_of s.ballots number) login (marks_in ranks)) = ap len vote_then in
      let few : len (vote_of voted.ballots number) ≤ MAX_BALLOTS =
      subst (λ n. n ≤ MAX_BALLOTS) (sym (voters_as_ballots voted.ballots number))
      (few_ballots voted after_valid.tables number after_valid.votes.ballots) in
      let ballots : ballots_in pairs ≡ len (vote_of s.ballots number) = are.tally.ballots in
      omega arith

  earlier_whole : (old : Ranks) → earlier ≡ Some old → length (marks_in old) ≡ place_count s.choices number
  earlier_whole old is =
      let row = unmapped ranks_in (get s.ballots (number, login)) (marks_in old) (sym stood ∙ ap (option_map marks_in) is) in
      ap length row.2 ∙ (valid.votes.ballots number login row.0 row.1).ranks.whole

  may_replace : ((pairs : Pairs) (vote : Vote) (voter : List ℕ) (these : List Mark)
      → IsPairwiseCountOf pairs vote → get vote voter ≡ Some these → HoldsBallot these pairs)
      → IsSomeAnd (vote_at kept number) (MayCount earlier ranks)
  may_replace held =
      let kept_vote = present (vote_at kept number) ((keeps.polled number).1 has_poll_now) in
      let pairs = kept_vote.0.pairs in
      let was : IsKeptOf s number kept_vote.0 = subst (λ o. IfSome o (IsKeptOf s number)) kept_vote.1 (keeps.votes number) in
      let are = was.pairs in
      given (vote_at kept number) (MayCount earlier ranks) kept_vote.0 kept_vote.1 (
        record {
          same = whole_marks ∙ sym are.options;
          room = elim earlier as (λ e. earlier ≡ e → MatchOption e (ballots_in pairs < MAX_BALLOTS) (λ r.
              (length (marks_in r) ≡ options_of_pairs pairs) × HoldsBallot (marks_in r) pairs)) [
                | None ↦ λ none. room_for pairs are (found ∙ ap (option_map marks_in) none)
                | Some old ↦ λ some. (
                  earlier_whole old some ∙ sym are.options,
                  held pairs (vote_of s.ballots number) login (marks_in old) are.tally (found ∙ ap (option_map marks_in) some),
                )
              ] refl;
        },
        subst (λ n. n + 1 < 2 ^ 64) (sym was.received) (room_to_receive s valid number),
      )

  -- one vote more was accepted
  received_then : votes_received voted.ballots number ≡ votes_received s.ballots number + 1
  received_then =
      let put : votes_received voted.ballots number + received_of (get s.ballots (number, login))
      ≡ votes_received s.ballots number + (received_of (get s.ballots (number, login)) + 1) =
      votes_received-put s.ballots number login its_ballot in
      omega arith

  -- and so they are those of the vote after the act
  kept_with_vote : (more : KeptPairs) → IfSome (vote_at kept number) (λ old. IsSomeAnd (vote_at more number) (CountsVote earlier ranks old))
      → ((other : ℕ) → other ≢ number → vote_at more other ≡ vote_at kept other) → KeepsPairs voted more
  kept_with_vote more replaced others =
      let act = VoteAct number login text token in
      let old = present (vote_at kept number) ((keeps.polled number).1 has_poll_now) in
      let new = taken (vote_at more number) (CountsVote earlier ranks old.0)
      (subst (λ o. IfSome o (λ vote. IsSomeAnd (vote_at more number) (CountsVote earlier ranks vote))) old.1 replaced) in
      let was : IsKeptOf s number old.0 = subst (λ o. IfSome o (IsKeptOf s number)) old.1 (keeps.votes number) in
      let is : IsKeptOf voted number new.0 = record {
        pairs = record {
          options = new.2.0.options ∙ was.pairs.options;
          tally = subst (IsPairwiseCountOf new.0.pairs) (sym vote_then) (new.2.0.vote (vote_of s.ballots number) login was.pairs.tally found);
        };
        received = new.2.1 ∙ ap (λ n. n + 1) was.received ∙ sym received_then;
      } in
      record {
        polled = λ n. elim (same_or_other n number) as (λ _. IsSome (vote_at more n) ↔ HasPoll voted n) [
          | inl same ↦ subst (λ m. IsSome (vote_at more m) ↔ HasPoll voted m) (sym same) (λ some. has_poll_now, λ has. ap is_some new.1)
          | inr other ↦ subst (λ o. IsSome o ↔ HasPoll voted n) (sym (others n other)) (keeps.polled n)
        ];
        votes = λ n. elim (same_or_other n number) as (λ _. IfSome (vote_at more n) (IsKeptOf voted n)) [
          | inl same ↦ subst (λ m. IfSome (vote_at more m) (IsKeptOf voted m)) (sym same)
              (subst (λ o. IfSome o (IsKeptOf voted number)) (sym new.1) is)
          | inr other ↦ subst (λ o. IfSome o (IsKeptOf voted n)) (sym (others n other))
              (kept_of_other s at valid act accepted kept keeps n (votes_elsewhere n other))
        ];
      }
    where
      votes_elsewhere : (n : ℕ) → n ≢ number → votes_in n (VoteAct number login text token) ≡ false
      votes_elsewhere n other = grind arith

-- ==== the counts after an act, by what it counts

-- what leaves the counts is no vote, and begins none
counts_nothing : (s : State) (at : ℕ) (act : Act) → Counts s at act counting.Nothing → (ballots_put act ≡ []) × BeginsNone s at act
counts_nothing s at (Call number days) is = (refl, none_live (live_choices s.choices at number) is)
  where
    none_live : (live : List (ChoiceKey × ChoiceModel)) → counting.Nothing ≡ counting_of_call number live → live ≡ []
    none_live [] is = refl
    none_live (first ∷ others) is = cc
counts_nothing s at (VoteAct number login text token) is = let never : counting.Nothing ≡ counting.Replaces number is.0 is.1 = is.2 in cc
counts_nothing s at other is = (refl, tt)

-- what begins the counts of a resolution is the call for its vote
record IsCallOn (s : State) (at : ℕ) (act : Act) (number : ℕ) : Type 0 where
  days : ℤ
  is : act ≡ Call number days
  first : ChoiceKey × ChoiceModel
  others : List (ChoiceKey × ChoiceModel)
  live : live_choices s.choices at number ≡ first ∷ others

no_beginning : (number : ℕ) → counting.Begins number ≡ counting.Nothing → ⊥
no_beginning number is = cc

counts_beginning : (s : State) (at : ℕ) (act : Act) (number : ℕ) → Counts s at act (counting.Begins number) → IsCallOn s at act number
counts_beginning s at (Call of_number days) number is = begun (live_choices s.choices at of_number) refl is
  where
    begun : (live : List (ChoiceKey × ChoiceModel)) → live_choices s.choices at of_number ≡ live
        → counting.Begins number ≡ counting_of_call of_number live → IsCallOn s at (Call of_number days) number
    begun [] here is = absurd (no_beginning number is)
    begun (first ∷ others) here is =
        let same : of_number ≡ number = cc in record {
          days = days;
          is = ap (λ n. Call n days) same;
          first = first;
          others = others;
          live = ap (live_choices s.choices at) (sym same) ∙ here;
        }
counts_beginning s at (VoteAct of_number login text token) number is =
    let never : counting.Begins number ≡ counting.Replaces of_number is.0 is.1 = is.2 in cc
counts_beginning s at other number is = absurd (no_beginning number is)

-- what replaces a ballot is the vote of its voter
record IsVoteOn (s : State) (act : Act) (number : ℕ) (earlier : Option Ranks) (ranks : Ranks) : Type 0 where
  login : List ℕ
  text : List ℕ
  token : List ℕ
  is : act ≡ VoteAct number login text token
  says : marks_in ranks ≡ map mark_of text
  stood : option_map marks_in earlier ≡ marks_of s number login

no_replacement : (number : ℕ) (earlier : Option Ranks) (ranks : Ranks) → counting.Replaces number earlier ranks ≡ counting.Nothing → ⊥
no_replacement number earlier ranks is = cc

counts_replacement : (s : State) (at : ℕ) (act : Act) (number : ℕ) (earlier : Option Ranks) (ranks : Ranks)
    → Counts s at act (counting.Replaces number earlier ranks) → IsVoteOn s act number earlier ranks
counts_replacement s at (VoteAct of_number login text token) number earlier ranks is =
    let both : counting.Replaces number earlier ranks ≡ counting.Replaces of_number is.0 is.1 = is.2 in
    let same : of_number ≡ number = cc in
    let same_ranks : ranks ≡ is.1 = cc in
    let same_earlier : earlier ≡ is.0 = cc in
    record {
      login = login;
      text = text;
      token = token;
      is = ap (λ n. VoteAct n login text token) same;
      says = ap marks_in same_ranks ∙ is.3;
      stood = ap (option_map marks_in) same_earlier ∙ is.4 ∙ ap (λ n. marks_of s n login) same;
    }
counts_replacement s at (Call of_number days) number earlier ranks is = absurd (never (live_choices s.choices at of_number) is)
  where
    never : (live : List (ChoiceKey × ChoiceModel)) → counting.Replaces number earlier ranks ≡ counting_of_call of_number live → ⊥
    never [] is = cc
    never (first ∷ others) is = cc
counts_replacement s at other number earlier ranks is = absurd (no_replacement number earlier ranks is)

module _ (kept : KeptPairs) (t : State) where
  valid_then : (counting : Counting) → IsCountedBehind kept counting t → IsValid t
  valid_then counting b = subst IsValid (sym b.behind) (step_valid b.before b.at b.act b.valid b.accepted)

  -- they are left
  pub left_behind : IsCountedBehind kept counting.Nothing t → KeepsPairs t kept
  left_behind b =
      let puts = counts_nothing b.before b.at b.act b.counts in
      subst (λ u. KeepsPairs u kept) (sym b.behind) (kept_without_vote b.before b.at b.valid b.act b.accepted kept b.keeps puts.0 puts.1)

  -- they begin with nobody
  module _ (number : ℕ) (b : IsCountedBehind kept (counting.Begins number) t) where
    call_then : IsCallOn b.before b.at b.act number
    call_then = counts_beginning b.before b.at b.act number b.counts

    may_come : IsAccepted b.before b.at (Call number call_then.days)
    may_come = subst (IsAccepted b.before b.at) call_then.is b.accepted

    is_then : t ≡ counted (effect b.before b.at (Call number call_then.days)) b.at
    is_then = b.behind ∙ ap (λ act. counted (effect b.before b.at act) b.at) call_then.is

    polled_then : HasPoll t number
    polled_then =
        subst (λ u. HasPoll u number) (sym is_then)
        (polled_now b.before b.at b.valid number call_then.days may_come call_then.first call_then.others call_then.live)

    pub few_places_then : place_count t.choices number ≤ MAX_OPTIONS
    few_places_then = few_places t (valid_then (counting.Begins number) b).tables number polled_then

    pub enough_places_then : MIN_OPTIONS ≤ place_count t.choices number
    enough_places_then = enough_places t (valid_then (counting.Begins number) b).tables number polled_then

    pub begun_behind : (vote : KeptVote) → options_of_pairs vote.pairs ≡ place_count t.choices number → IsPairwiseCountOf vote.pairs empty
        → vote.received ≡ 0 → (more : KeptPairs) → vote_at more number ≡ Some vote → ((other : ℕ) → other ≢ number → vote_at more other ≡ vote_at kept other)
        → KeepsPairs t more
    begun_behind vote places nobody nothing more here others =
        subst (λ u. KeepsPairs u more) (sym is_then)
        (kept_called b.before b.at b.valid number call_then.days may_come call_then.first call_then.others call_then.live kept b.keeps vote
        (places ∙ ap (λ u. place_count u.choices number) is_then) nobody nothing more here others)

  -- they have one ballot in the place of another
  module _ (number : ℕ) (earlier : Option Ranks) (ranks : Ranks) (b : IsCountedBehind kept (counting.Replaces number earlier ranks) t) where
    vote_on : IsVoteOn b.before b.act number earlier ranks
    vote_on = counts_replacement b.before b.at b.act number earlier ranks b.counts

    may_vote : IsAccepted b.before b.at (VoteAct number vote_on.login vote_on.text vote_on.token)
    may_vote = subst (IsAccepted b.before b.at) vote_on.is b.accepted

    pub may_replace_then : ((pairs : Pairs) (vote : Vote) (voter : List ℕ) (these : List Mark)
        → IsPairwiseCountOf pairs vote → get vote voter ≡ Some these → HoldsBallot these pairs)
        → IsSomeAnd (vote_at kept number) (MayCount earlier ranks)
    may_replace_then held =
        may_replace b.before b.at b.valid number vote_on.login vote_on.text vote_on.token may_vote kept b.keeps earlier ranks vote_on.says vote_on.stood held

    pub replaced_behind : (more : KeptPairs)
        → IfSome (vote_at kept number) (λ old. IsSomeAnd (vote_at more number) (CountsVote earlier ranks old))
        → ((other : ℕ) → other ≢ number → vote_at more other ≡ vote_at kept other) → KeepsPairs t more
    replaced_behind more replaced others =
        subst (λ u. KeepsPairs u more)
        (sym (b.behind ∙ ap (λ act. counted (effect b.before b.at act) b.at) vote_on.is))
        (kept_with_vote b.before b.at b.valid number vote_on.login vote_on.text vote_on.token may_vote kept b.keeps earlier ranks vote_on.says
        vote_on.stood more replaced others)

-- the counts that are kept of a resolution are those of its vote
pub pairs_told : (s : State) (kept : KeptPairs) → KeepsPairs s kept → (number : ℕ) (pairs : Pairs)
    → IsSomeAnd (vote_at kept number) (λ vote. vote.pairs ≡ pairs) → ArePairsOf s number pairs
pairs_told s kept keeps number pairs told =
    let vote = taken (vote_at kept number) (λ vote. vote.pairs ≡ pairs) told in
    let is : IsKeptOf s number vote.0 = subst (λ found. IfSome found (IsKeptOf s number)) vote.1 (keeps.votes number) in
    subst (ArePairsOf s number) vote.2 is.pairs

-- the number that is told of a resolution is that of its ballots
pub received_told : (s : State) → IsValid s → (kept : KeptPairs) → KeepsPairs s kept → (number : ℕ)
    → received_at (vote_at kept number) ≡ votes_received s.ballots number
received_told s valid kept keeps number =
    elim (vote_at kept number) as (λ o. vote_at kept number ≡ o → received_at o ≡ votes_received s.ballots number) [
      | Some vote ↦ λ is. let kept_of : IsKeptOf s number vote = subst (λ o. IfSome o (IsKeptOf s number)) is (keeps.votes number) in kept_of.received
      | None ↦ λ is. sym (votes_received-none s.ballots number (λ login. absent (get s.ballots (number, login)) (λ some.
          let ballot = present (get s.ballots (number, login)) some in
          not_false (sym (ap is_some is) ∙ (keeps.polled number).1 (valid.votes.ballots number login ballot.0 ballot.1).poll))))
    ] refl

-- a desk that is made has no poll
pub kept_new : (kept : KeptPairs) → ((number : ℕ) → vote_at kept number ≡ None) → KeepsPairs new_state kept
kept_new kept none = record {
  polled = λ number. (
    λ some. absurd (not_false (sym (ap is_some (none number)) ∙ some)),
    λ has. let row = with_poll (get new_state.resolutions number) has in absurd (not_None row.0 (sym (get-empty nat_cmp number) ∙ row.1)),
  );
  votes = λ number. subst (λ o. IfSome o (IsKeptOf new_state number)) (sym (none number)) tt;
}

-- ==== what a load adds up

-- just those of these rows that have a poll have a kept vote, each what its ballots say
pub record KeepsRows (s : State) (kept : KeptPairs) (rows : List (ℕ × Resolution)) : Type 0 where
  pub polled : (number : ℕ) → IsSome (vote_at kept number) ↔ IsSome (option_and_then poll_of (find nat_cmp number rows))
  pub votes : (number : ℕ) → IfSome (vote_at kept number) (IsKeptOf s number)

module _ (s : State) where
  pub keeps_no_rows : (kept : KeptPairs) → ((number : ℕ) → vote_at kept number ≡ None) → KeepsRows s kept []
  keeps_no_rows kept none = record {
    polled = λ number. subst (λ o. IsSome o ↔ IsSome (option_and_then poll_of (find nat_cmp number []))) (sym (none number))
        (λ some. absurd (not_false some), λ some. absurd (not_false some));
    votes = λ number. subst (λ o. IfSome o (IsKeptOf s number)) (sym (none number)) tt;
  }

  -- where the rows are those of all resolutions
  pub keeps_all_rows : (kept : KeptPairs) (rows : List (ℕ × Resolution)) → rows ≡ entries s.resolutions → KeepsRows s kept rows → KeepsPairs s kept
  keeps_all_rows kept rows all keeps = record {
    polled = λ number. subst (λ found. IsSome (vote_at kept number) ↔ IsSome (option_and_then poll_of found))
        (ap (find nat_cmp number) all ∙ sym (get-entries s.resolutions number)) (keeps.polled number);
    votes = keeps.votes;
  }

  -- the row of a resolution comes after those before it
  module _ (rows behind : List (ℕ × Resolution)) (number : ℕ) (row : Resolution) (split : entries s.resolutions ≡ rows ++ (number, row) ∷ behind) where
    abbrev now_found : ℕ → Option Resolution
    now_found n = find nat_cmp n (rows ++ (number, row) ∷ [])

    here : now_found number ≡ Some row
    here = found_here nat_cmp_total nat_cmp-IsAntisymmetric s.resolutions rows behind number row split

    elsewhere : (n : ℕ) → n ≢ number → now_found n ≡ find nat_cmp n rows
    elsewhere = found_elsewhere nat_cmp_total nat_cmp-IsAntisymmetric s.resolutions rows behind number row split

    pub keeps_one_more : (kept more : KeptPairs) (vote : KeptVote) → KeepsRows s kept rows → IsSome (poll_of row) → IsKeptOf s number vote
        → vote_at more number ≡ Some vote → ((other : ℕ) → other ≢ number → vote_at more other ≡ vote_at kept other)
        → KeepsRows s more (rows ++ (number, row) ∷ [])
    keeps_one_more kept more vote so_far has is put others = record {
      polled = λ n. elim (same_or_other n number) as (λ _. IsSome (vote_at more n) ↔ IsSome (option_and_then poll_of (now_found n))) [
        | inl same ↦ subst (λ m. IsSome (vote_at more m) ↔ IsSome (option_and_then poll_of (now_found m))) (sym same) (
          λ some. subst (λ o. IsSome (option_and_then poll_of o)) (sym here) has,
          λ some. ap is_some put,
        )
        | inr other ↦ subst (λ o. IsSome (vote_at more n) ↔ IsSome (option_and_then poll_of o)) (sym (elsewhere n other))
            (subst (λ o. IsSome o ↔ IsSome (option_and_then poll_of (find nat_cmp n rows))) (sym (others n other)) (so_far.polled n))
      ];
      votes = λ n. elim (same_or_other n number) as (λ _. IfSome (vote_at more n) (IsKeptOf s n)) [
        | inl same ↦ subst (λ m. IfSome (vote_at more m) (IsKeptOf s m)) (sym same) (subst (λ o. IfSome o (IsKeptOf s number)) (sym put) is)
        | inr other ↦ subst (λ o. IfSome o (IsKeptOf s n)) (sym (others n other)) (so_far.votes n)
      ];
    }

    pub keeps_as_many : (kept : KeptPairs) → KeepsRows s kept rows → ¬ (IsSome (poll_of row)) → KeepsRows s kept (rows ++ (number, row) ∷ [])
    keeps_as_many kept so_far none = record {
      polled = λ n. elim (same_or_other n number) as (λ _. IsSome (vote_at kept n) ↔ IsSome (option_and_then poll_of (now_found n))) [
        | inl same ↦ subst (λ m. IsSome (vote_at kept m) ↔ IsSome (option_and_then poll_of (now_found m))) (sym same) (
          λ some. absurd (not_false (subst (λ o. IsSome (option_and_then poll_of o))
              (none_before nat_cmp_total nat_cmp-IsAntisymmetric s.resolutions rows behind number row split) ((so_far.polled number).0 some))),
          λ some. absurd (none (subst (λ o. IsSome (option_and_then poll_of o)) here some)),
        )
        | inr other ↦ subst (λ o. IsSome (vote_at kept n) ↔ IsSome (option_and_then poll_of o)) (sym (elsewhere n other)) (so_far.polled n)
      ];
      votes = so_far.votes;
    }
