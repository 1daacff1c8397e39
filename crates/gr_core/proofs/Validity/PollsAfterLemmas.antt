-- What an accepted act leaves of polls and their votes, and which polls it begins.
use Rattle.std.proofs.Common.{◌≡◌, ◌≢◌, ℕ, inl, inr, List, [], cond, true, false, Option, Some, None, option_map, is_some, IsSome, refl, sym, ap, ◌∙◌, subst}
use Rattle.std.specs.List.{sum_by}
use Rattle.std.specs.Prelude.{option_and_then}
use Rattle.std.specs.Ordering.{nat_cmp}
use Rattle.std.specs.Cmp.{nat_cmp_total}
use Rattle.std.specs.Prelude.{IsSomeAnd}
use Rattle.std.specs.FinMap.{FinMap, nat_cmp-IsAntisymmetric, get}
use Rattle.gr_core.specs.Parts.Key.{BallotKey}
use Rattle.gr_core.specs.Parts.Ballot.{BallotModel, new_ballot, vote_of}
use Rattle.gr_count.specs.PairwiseCount.{IsPairwiseCountOf}
use Rattle.gr_core.specs.declared.kept_vote.KeptVote.{KeptVote}
use Rattle.gr_core.specs.declared.bookkeeping.Gain.{Gain}
use Rattle.gr_core.specs.declared.bookkeeping.Gain.TheVariants as gain
use Rattle.gr_core.specs.declared.choice.ChoiceKey.{ChoiceKey}
use Rattle.gr_core.specs.declared.resolution.Poll.{Poll}
use Rattle.gr_core.specs.declared.resolution.Resolution.{Resolution}
use Rattle.gr_core.specs.declared.resolution.Resolution.TheVariants.{Draft, Discussing}
use Rattle.gr_core.specs.Parts.Choice.{ChoiceModel}
use Rattle.gr_core.specs.Parts.Resolution.{poll_of, entered, changed, shifted, closed, decided}
use Rattle.gr_core.specs.Desks.State.{State}
use Rattle.gr_core.specs.Desks.Valid.{IsValid}
use Rattle.gr_core.specs.Machine.Act.{Act, Propose, AddChoice, Sponsor, Unsponsor, Withdraw, Adopt, Amend, Vary, Call, Close, Cast, Vote as VoteAct}
use Rattle.gr_core.specs.Machine.Refusal.{IsAccepted}
use Rattle.gr_core.specs.Machine.Bookkeeping.{gain_at, with_gain}
use Rattle.gr_core.specs.Machine.Map.{changed_at}
use Rattle.gr_core.specs.Machine.Effect.{called, changes_ballot, counted, effect, first_choice_key, live_choices, next_choice_key, next_resolution, own, poll_at}
use Rattle.gr_core.specs.Desks.Outcome.{place_count}
use Rattle.gr_core.specs.InMemory.KeptPairs.{HasPoll, IsKeptOf}
use Rattle.gr_core.specs.Laws.VotingLaws.{votes_in}
use Rattle.gr_core.proofs.Effects.LeftVoteLemmas.{ballots_of-same, place_count-same, keeps_poll, keeps_ballots}
use Rattle.gr_core.proofs.Contents.BallotKeys.{ballot_total, ballot_only}
use Rattle.gr_core.proofs.Collections.PresenceLemmas.{absent, not_false, present}
use Rattle.gr_core.proofs.Contents.StableLemmas.{same_or_other}
use Rattle.gr_core.proofs.Collections.RowPutLemmas.{get-put, get-put_other}
use Rattle.gr_core.proofs.Collections.RowChangedLemmas.{get-changed_at, get-changed_at_other}
use Rattle.gr_core.proofs.Effects.LeftTableLemmas.{ballots-effect}
use Rattle.gr_core.proofs.Contents.ElectionLemmas.{with_poll}
use Rattle.gr_core.proofs.Effects.VoteFindsPollLemmas.{held_is_had, poll_of_vote}
use Rattle.gr_core.proofs.Effects.LeftRowLemmas.{resolutions_left}
use Rattle.gr_core.proofs.Effects.CloseAndCastLemmas.{poll_of-closed, poll_of-decided}
use Rattle.gr_core.proofs.Validity.StageLemmas.{poll_of-changed, poll_of-entered, poll_of-shifted}
use Rattle.gr_core.proofs.Contents.VoteBallotLemmas.{ranks_in, get-vote_of, same_vote}

-- ==== what an accepted act leaves of a poll

module _ (s : State) (at : ℕ) (valid : IsValid s) (act : Act) (accepted : IsAccepted s at act) where
  abbrev pub after : State
  after = counted (effect s at act) at

  -- of a poll that there is: it goes on, with as many places
  pub poll_stays : (number : ℕ) (row : Resolution) (poll : Poll) → get s.resolutions number ≡ Some row → poll_of row ≡ Some poll
      → (place_count after.choices number ≡ place_count s.choices number)
      × IsSomeAnd (get after.resolutions number) (λ later. poll_of later ≡ Some poll)
  poll_stays number row poll is polled =
      let kept = keeps_poll s.header.clock s at valid.tables number row poll is polled act accepted in
      (place_count-same s.choices after.choices number kept.choices, kept.row)

  -- its vote is as it was, unless the act is a vote on it
  pub vote_stays : (number : ℕ) (row : Resolution) (poll : Poll) → get s.resolutions number ≡ Some row → poll_of row ≡ Some poll
      → votes_in number act ≡ false → vote_of after.ballots number ≡ vote_of s.ballots number
  vote_stays number row poll is polled other =
      let kept = keeps_ballots s.header.clock s at valid.tables number row poll is polled act other in
      same_vote _ _ (λ voter.
      get-vote_of number voter after.ballots ∙ ap (option_map ranks_in) (kept voter) ∙ sym (get-vote_of number voter s.ballots))

  -- so a resolution with a poll has one afterwards
  pub has_poll_still : (number : ℕ) → HasPoll s number → HasPoll after number
  has_poll_still number has =
      let row = with_poll (get s.resolutions number) has in
      let poll = present (poll_of row.0) row.2 in
      polled (get after.resolutions number) poll.0 (poll_stays number row.0 poll.0 row.1 poll.1).1
    where
      polled : (found : Option Resolution) (poll : Poll) → IsSomeAnd found (λ later. poll_of later ≡ Some poll)
          → IsSome (option_and_then poll_of found)
      polled None poll is = absurd is
      polled (Some later) poll is = ap is_some is

  -- and where the act is no vote on it, what is kept of it is still so
  pub kept_stays : (number : ℕ) → HasPoll s number → votes_in number act ≡ false → (vote : KeptVote) → IsKeptOf s number vote
      → IsKeptOf after number vote
  kept_stays number has other vote is =
      let row = with_poll (get s.resolutions number) has in
      let poll = present (poll_of row.0) row.2 in
      let ballots = keeps_ballots s.header.clock s at valid.tables number row.0 poll.0 row.1 poll.1 act other in
      record {
        pairs = record {
          options = is.pairs.options ∙ sym (poll_stays number row.0 poll.0 row.1 poll.1).0;
          tally = subst (IsPairwiseCountOf vote.pairs) (sym (vote_stays number row.0 poll.0 row.1 poll.1 other)) is.pairs.tally;
        };
        received = is.received
            ∙ ap (sum_by (λ (entry : BallotKey × BallotModel). entry.1.received)) (sym (ballots_of-same s.ballots after.ballots number ballots));
      }

  -- a resolution that had no poll has no ballot afterwards
  pub no_ballot_yet : (number : ℕ) → (¬ HasPoll s number) → (login : List ℕ) → get after.ballots (number, login) ≡ None
  no_ballot_yet number none login =
      absent (get after.ballots (number, login)) (λ some.
      let ballot = present (get after.ballots (number, login)) some in
      none (had number login ballot.0 act accepted ballot.1))
    where
      had : (n : ℕ) (voter : List ℕ) (row : BallotModel) (this : Act) → IsAccepted s at this
          → get (counted (effect s at this) at).ballots (n, voter) ≡ Some row → HasPoll s n
      had n voter row (VoteAct resolution login ranks token) may is =
          elim (same_or_other n resolution) as (λ _. HasPoll s n) [
            | inl same ↦ subst (HasPoll s) (sym same)
                (held_is_had (get s.resolutions resolution) (poll_of_vote s at resolution login ranks token may))
            | inr apart ↦
                (valid.votes.ballots n voter row
                (sym (get-put_other ballot_total ballot_only s.ballots (resolution, login) (n, voter)
                (new_ballot (get s.ballots (resolution, login)) resolution login ranks token)
                (λ same. apart (ap (λ (key : BallotKey). key.0) same))) ∙ is)).poll
          ]
      had n voter row other may is =
          (valid.votes.ballots n voter row (sym (ap (λ ballots. get ballots (n, voter)) (ballots-effect s at other refl)) ∙ is)).poll

-- ==== the polls that an act begins

abbrev Polled : FinMap nat_cmp Resolution → ℕ → Type 0
Polled m number = IsSome (option_and_then poll_of (get m number))

-- a change of a resolution that leaves its poll begins none
mapped_poll : (change : Resolution → Resolution) → ((row : Resolution) → poll_of (change row) ≡ poll_of row) → (found : Option Resolution)
    → option_and_then poll_of (option_map change found) ≡ option_and_then poll_of found
mapped_poll change leaves None = refl
mapped_poll change leaves (Some row) = leaves row

pub polled_elsewhere : (m : FinMap nat_cmp Resolution) (key : ℕ) (change : Resolution → Resolution) (number : ℕ) → number ≢ key
    → Polled (changed_at m key change) number → Polled m number
polled_elsewhere m key change number other =
    subst (λ found. IsSome (option_and_then poll_of found)) (get-changed_at_other nat_cmp_total nat_cmp-IsAntisymmetric m key number change other)

polled_unchanged : (m : FinMap nat_cmp Resolution) (key : ℕ) (change : Resolution → Resolution) → ((row : Resolution) → poll_of (change row) ≡ poll_of row)
    → (number : ℕ) → Polled (changed_at m key change) number → Polled m number
polled_unchanged m key change leaves number has =
    elim (same_or_other number key) as (λ _. Polled m number) [
      | inl same ↦
          let here : option_and_then poll_of (get (changed_at m key change) number) ≡ option_and_then poll_of (get m number) =
          ap (λ n. option_and_then poll_of (get (changed_at m key change) n)) same
          ∙ ap (option_and_then poll_of) (get-changed_at nat_cmp_total nat_cmp-IsAntisymmetric m key change)
          ∙ mapped_poll change leaves (get m key)
          ∙ ap (λ n. option_and_then poll_of (get m n)) (sym same) in
          subst IsSome here has
      | inr other ↦ polled_elsewhere m key change number other has
    ]

polled_ungained : (gain : Gain) (t : State) (at : ℕ) (key : ChoiceKey) (number : ℕ) → HasPoll (with_gain gain t at key) number → HasPoll t number
polled_ungained gain.Nothing t at key number has = has
polled_ungained gain.Introduction t at key number has =
    polled_unchanged t.resolutions key.resolution (entered at) (poll_of-entered at) number has
polled_ungained gain.Remedy t at key number has = has

-- a call with no live choices leaves the poll too
poll_of-cancelled : (live : List (ChoiceKey × ChoiceModel)) (poll : Poll) → live ≡ [] → (row : Resolution) → poll_of (called live poll row) ≡ poll_of row
poll_of-cancelled live poll none row = ap (λ these. poll_of (called these poll row)) none ∙ leaves row
  where
    leaves : (row : Resolution) → poll_of (called [] poll row) ≡ poll_of row
    leaves (Discussing discussion) = refl
    leaves other = refl

-- the act is no call, or one with no live choices
abbrev pub BeginsNone : State → ℕ → Act → Type 0
BeginsNone s at (Call number days) = live_choices s.choices at number ≡ []
BeginsNone s at other = Unit {0}

-- such an act begins no poll
pub polled_before : (s : State) (at : ℕ) (act : Act) → BeginsNone s at act → (number : ℕ) → HasPoll (effect s at act) number → HasPoll s number
polled_before s at (Propose proposer wording ratio) none number has =
    let t = own s at (Propose proposer wording ratio) in
    let key = first_choice_key s in
    let draft : get t.resolutions (next_resolution s) ≡ Some Draft =
    get-put nat_cmp_total nat_cmp-IsAntisymmetric s.resolutions (next_resolution s) Draft in
    let in_t : HasPoll t number = polled_ungained (gain_at t key) t at key number has in
    elim (same_or_other number (next_resolution s)) as (λ _. HasPoll s number) [
      | inl same ↦
          absurd (not_false (subst (λ found. IsSome (option_and_then poll_of found)) (ap (get t.resolutions) same ∙ draft) in_t))
      | inr other ↦
          subst (λ found. IsSome (option_and_then poll_of found))
          (get-put_other nat_cmp_total nat_cmp-IsAntisymmetric s.resolutions (next_resolution s) number Draft other) in_t
    ]
polled_before s at (AddChoice resolution proposer wording ratio) none number has =
    let t = own s at (AddChoice resolution proposer wording ratio) in
    polled_ungained (gain_at t (next_choice_key s resolution)) t at (next_choice_key s resolution) number has
polled_before s at (Sponsor choice login) none number has =
    let t = own s at (Sponsor choice login) in polled_ungained (gain_at t choice) t at choice number has
polled_before s at (Adopt choice proposer) none number has =
    let t = own s at (Adopt choice proposer) in polled_ungained (gain_at t choice) t at choice number has
polled_before s at (Amend choice amendment wording) none number has =
    elim (changes_ballot amendment (get s.resolutions choice.resolution) (get s.choices choice)) as
    (λ b. Polled (cond b (changed_at s.resolutions choice.resolution (changed at)) s.resolutions) number → HasPoll s number) [
      | true ↦ polled_unchanged s.resolutions choice.resolution (changed at) (poll_of-changed at) number
      | false ↦ λ same. same
    ] has
polled_before s at (Vary resolution days) none number has =
    polled_unchanged s.resolutions resolution (shifted days) (poll_of-shifted days) number has
polled_before s at (Call resolution days) none number has =
    let live = live_choices s.choices at resolution in
    polled_unchanged s.resolutions resolution (called live (poll_at s at days)) (poll_of-cancelled live (poll_at s at days) none) number has
polled_before s at (Close resolution) none number has = polled_unchanged s.resolutions resolution closed poll_of-closed number has
polled_before s at (Cast resolution place) none number has =
    polled_unchanged s.resolutions resolution (decided place) (poll_of-decided place) number has
polled_before s at (Unsponsor choice login) none number has =
    subst (λ found. IsSome (option_and_then poll_of found)) (resolutions_left s at (Unsponsor choice login) number refl) has
polled_before s at (Withdraw choice) none number has =
    subst (λ found. IsSome (option_and_then poll_of found)) (resolutions_left s at (Withdraw choice) number refl) has
polled_before s at other none number has = has
