-- What an act leaves of a vote: its poll, what is on the ballot, and the ballots.
use Rattle.std.proofs.Common.{◌≡◌, ℕ, ◌+◌, inl, inr, Bool, true, false, List, [], ◌∷◌, ◌++◌, map, filter, length, Some, is_some, IsSomeAnd, IsFalse, refl, sym, ap, ◌∙◌, subst}
use Rattle.std.specs.Prelude.{option_and_then, option_map, unwrap_or, nat_eq, slice_index}
use Rattle.std.specs.Cmp.{nat_cmp_total, eq_by_cmp_equiv, unsigned_ties}
use Rattle.std.specs.FinMap.{FinMap, get, from_entries, nat_cmp-IsAntisymmetric}
use Rattle.gr_count.specs.Election.{Election}
use Rattle.gr_count.specs.Shown.{election_by_voters}
use Rattle.gr_core.specs.declared.resolution.Poll.{Poll}
use Rattle.gr_core.specs.declared.resolution.Resolution.{Resolution}
use Rattle.gr_core.specs.declared.resolution.Resolution.TheVariants.{Draft, Discussing, Voting, Closed, Cancelled}
use Rattle.gr_core.specs.declared.choice.ChoiceKey.{ChoiceKey}
use Rattle.gr_core.specs.declared.refusal.Refusal.TheVariants.{WrongStage}
use Rattle.gr_core.specs.Parts.Key.{BallotKey, choice_cmp, ballot_cmp}
use Rattle.gr_core.specs.Parts.Resolution.{poll_of, closed, decided}
use Rattle.gr_core.specs.Parts.Choice.{ChoiceModel, choices_of, choice_key}
use Rattle.gr_core.specs.Machine.Map.{changed_at}
use Rattle.gr_core.specs.Parts.Ballot.{BallotModel, new_ballot, ballots_of, voter_of}
use Rattle.gr_core.specs.Desks.State.{State}
use Rattle.gr_core.specs.Desks.Outcome.{election_at, place_count}
use Rattle.gr_core.specs.Desks.Valid.{AreTables}
use Rattle.gr_core.specs.Machine.Act.{Act, Propose, Vote, Close, Cast, resolution_of, resolution_at}
use Rattle.gr_core.specs.Machine.Refusal.{IsAccepted, may_come}
use Rattle.gr_core.specs.Machine.Effect.{effect, counted, next_resolution}
use Rattle.gr_core.specs.Machine.Step.{reply_to}
use Rattle.gr_core.specs.Laws.ResolutionLaws.{AreAlikeUnder, touched}
use Rattle.gr_core.specs.Laws.VotingLaws.{votes_in}
use Rattle.gr_core.proofs.Collections.PresenceLemmas.{not_None, not_false, given}
use Rattle.gr_core.proofs.Contents.ChoiceKeys.{same_number}
use Rattle.gr_core.proofs.Contents.BallotKeys.{ballot_total, ballot_only}
use Rattle.gr_core.proofs.Collections.RowChangedLemmas.{get-changed_at, get-changed_at_other}
use Rattle.gr_core.proofs.Contents.StableLemmas.{same_or_other}
use Rattle.gr_core.proofs.Contents.KeptRowLemmas.{passing-same, choices_of-same}
use Rattle.gr_core.proofs.Collections.RowPutLemmas.{get-put_other}
use Rattle.gr_core.proofs.Effects.LeftTableLemmas.{ballots-effect}
use Rattle.gr_core.proofs.Effects.ResolutionLemmas.{no_resolution}
use Rattle.gr_core.proofs.Effects.CloseAndCastLemmas.{poll_of-closed, poll_of-decided}
use Rattle.gr_core.proofs.Effects.LeftResolutionLemmas.{touches_one}

-- a number is equal to itself
number_eq : (a b : ℕ) → a ≡ b → nat_eq a b ≡ true
number_eq a b same =
    subst (λ n. nat_eq a n ≡ true) same (unsigned_ties a a ∙ (eq_by_cmp_equiv nat_cmp_total).refl a)

-- ==== what is counted

-- tables with the same ballots of a resolution, login by login, have the same ballots of it
pub ballots_of-same : (m n : FinMap ballot_cmp BallotModel) (resolution : ℕ)
    → ((login : List ℕ) → get n (resolution, login) ≡ get m (resolution, login))
    → ballots_of n resolution ≡ ballots_of m resolution
ballots_of-same m n resolution is =
    passing-same ballot_total ballot_only (λ (key : BallotKey). nat_eq resolution key.0) m n
    (λ q on. subst (λ number. get n (number, q.1) ≡ get m (number, q.1)) (same_number resolution q.0 on) (is q.1))

-- the election that these choices and these ballots make
abbrev election_of_lists : List (ChoiceKey × ChoiceModel) → List (BallotKey × BallotModel) → Poll → Election
election_of_lists choices ballots poll =
    let placed = filter (λ entry. is_some entry.1.place) choices in
    election_by_voters (length placed + 1) (from_entries (map voter_of ballots)) poll.developers
    (slice_index (map (λ entry. entry.1.ratio) placed ++ 1 ∷ []))

-- a resolution with the same choices and the same ballots has the same election
pub election-same : (s t : State) (number : ℕ) (poll : Poll)
    → choices_of t.choices number ≡ choices_of s.choices number
    → ballots_of t.ballots number ≡ ballots_of s.ballots number
    → election_at t number poll ≡ election_at s number poll
election-same s t number poll choices ballots = λ i. election_of_lists (choices i) (ballots i) poll

-- and as many places
pub place_count-same : (m n : FinMap choice_cmp ChoiceModel) (number : ℕ) → choices_of n number ≡ choices_of m number
    → place_count n number ≡ place_count m number
place_count-same m n number choices = ap (λ es. length (filter (λ entry. is_some entry.1.place) es) + 1) choices

-- ==== what acts leave

-- the act brings no ballot, ends no vote and uses no casting vote
abbrev pub is_quiet : Act → Bool
is_quiet (Vote resolution login ranks token) = false
is_quiet (Close resolution) = false
is_quiet (Cast resolution place) = false
is_quiet other = true

-- where a poll is or was, such an act cannot come
quiet_cannot_come : (act : Act) (row : Resolution) (poll : Poll) → is_quiet act ≡ true → poll_of row ≡ Some poll
    → IsFalse (may_come act row)
quiet_cannot_come (Vote resolution login ranks token) row poll quiet is = absurd (not_false quiet)
quiet_cannot_come (Close resolution) row poll quiet is = absurd (not_false quiet)
quiet_cannot_come (Cast resolution place) row poll quiet is = absurd (not_false quiet)
quiet_cannot_come act (Voting discussion held) poll quiet is = refl
quiet_cannot_come act (Closed discussion held chosen) poll quiet is = refl
quiet_cannot_come act Draft poll quiet is = absurd (not_None poll is)
quiet_cannot_come act (Discussing discussion) poll quiet is = absurd (not_None poll is)
quiet_cannot_come act (Cancelled discussion) poll quiet is = absurd (not_None poll is)

-- the poll of the resolution is in t what it was in s, and so are its choices
pub record KeepsPoll (s t : State) (number : ℕ) (poll : Poll) : Type 0 where
  pub row : IsSomeAnd (get t.resolutions number) (λ after. poll_of after ≡ Some poll)
  pub choices : choices_of t.choices number ≡ choices_of s.choices number

module _ (clock : ℕ) (s : State) (at : ℕ) (valid : AreTables clock s) (number : ℕ) (row : Resolution) (poll : Poll)
    (is : get s.resolutions number ≡ Some row) (polled : poll_of row ≡ Some poll) where
  -- an accepted act of that kind does not name the resolution
  names_another : (act : Act) → IsAccepted s at act → is_quiet act ≡ true → resolution_of act ≡ Some number → ⊥
  names_another act accepted quiet named =
      let found : resolution_at s act ≡ Some row = ap (option_and_then (get s.resolutions)) named ∙ is in
      accepted WrongStage (given (resolution_at s act) (λ r. IsFalse (may_come act r)) row found
      (quiet_cannot_come act row poll quiet polled))

  -- nor does it make it, so it touches another one
  pub touches_another : (act : Act) → IsAccepted s at act → is_quiet act ≡ true → touched s act ≡ Some number → ⊥
  touches_another (Propose proposer wording ratio) accepted quiet same =
      let one : next_resolution s ≡ number = ap (λ o. unwrap_or o 0) same in
      not_None row (sym (no_resolution s valid.numbered) ∙ ap (get s.resolutions) one ∙ is)
  touches_another act accepted quiet same = names_another act accepted quiet same

  -- what leaves the resolution leaves its poll and its choices
  keeps-alike : (t : State) → AreAlikeUnder s t number → KeepsPoll s t number poll
  keeps-alike t alike = record {
    row = given (get t.resolutions number) _ row (alike.row ∙ is) polled;
    choices = choices_of-same s.choices t.choices number (λ key on.
        subst (λ n. get t.choices (choice_key n key.number) ≡ get s.choices (choice_key n key.number)) on
        (alike.choices key.number));
  }

  -- a resolution is changed in a way that leaves its poll
  keeps-changed : (key : ℕ) (change : Resolution → Resolution)
      → ((old : Resolution) → poll_of (change old) ≡ poll_of old)
      → IsSomeAnd (get (changed_at s.resolutions key change) number) (λ after. poll_of after ≡ Some poll)
  keeps-changed key change same_poll =
      elim (same_or_other number key) [
        | inl same ↦
            given (get (changed_at s.resolutions key change) number) _ (change row)
            (ap (get (changed_at s.resolutions key change)) same
            ∙ get-changed_at nat_cmp_total nat_cmp-IsAntisymmetric s.resolutions key change
            ∙ ap (option_map change) (ap (get s.resolutions) (sym same) ∙ is))
            (same_poll row ∙ polled)
        | inr other ↦
            given (get (changed_at s.resolutions key change) number) _ row
            (get-changed_at_other nat_cmp_total nat_cmp-IsAntisymmetric s.resolutions key number change other ∙ is)
            polled
      ]

  -- no accepted act changes the poll of a resolution, or its choices once it has one
  pub keeps_poll : (act : Act) → IsAccepted s at act → KeepsPoll s (counted (effect s at act) at) number poll
  keeps_poll (Vote resolution login ranks token) accepted = record {
    row = given (get s.resolutions number) _ row is polled;
    choices = refl;
  }
  keeps_poll (Close resolution) accepted = record {
    row = keeps-changed resolution closed poll_of-closed;
    choices = refl;
  }
  keeps_poll (Cast resolution place) accepted = record {
    row = keeps-changed resolution (decided place) (poll_of-decided place);
    choices = refl;
  }
  keeps_poll act accepted =
      let t = counted (effect s at act) at in
      keeps-alike t (touches_one s at act (reply_to s at act) t number (accepted, refl, refl)
      (touches_another act accepted refl))

  -- nor its ballots, unless it is a vote on it
  pub keeps_ballots : (act : Act) → votes_in number act ≡ false → (login : List ℕ)
      → get (effect s at act).ballots (number, login) ≡ get s.ballots (number, login)
  keeps_ballots (Vote resolution name ranks token) other login =
      get-put_other ballot_total ballot_only s.ballots (resolution, name) (number, login)
      (new_ballot (get s.ballots (resolution, name)) resolution name ranks token)
      (λ same. not_false (sym other ∙ number_eq number resolution (ap (λ (k : BallotKey). k.0) same)))
  keeps_ballots act other login = ap (λ ballots. get ballots (number, login)) (ballots-effect s at act refl)

  -- so what is counted of it changes by votes alone
  pub keeps_election : (act : Act) → IsAccepted s at act → votes_in number act ≡ false
      → election_at (counted (effect s at act) at) number poll ≡ election_at s number poll
  keeps_election act accepted other =
      let t = counted (effect s at act) at in
      election-same s t number poll (keeps_poll act accepted).choices
      (ballots_of-same s.ballots t.ballots number (keeps_ballots act other))
