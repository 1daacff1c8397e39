-- What a count asks for of the ballots and the choices of a resolution holds in each state that a desk may have.
use Rattle.std.proofs.Common.{◌≡◌, ℕ, suc, ◌<◌, ◌≤◌, ◌⊎◌, inl, inr, ◌↔◌, Bool, true, false, not, IsTrue, cond, List, [], ◌∷◌, length, Option, Some, None, is_some, IsSome, IfSome, refl, sym, ap, ◌∙◌, subst, count_by, arith, IsSomeAnd}
use Rattle.std.specs.Prelude.{option_and_then}
use Rattle.std.specs.List.{All, cons_option}
use Rattle.std.specs.FinMap.{get, len}
use Rattle.std.proofs.lemmas.List.Elements.{All-filter, All-from_recursion, All-head, All-weaker}
use Rattle.std.proofs.lemmas.List.Sums.{length-filter, count_by-le-length}
use Rattle.gr_count.specs.declared.limits.TheConstants.{MIN_OPTIONS, MAX_OPTIONS, MAX_BALLOTS, MAX_DEVELOPERS}
use Rattle.gr_count.specs.declared.outcome.Count.{Count}
use Rattle.gr_count.specs.Election.{Election}
use Rattle.gr_count.specs.Shown.{is_member}
use Rattle.gr_core.specs.declared.limits.TheConstants.{MAX_CHOICES}
use Rattle.gr_core.specs.declared.choice.ChoiceKey.{ChoiceKey}
use Rattle.gr_core.specs.declared.resolution.Poll.{Poll}
use Rattle.gr_core.specs.declared.resolution.Resolution.{Resolution}
use Rattle.gr_core.specs.declared.resolution.Resolution.TheVariants.{Draft, Discussing, Voting, Closed, Cancelled}
use Rattle.gr_core.specs.Parts.Resolution.{discussion_of, poll_of}
use Rattle.gr_core.specs.Parts.Ballot.{ballots_of}
use Rattle.gr_core.specs.Parts.Choice.{ChoiceModel, choices_of, IsRatio}
use Rattle.gr_core.specs.Desks.Outcome.{on_ballot, place_count, IsCountOf, HasWinner}
use Rattle.gr_core.specs.Desks.State.{State}
use Rattle.gr_core.specs.Desks.Valid.{AreTables, EachBallot, IsBallotIn, IsResolution, IsPoll, IsChoice, IsChoiceIn, places_of}
use Rattle.gr_core.proofs.Contents.ChoiceLemmas.{IsChoiceOf, all_choices_of}
use Rattle.gr_core.proofs.Collections.PresenceLemmas.{not_false, not_None, taken}
use Rattle.gr_core.proofs.Contents.RatioLemmas.{placed_among}
use Rattle.gr_core.proofs.Contents.OnRollLemmas.{IsBallotOf, all_ballots_of, sorted_ballots_of, few_voters}
use Rattle.gr_core.proofs.Collections.ListLemmas.{each_more}

-- there are as many places as choices with one
length-places_of : (es : List (ChoiceKey × ChoiceModel)) → length (places_of es) ≡ length (placed_among es)
length-places_of [] = refl
length-places_of (e ∷ es) =
    elim e.1.place as (λ o. length (cons_option o (places_of es))
    ≡ length (cond (is_some o) (e ∷ placed_among es) (placed_among es))) [
      | Some place ↦ ap suc (length-places_of es)
      | None ↦ length-places_of es
    ]

-- the resolution that has a poll
pub with_poll : (o : Option Resolution) → IsSome (option_and_then poll_of o)
    → (resolution : Resolution) × (o ≡ Some resolution) × IsSome (poll_of resolution)
with_poll None some = absurd (not_false some)
with_poll (Some resolution) some = (resolution, refl, some)

module _ (s : State) (tables : AreTables s.header.clock s) (number : ℕ) where
  -- each ballot has a rank, or none, for each place
  pub whole_ballots : EachBallot s (IsBallotIn s) → All (λ entry. length entry.1.ranks ≡ place_count s.choices number) (ballots_of s.ballots number)
  whole_ballots ballots =
      All-from_recursion _ (ballots_of s.ballots number)
      (each_more (IsBallotOf s.ballots number) (λ entry. length entry.1.ranks ≡ place_count s.choices number)
      (λ entry is. (ballots entry.0.0 entry.0.1 entry.1 is.1).ranks.whole
      ∙ ap (place_count s.choices) (sym is.0))
      (ballots_of s.ballots number) (all_ballots_of s.ballots number))

  -- and there is room for all of them in a count
  pub few_ballots : EachBallot s (IsBallotIn s) → length (ballots_of s.ballots number) ≤ MAX_BALLOTS
  few_ballots ballots =
      let these = all_ballots_of s.ballots number in
      let voters : length (ballots_of s.ballots number) ≤ len s.developers =
      few_voters s.developers number (ballots_of s.ballots number)
      (each_more (IsBallotOf s.ballots number) (λ entry. number ≡ entry.0.0) (λ entry is. is.0)
      (ballots_of s.ballots number) these)
      (sorted_ballots_of s.ballots number)
      (each_more (IsBallotOf s.ballots number) (λ entry. IsSome (get s.developers entry.0.1))
      (λ entry is. (ballots entry.0.0 entry.0.1 entry.1 is.1).on_roll)
      (ballots_of s.ballots number) these) in
      let developers : len s.developers ≤ MAX_DEVELOPERS = tables.few in
      omega arith

  -- the choices of a resolution are such as it may have
  pub choices_in : All (IsChoiceIn s number) (choices_of s.choices number)
  choices_in =
      All-weaker (IsChoiceOf s.choices number) (IsChoiceIn s number)
      (λ entry is. subst (λ n. IsSomeAnd (get s.resolutions n) (λ resolution. IsChoice s.header.clock s.developers resolution entry.1))
      (sym is.0) (tables.choices entry.0 entry.1 is.1))
      (choices_of s.choices number) (all_choices_of s.choices number)

  -- and they are not too many
  pub few_choices : length (choices_of s.choices number) ≤ MAX_CHOICES
  few_choices =
      elim (choices_of s.choices number) as (λ es. choices_of s.choices number ≡ es → All (IsChoiceIn s number) es
      → length es ≤ MAX_CHOICES) [
        | [] ↦ λ is all. omega arith
        | e ∷ es ↦ λ is all.
            let found = taken (get s.resolutions number) (λ resolution. IsChoice s.header.clock s.developers resolution e.1)
            (All-head (IsChoiceIn s number) e es all) in
            subst (λ cs. length cs ≤ MAX_CHOICES) is (tables.resolutions number found.0 found.1).few
      ] refl choices_in

  -- the majority ratios are ones that a count takes
  pub ratios_in_range : All (λ entry. IsRatio entry.1.ratio) (on_ballot s.choices number)
  ratios_in_range =
      All-filter (λ entry. is_some entry.1.place) (λ entry. IsRatio entry.1.ratio) (choices_of s.choices number)
      (All-weaker (IsChoiceOf s.choices number) (λ entry. IsRatio entry.1.ratio)
      (λ entry is.
      let found = taken (get s.resolutions entry.0.resolution)
      (λ resolution. IsChoice s.header.clock s.developers resolution entry.1)
      (tables.choices entry.0 entry.1 is.1) in
      found.2.ratio)
      (choices_of s.choices number) (all_choices_of s.choices number))

  module _ (poll : IsSome (option_and_then poll_of (get s.resolutions number))) where
    -- there is a place beside that of the default option
    pub enough_places : MIN_OPTIONS ≤ place_count s.choices number
    enough_places =
        let called = with_poll (get s.resolutions number) poll in
        let holds : IsResolution s.header.clock s number called.0 = tables.resolutions number called.0 called.1 in
        let these = choices_of s.choices number in
        let placed : 0 < length (places_of these) = holds.placed called.2 in
        let same : length (places_of these) ≡ length (placed_among these) = length-places_of these in
        omega arith

    -- and there are not more than options in a count
    pub few_places : place_count s.choices number ≤ MAX_OPTIONS
    few_places =
        let called = with_poll (get s.resolutions number) poll in
        let holds : IsResolution s.header.clock s number called.0 = tables.resolutions number called.0 called.1 in
        let these = choices_of s.choices number in
        let few : length these ≤ MAX_CHOICES = holds.few in
        let all : length (placed_among these) ≡ count_by (λ e. is_some e.1.place) these
        = length-filter (λ e. is_some e.1.place) these in
        let some : count_by (λ e. is_some e.1.place) these ≤ length these =
        count_by-le-length (λ e. is_some e.1.place) these in
        omega arith

-- the poll that is looked for, in the resolution that has it
pub poll_found : (o : Option Resolution) (poll : Poll) → option_and_then poll_of o ≡ Some poll
    → (resolution : Resolution) × (o ≡ Some resolution) × (poll_of resolution ≡ Some poll)
poll_found None poll is = absurd (not_None poll is)
poll_found (Some resolution) poll is = (resolution, refl, is)

-- a poll has been called with no more developers than the roll can have
few_called : (clock : ℕ) (resolution : Resolution) (poll : Poll) → poll_of resolution ≡ Some poll
    → IfSome (discussion_of resolution) (λ discussion. IfSome (poll_of resolution) (IsPoll clock discussion))
    → poll.developers ≤ MAX_DEVELOPERS
few_called clock Draft poll is whole = absurd (not_None poll is)
few_called clock (Discussing discussion) poll is whole = absurd (not_None poll is)
few_called clock (Voting discussion held) poll is whole =
    (subst (λ o. IfSome o (IsPoll clock discussion)) is whole).developers
few_called clock (Closed discussion held chosen) poll is whole =
    (subst (λ o. IfSome o (IsPoll clock discussion)) is whole).developers
few_called clock (Cancelled discussion) poll is whole = absurd (not_None poll is)

-- no more developers were current at a call than a count takes
pub few_developers : (s : State) → AreTables s.header.clock s → (number : ℕ) (poll : Poll)
    → option_and_then poll_of (get s.resolutions number) ≡ Some poll
    → poll.developers ≤ MAX_DEVELOPERS
few_developers s tables number poll is =
    let called = poll_found (get s.resolutions number) poll is in
    few_called s.header.clock called.0 poll called.2 (tables.resolutions number called.0 called.1).poll

-- the sole member of the outcome set, as a count shows it
pub has_winner : (e : Election) (places : ℕ) (count : Count) → IsCountOf e places count → (winner : Option ℕ)
    → IsSome winner
    → IfSome winner (λ w. IsTrue (is_member count w))
    → IfSome winner (λ w. (a : ℕ) → IsTrue (is_member count a) → a ≡ w)
    → HasWinner e
has_winner e places count counted None some member only = absurd (not_false some)
has_winner e places count counted (Some w) some member only = record {
  winner = w;
  member = (counted.outcome w).0 member;
  sole = λ other inside. only other ((counted.outcome other).1 inside);
}

-- and a count shows it where there is one
pub shows_winner : (e : Election) (places : ℕ) (count : Count) → IsCountOf e places count → (winner : Option ℕ)
    → ((w : ℕ) → IsTrue (is_member count w) → ((a : ℕ) → IsTrue (is_member count a) → a ≡ w) → IsSome winner)
    → HasWinner e → IsSome winner
shows_winner e places count counted winner there has =
    there has.winner ((counted.outcome has.winner).1 has.member) (λ a inside. has.sole a ((counted.outcome a).0 inside))

-- a casting vote that meets no winner is refused where it cannot choose
pub refused_unless : (Won Chosen : Type 0) (b : Bool) → ¬ Won → IsTrue b ↔ Chosen → IsTrue (not b) ↔ (Won ⊎ (¬ Chosen))
refused_unless Won Chosen true none is = (
  λ never. absurd (not_false never),
  λ refused. elim refused [ inl won ↦ absurd (none won) | inr never ↦ absurd (never (is.0 refl)) ],
)
refused_unless Won Chosen false none is = (λ same. inr (λ chosen. not_false (is.1 chosen)), λ refused. refl)
