-- What is counted of a vote that was called for, and what a casting vote chose of it, over lists of acts.
use Rattle.std.proofs.Common.{◌≡◌, ℕ, false, List, [], ◌∷◌, Some, None, option_map, IsSomeAnd, inl, inr, refl, sym, ap, ◌∙◌, subst}
use Rattle.std.specs.Prelude.{IsSome, IsFalse, option_and_then}
use Rattle.std.proofs.lemmas.List.Elements.{All-head, All-tail}
use Rattle.std.specs.Cmp.{nat_cmp_total}
use Rattle.std.specs.FinMap.{get, nat_cmp-IsAntisymmetric}
use Rattle.gr_core.specs.declared.discussion.Discussion.{Discussion}
use Rattle.gr_core.specs.declared.resolution.Poll.{Poll}
use Rattle.gr_core.specs.declared.resolution.Resolution.TheVariants.{Closed}
use Rattle.gr_core.specs.declared.refusal.Refusal.TheVariants.{WrongStage, Already, NotTied}
use Rattle.gr_core.specs.Parts.Resolution.{poll_of, chosen_of, is_voting, decided}
use Rattle.gr_core.specs.Parts.Choice.{choice_key}
use Rattle.gr_core.specs.Desks.State.{State}
use Rattle.gr_core.specs.Desks.Outcome.{election_at, CannotBeChosen, IsAmongTheTied}
use Rattle.gr_core.specs.Desks.Valid.{IsValid}
use Rattle.gr_core.specs.Machine.Act.{Act, Vote, Close, Cast}
use Rattle.gr_core.specs.Machine.Refusal.{IsAccepted}
use Rattle.gr_core.specs.Machine.Step.{Answer, Accepted, Refused}
use Rattle.gr_core.specs.Machine.Run.{After, accepted_acts}
use Rattle.gr_core.specs.Laws.ResolutionLaws.{AreAlikeUnder, touched}
use Rattle.gr_core.specs.Laws.VotingLaws.{votes_in, ElectionsChangeByVotesAlone, CastingVotesChooseAmongTheTied, ChosenPlacesStay, ChosenPlacesAreTied}
use Rattle.gr_core.proofs.Collections.PresenceLemmas.{given, taken}
use Rattle.gr_core.proofs.Contents.StableLemmas.{IsPlace-stable}
use Rattle.gr_core.proofs.Collections.RowChangedLemmas.{get-changed_at}
use Rattle.gr_core.proofs.Contents.KeptRowLemmas.{choices_of-same}
use Rattle.gr_core.proofs.Effects.CloseAndCastLemmas.{cast-undecided}
use Rattle.gr_core.proofs.Validity.ValidLemmas.{step_valid}
use Rattle.gr_core.proofs.Effects.LeftResolutionLemmas.{touches_one}
use Rattle.gr_core.proofs.ResolutionLaws.UntouchedLemmas.{alike-then, alike-same}
use Rattle.gr_core.proofs.Effects.LeftVoteLemmas as vote

-- ==== what is counted

-- what is counted of a resolution with a poll changes by votes on it alone
pub elections_change : ElectionsChangeByVotesAlone
elections_change s [] [] t number row poll valid is polled p others = (
  subst (λ u. IsSomeAnd (get u.resolutions number) (λ later. poll_of later ≡ Some poll)) (sym p)
      (given (get s.resolutions number) _ row is polled),
  ap (λ u. election_at u number poll) p,
)
elections_change s [] (x ∷ xs) t number row poll valid is polled p others = absurd p
elections_change s (act ∷ acts) [] t number row poll valid is polled p others = absurd p
elections_change s (act ∷ acts) (Accepted reply ∷ xs) t number row poll valid is polled p others =
    let leaves = λ (a : ℕ × Act). votes_in number a.1 ≡ false in
    let clock = s.header.clock in
    let after = vote.keeps_poll clock s act.0 valid.tables number row poll is polled act.1 p.1.0 in
    let found = taken _ (λ later. poll_of later ≡ Some poll) after.row in
    let later = subst IsValid (sym p.1.2) (step_valid s act.0 act.1 valid p.1.0) in
    let here = vote.keeps_election clock s act.0 valid.tables number row poll is polled act.1 p.1.0
    (All-head leaves act (accepted_acts acts xs) others) in
    let rest = elections_change p.0 acts xs t number found.0 poll later
    (ap (λ u. get u.resolutions number) p.1.2 ∙ found.1) found.2 p.2
    (All-tail leaves act (accepted_acts acts xs) others) in
    (rest.0, rest.1 ∙ ap (λ u. election_at u number poll) p.1.2 ∙ here)
elections_change s (act ∷ acts) (Refused refusal ∷ xs) t number row poll valid is polled p others =
    elections_change s acts xs t number row poll valid is polled (subst (λ mid. After mid acts xs t) p.1.1 p.2) others

-- ==== the casting vote

-- a place that the casting vote can choose is one of the tied
among_the_tied : (s : State) (number : ℕ) (poll : Poll) (place : ℕ) → ¬ (CannotBeChosen s number poll place)
    → IsAmongTheTied s number poll place
among_the_tied s number poll place can = record {
  place = IsPlace-stable s number place (λ no_place. can (inr (λ both. no_place both.0)));
  member = λ outside. can (inr (λ both. outside both.1));
  tie = λ winner. can (inl winner);
}

-- a casting vote chooses one of several places of the outcome set
pub cast_chooses : CastingVotesChooseAmongTheTied
cast_chooses s at resolution place reply t step =
    let found = cast-undecided s at resolution place step.0 in
    let row = found.2 in
    let is : get s.resolutions resolution ≡ Some (Closed row.discussion row.poll None) =
    found.1 ∙ ap Some row.is in (
      row.discussion,
      row.poll,
      is,
      ap (λ u. get u.resolutions resolution) step.2
          ∙ get-changed_at nat_cmp_total nat_cmp-IsAntisymmetric s.resolutions resolution (decided place)
          ∙ ap (option_map (decided place)) is,
      among_the_tied s resolution row.poll place (λ cannot. step.0 NotTied
          (given (get s.resolutions resolution) _ (Closed row.discussion row.poll None) is (refl, cannot))),
    )

-- what was chosen on a valid desk is such a place
pub chosen_tied : ChosenPlacesAreTied
chosen_tied s number discussion poll place valid is =
    among_the_tied s number poll place (valid.votes.chosen number (Closed discussion poll (Some place)) is)

-- no accepted act touches a resolution of which a place was chosen
module _ (s : State) (at : ℕ) (number : ℕ) (discussion : Discussion) (poll : Poll) (place : ℕ) (valid : IsValid s)
    (is : get s.resolutions number ≡ Some (Closed discussion poll (Some place))) where
  -- what such an act names is the closed resolution
  found : (resolution : ℕ) → Some resolution ≡ Some number
      → get s.resolutions resolution ≡ Some (Closed discussion poll (Some place))
  found resolution same = ap (option_and_then (get s.resolutions)) same ∙ is

  touches_another : (act : Act) → IsAccepted s at act → touched s act ≡ Some number → ⊥
  touches_another (Vote resolution login ranks token) accepted same =
      accepted WrongStage (given (get s.resolutions resolution) (λ row. IsFalse (is_voting row)) _
      (found resolution same) refl)
  touches_another (Close resolution) accepted same =
      accepted WrongStage (given (get s.resolutions resolution) (λ row. IsFalse (is_voting row)) _
      (found resolution same) refl)
  touches_another (Cast resolution other) accepted same =
      accepted Already (inr (given (get s.resolutions resolution) (λ row. IsSome (chosen_of row)) _
      (found resolution same) refl))
  touches_another act accepted same =
      let row = Closed discussion poll (Some place) in
      vote.touches_another s.header.clock s at valid.tables number row poll is refl act accepted refl same

-- so nothing of it changes any more
pub chosen_alike : (s : State) (acts : List (ℕ × Act)) (answers : List Answer) (t : State) (number : ℕ)
    (discussion : Discussion) (poll : Poll) (place : ℕ)
    → IsValid s → get s.resolutions number ≡ Some (Closed discussion poll (Some place)) → After s acts answers t
    → AreAlikeUnder s t number
chosen_alike s [] [] t number discussion poll place valid is p =
    subst (λ u. AreAlikeUnder s u number) (sym p) (alike-same s number)
chosen_alike s [] (x ∷ xs) t number discussion poll place valid is p = absurd p
chosen_alike s (act ∷ acts) [] t number discussion poll place valid is p = absurd p
chosen_alike s (act ∷ acts) (Accepted reply ∷ xs) t number discussion poll place valid is p =
    let here = touches_one s act.0 act.1 reply p.0 number p.1
    (touches_another s act.0 number discussion poll place valid is act.1 p.1.0) in
    let later = subst IsValid (sym p.1.2) (step_valid s act.0 act.1 valid p.1.0) in
    alike-then s p.0 t number here (chosen_alike p.0 acts xs t number discussion poll place later (here.row ∙ is) p.2)
chosen_alike s (act ∷ acts) (Refused refusal ∷ xs) t number discussion poll place valid is p =
    chosen_alike s acts xs t number discussion poll place valid is (subst (λ mid. After mid acts xs t) p.1.1 p.2)

-- what has the same rows of a resolution has the same election
election-alike : (s t : State) (number : ℕ) (poll : Poll) → AreAlikeUnder s t number
    → election_at t number poll ≡ election_at s number poll
election-alike s t number poll alike =
    vote.election-same s t number poll
    (choices_of-same s.choices t.choices number (λ key on.
    subst (λ n. get t.choices (choice_key n key.number) ≡ get s.choices (choice_key n key.number)) on
    (alike.choices key.number)))
    (vote.ballots_of-same s.ballots t.ballots number alike.ballots)

-- and so does what is counted of it
pub chosen_stay : ChosenPlacesStay
chosen_stay s acts answers t number discussion poll place valid is p =
    let alike = chosen_alike s acts answers t number discussion poll place valid is p in
    (alike, election-alike s t number poll alike)
