-- Resolutions that stay as they are: the number of a new one has nothing, and acts never touch a cancelled one.
use Rattle.std.proofs.Common.{◌≡◌, ℕ, ◌+◌, ◌≤◌, [], ◌∷◌, List, Some, None, is_some, refl, sym, ap, ◌∙◌, subst, arith}
use Rattle.std.specs.Prelude.{IsFalse, unwrap_or, option_and_then}
use Rattle.std.specs.FinMap.{get, len}
use Rattle.gr_core.specs.declared.discussion.Discussion.{Discussion}
use Rattle.gr_core.specs.declared.resolution.Resolution.TheVariants.{Cancelled}
use Rattle.gr_core.specs.declared.refusal.Refusal.TheVariants.{WrongStage}
use Rattle.gr_core.specs.Parts.Resolution.{poll_of}
use Rattle.gr_core.specs.Parts.Choice.{choice_key}
use Rattle.gr_core.specs.Desks.State.{State}
use Rattle.gr_core.specs.Desks.Valid.{IsValid, IsChoice, IsSponsorship}
use Rattle.gr_core.specs.Machine.Act.{Act, SetDeveloper, Propose, resolution_of, resolution_at}
use Rattle.gr_core.specs.Machine.Refusal.{IsAccepted, may_come}
use Rattle.gr_core.specs.Machine.Effect.{next_resolution}
use Rattle.gr_core.specs.Machine.Step.{Accepted, Refused}
use Rattle.gr_core.specs.Machine.Run.{After}
use Rattle.gr_core.specs.Laws.ResolutionLaws.{AreAlikeUnder, touched, NewNumbersHaveNothing, CancelledResolutionsStayAsTheyAre}
use Rattle.gr_core.proofs.Collections.PresenceLemmas.{not_None, not_false, given, taken}
use Rattle.gr_core.proofs.Validity.ValidLemmas.{step_valid}
use Rattle.gr_core.proofs.Effects.LeftResolutionLemmas.{touches_one}

-- ==== the number of a new resolution

module _ (s : State) (valid : IsValid s) where
  -- there is no resolution with it
  new-row : get s.resolutions (next_resolution s) ≡ None
  new-row =
      elim (get s.resolutions (next_resolution s)) as (λ o. get s.resolutions (next_resolution s) ≡ o → o ≡ None) [
        | None ↦ λ is. refl
        | Some row ↦ λ is.
            let within = (valid.tables.numbered.numbered (next_resolution s)).0 (ap is_some is) in
            let last : len s.resolutions + 1 ≤ len s.resolutions = within.1 in
            absurd (omega arith)
      ] refl

  -- nor a choice, since a choice has its resolution
  new-choices : (number : ℕ) → get s.choices (choice_key (next_resolution s) number) ≡ None
  new-choices number =
      let key = choice_key (next_resolution s) number in
      elim (get s.choices key) as (λ o. get s.choices key ≡ o → o ≡ None) [
        | None ↦ λ is. refl
        | Some row ↦ λ is.
            let of = taken (get s.resolutions (next_resolution s))
            (λ resolution. IsChoice s.header.clock s.developers resolution row) (valid.tables.choices key row is) in
            absurd (not_None of.0 (sym new-row ∙ of.1))
      ] refl

  -- nor a sponsor, since a sponsor has its choice
  new-sponsors : (number : ℕ) (login : List ℕ)
      → get s.sponsors (choice_key (next_resolution s) number, login) ≡ None
  new-sponsors number login =
      let key = choice_key (next_resolution s) number in
      elim (get s.sponsors (key, login)) as (λ o. get s.sponsors (key, login) ≡ o → o ≡ None) [
        | None ↦ λ is. refl
        | Some sponsorship ↦ λ is.
            let of = taken (get s.choices key) (λ row. IsSponsorship s.developers row login sponsorship)
            (valid.tables.sponsors key login sponsorship is) in
            absurd (not_None of.0 (sym (new-choices number) ∙ of.1))
      ] refl

  -- nor a ballot, since a ballot has its resolution
  new-ballots : (login : List ℕ) → get s.ballots (next_resolution s, login) ≡ None
  new-ballots login =
      elim (get s.ballots (next_resolution s, login)) as
      (λ o. get s.ballots (next_resolution s, login) ≡ o → o ≡ None) [
        | None ↦ λ is. refl
        | Some ballot ↦ λ is.
            let held = (valid.votes.ballots (next_resolution s) login ballot is).poll in
            absurd (not_false (ap (λ o. is_some (option_and_then poll_of o)) (sym new-row) ∙ held))
      ] refl

-- the number of a new resolution had no rows
pub new_has_nothing : NewNumbersHaveNothing
new_has_nothing s valid = record {
  row = new-row s valid;
  choices = new-choices s valid;
  sponsors = new-sponsors s valid;
  ballots = new-ballots s valid;
}

-- ==== cancelled resolutions

-- no act may come in a resolution that is cancelled
none_may_come : (act : Act) (discussion : Discussion) → IsFalse (may_come act (Cancelled discussion))
none_may_come (SetDeveloper login name standing) discussion = refl
none_may_come act discussion = refl

module _ (s : State) (at : ℕ) (number : ℕ) (discussion : Discussion) (valid : IsValid s)
    (is : get s.resolutions number ≡ Some (Cancelled discussion)) where
  -- an accepted act does not name it
  names_another : (act : Act) → IsAccepted s at act → resolution_of act ≡ Some number → ⊥
  names_another act accepted named =
      let found : resolution_at s act ≡ Some (Cancelled discussion) =
      ap (option_and_then (get s.resolutions)) named ∙ is in
      accepted WrongStage (given (resolution_at s act) (λ resolution. IsFalse (may_come act resolution))
      (Cancelled discussion) found (none_may_come act discussion))

  -- nor does it make it, so it touches another one
  touches_another : (act : Act) → IsAccepted s at act → touched s act ≡ Some number → ⊥
  touches_another (Propose proposer wording ratio) accepted same =
      let one : next_resolution s ≡ number = ap (λ o. unwrap_or o 0) same in
      not_None (Cancelled discussion) (sym (new-row s valid) ∙ ap (get s.resolutions) one ∙ is)
  touches_another act accepted same = names_another act accepted same

-- what each of two steps leaves is left by both
pub alike-then : (s t u : State) (number : ℕ) → AreAlikeUnder s t number → AreAlikeUnder t u number → AreAlikeUnder s u number
alike-then s t u number first second = record {
  row = second.row ∙ first.row;
  choices = λ choice. second.choices choice ∙ first.choices choice;
  sponsors = λ choice login. second.sponsors choice login ∙ first.sponsors choice login;
  ballots = λ login. second.ballots login ∙ first.ballots login;
}

-- a state has the same rows as itself
pub alike-same : (s : State) (number : ℕ) → AreAlikeUnder s s number
alike-same s number = record {
  row = refl;
  choices = λ choice. refl;
  sponsors = λ choice login. refl;
  ballots = λ login. refl;
}

-- a cancelled resolution stays as it is
pub cancelled_stay : CancelledResolutionsStayAsTheyAre
cancelled_stay s [] [] t number discussion is valid p = subst (λ u. AreAlikeUnder s u number) (sym p) (alike-same s number)
cancelled_stay s [] (x ∷ xs) t number discussion is valid p = absurd p
cancelled_stay s (act ∷ acts) [] t number discussion is valid p = absurd p
cancelled_stay s (act ∷ acts) (Accepted reply ∷ xs) t number discussion is valid p =
    let here = touches_one s act.0 act.1 reply p.0 number p.1
    (touches_another s act.0 number discussion valid is act.1 p.1.0) in
    let later = subst IsValid (sym p.1.2) (step_valid s act.0 act.1 valid p.1.0) in
    alike-then s p.0 t number here (cancelled_stay p.0 acts xs t number discussion (here.row ∙ is) later p.2)
cancelled_stay s (act ∷ acts) (Refused refusal ∷ xs) t number discussion is valid p =
    cancelled_stay s acts xs t number discussion is valid (subst (λ mid. After mid acts xs t) p.1.1 p.2)
