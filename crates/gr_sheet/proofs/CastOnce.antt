-- What is chosen in a closed resolution is what its accepted casting vote chose, and there is one at most.
use Rattle.std.proofs.Common.{◌≡◌, ℕ, true, false, cond, List, [], ◌∷◌, ◌++◌, Option, Some, None, option_map, refl, sym, ap, ◌∙◌, subst}
use Rattle.std.specs.Prelude.{nat_eq, IsFalse, option_and_then, option_to_list, unwrap_or}
use Rattle.std.specs.List.{cons_option}
use Rattle.std.specs.FinMap.{get}
use Rattle.std.proofs.lemmas.List.{append-nil, append_assoc}
use Rattle.std.proofs.lemmas.Bool.{eqb-true, eqb-false}
use Rattle.gr_core.specs.declared.discussion.Discussion.{Discussion}
use Rattle.gr_core.specs.declared.resolution.Poll.{Poll}
use Rattle.gr_core.specs.declared.resolution.Resolution.TheVariants.{Closed}
use Rattle.gr_core.specs.declared.refusal.Refusal.TheVariants.{WrongStage}
use Rattle.gr_core.specs.Parts.Resolution.{is_voting, chosen_of, decided}
use Rattle.gr_core.specs.Desks.State.{State}
use Rattle.gr_core.specs.Desks.Valid.{IsValid}
use Rattle.gr_core.specs.Machine.Act.{Act, Vote, Close, Cast}
use Rattle.gr_core.specs.Machine.Refusal.{IsAccepted}
use Rattle.gr_core.specs.Machine.Effect.{effect, counted}
use Rattle.gr_core.specs.Machine.Step.{Answer, Accepted, Refused, reply_to}
use Rattle.gr_core.specs.Machine.Run.{After}
use Rattle.gr_core.specs.Laws.ResolutionLaws.{ActsTouchOneResolution, touched}
use Rattle.gr_core.specs.Laws.VotingLaws.{CastingVotesChooseAmongTheTied}
use Rattle.gr_core.specs.Laws.MachineLaws.{CommandsKeepADeskValid}
use Rattle.gr_core.proofs.Collections.PresenceLemmas.{given}
use Rattle.gr_core.proofs.Effects.LeftVoteLemmas.{touches_another}
use Rattle.gr_sheet.specs.Laws.{cast_by, cast_in}

cons_option-is : {X : Type 0} (first : Option X) (rest : List X) → option_to_list first ++ rest ≡ cons_option first rest
cons_option-is None rest = refl
cons_option-is (Some x) rest = refl

nothing_more : (xs : List ℕ) → xs ≡ xs ++ []
nothing_more xs = sym (append-nil xs)

-- ==== one act

-- the resolution is closed, and what is chosen in it is what was, and what the act casts
abbrev IsChosenBy : State → ℕ → Discussion → Poll → Option ℕ → Option ℕ → Type 0
IsChosenBy t number discussion poll chosen cast = (later : Option ℕ)
    × (get t.resolutions number ≡ Some (Closed discussion poll later))
    × (option_to_list later ≡ option_to_list chosen ++ option_to_list cast)

-- the state after one more accepted act
abbrev after : State → ℕ → Act → State
after s at act = counted (effect s at act) at

module _ (touch : ActsTouchOneResolution) (casts : CastingVotesChooseAmongTheTied) (s : State) (at : ℕ) (number : ℕ)
    (discussion : Discussion) (poll : Poll) (chosen : Option ℕ) (valid : IsValid s)
    (is : get s.resolutions number ≡ Some (Closed discussion poll chosen)) where
  -- an act that does not touch it leaves it
  left : (act : Act) → IsAccepted s at act → (touched s act ≡ Some number → ⊥) → IsChosenBy (after s at act) number discussion poll chosen None
  left act accepted other = (
    chosen,
    (touch s at act (reply_to s at act) (after s at act) number (accepted, refl, refl) other).row ∙ is,
    nothing_more (option_to_list chosen),
  )

  -- a casting vote in it chooses where nothing was chosen
  cast_here : (resolution place : ℕ) → IsAccepted s at (Cast resolution place) → number ≡ resolution
      → IsChosenBy (after s at (Cast resolution place)) number discussion poll chosen (Some place)
  cast_here resolution place accepted same =
      let act = Cast resolution place in
      let (held, vote, was, then, tied) = casts s at resolution place (reply_to s at act) (after s at act) (accepted, refl, refl) in
      let row : Some (Closed discussion poll chosen) ≡ Some (Closed held vote None) = sym is ∙ ap (get s.resolutions) same ∙ was in (
        Some place,
        ap (get (after s at act).resolutions) same ∙ then ∙ sym (ap (option_map (decided place)) row),
        sym (ap (λ o. option_to_list o ++ place ∷ []) (ap (option_and_then chosen_of) row)),
      )

  chosen_by : (act : Act) → IsAccepted s at act → IsChosenBy (after s at act) number discussion poll chosen (cast_by number act)
  chosen_by (Cast resolution place) accepted =
      elim (nat_eq number resolution) as
      (λ b. nat_eq number resolution ≡ b
      → IsChosenBy (after s at (Cast resolution place)) number discussion poll chosen (cond b (Some place) None)) [
        | true ↦ λ same. cast_here resolution place accepted (eqb-true number resolution same)
        | false ↦ λ other. left (Cast resolution place) accepted
            (λ touches. eqb-false number resolution other (sym (ap (λ o. unwrap_or o 0) touches)))
      ] refl
  chosen_by (Vote resolution login ranks token) accepted = (chosen, is, nothing_more (option_to_list chosen))
  chosen_by (Close resolution) accepted =
      left (Close resolution) accepted (λ touches. accepted WrongStage (given (get s.resolutions resolution)
      (λ row. IsFalse (is_voting row)) (Closed discussion poll chosen) (ap (option_and_then (get s.resolutions)) touches ∙ is) refl))
  chosen_by act accepted =
      left act accepted
      (touches_another s.header.clock s at valid.tables number (Closed discussion poll chosen) poll is refl act accepted refl)

-- ==== lists of acts

module _ (touch : ActsTouchOneResolution) (casts : CastingVotesChooseAmongTheTied) (keep : CommandsKeepADeskValid) where
  pub chosen_in : (s : State) (acts : List (ℕ × Act)) (answers : List Answer) (t : State) (number : ℕ)
      (discussion : Discussion) (poll : Poll) (chosen later : Option ℕ)
      → IsValid s → get s.resolutions number ≡ Some (Closed discussion poll chosen) → After s acts answers t
      → get t.resolutions number ≡ Some (Closed discussion poll later)
      → option_to_list later ≡ option_to_list chosen ++ cast_in number acts answers
  chosen_in s [] [] t number discussion poll chosen later valid is p then =
      ap (λ row. option_to_list (option_and_then chosen_of row)) (sym then ∙ ap (λ u. get u.resolutions number) p ∙ is)
      ∙ nothing_more (option_to_list chosen)
  chosen_in s [] (x ∷ xs) t number discussion poll chosen later valid is p then = absurd p
  chosen_in s (act ∷ acts) [] t number discussion poll chosen later valid is p then = absurd p
  chosen_in s ((at, act) ∷ acts) (Accepted reply ∷ xs) t number discussion poll chosen later valid is p then =
      let mid = after s at act in
      let here = chosen_by touch casts s at number discussion poll chosen valid is act p.1.0 in
      let valid_then : IsValid mid = keep s ((at, act) ∷ []) (Accepted reply ∷ []) mid valid (mid, (p.1.0, p.1.1, refl), refl) in
      chosen_in mid acts xs t number discussion poll here.0 later valid_then here.1 (subst (λ u. After u acts xs t) p.1.2 p.2) then
      ∙ ap (λ list. list ++ cast_in number acts xs) here.2
      ∙ append_assoc (option_to_list chosen) (option_to_list (cast_by number act)) (cast_in number acts xs)
      ∙ ap (λ list. option_to_list chosen ++ list) (cons_option-is (cast_by number act) (cast_in number acts xs))
  chosen_in s (act ∷ acts) (Refused refusal ∷ xs) t number discussion poll chosen later valid is p then =
      chosen_in s acts xs t number discussion poll chosen later valid is (subst (λ mid. After mid acts xs t) p.1.1 p.2) then
