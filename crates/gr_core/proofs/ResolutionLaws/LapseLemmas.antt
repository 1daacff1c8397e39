-- A choice that has lapsed stays as it is.
use Rattle.std.proofs.Common.{◌≡◌, ℕ, ◌+◌, ◌≤◌, inl, inr, Bool, true, false, List, [], ◌∷◌, not, Option, Some, None, IsTrue, refl, sym, ap, ◌∙◌, subst, le_trans}
use Rattle.std.specs.Prelude.{◌&&◌, ◌||◌, option_and_then}
use Rattle.std.proofs.lemmas.Bool.{le-leb, leb-true}
use Rattle.std.specs.declared.cmp.Ordering.{Ordering}
use Rattle.std.specs.Ordering.{eq_by_cmp}
use Rattle.std.specs.FinMap.{IsAntisymmetric, get}
use Rattle.gr_core.specs.declared.limits.TheConstants.{DAY}
use Rattle.gr_core.specs.declared.refusal.Refusal.TheVariants.{ClockBack, Lapsed}
use Rattle.gr_core.specs.declared.choice.ChoiceKey.{ChoiceKey}
use Rattle.gr_core.specs.Parts.Key.{SponsorKey}
use Rattle.gr_core.specs.Parts.Choice.{ChoiceModel, Developer, Leader, Committee}
use Rattle.gr_core.specs.Parts.Sponsor.{is_active_sponsor}
use Rattle.gr_core.specs.Desks.State.{State}
use Rattle.gr_core.specs.Desks.Valid.{IsValid, AreTables}
use Rattle.gr_core.specs.Machine.Bookkeeping.{has_lapsed, lapses_by, gain_at, becomes_short}
use Rattle.gr_core.specs.Machine.Act.{Act, Propose, AddChoice, Sponsor, Unsponsor, Withdraw, Adopt, Amend, Call, choice_of, choice_at}
use Rattle.gr_core.specs.Machine.Refusal.{IsAccepted}
use Rattle.gr_core.specs.Machine.Effect.{own, effect, only_if, is_gain, first_choice_key, next_choice_key}
use Rattle.gr_core.specs.Machine.Step.{Accepted, Refused}
use Rattle.gr_core.specs.Machine.Run.{After}
use Rattle.gr_core.specs.Laws.ResolutionLaws.{LapsedChoicesStayAsTheyAre, ActsOnLapsedChoicesAreRefused}
use Rattle.gr_core.proofs.Collections.TableLemmas.{tied}
use Rattle.gr_core.proofs.Collections.PresenceLemmas.{not_false, given}
use Rattle.gr_core.proofs.Collections.PairKeys.{choice_only}
use Rattle.gr_core.proofs.Contents.SponsorLemmas.{sponsor_only}
use Rattle.gr_core.proofs.Collections.RowsPutLemmas.{is_among}
use Rattle.gr_core.proofs.Effects.LeftRowLemmas.{choices_left, sponsors_left}
use Rattle.gr_core.proofs.Contents.StableLemmas.{lt_or_ge}
use Rattle.gr_core.proofs.ResolutionLaws.ChoicesAfterLemmas.{not_first, not_next, called_row}
use Rattle.gr_core.proofs.Validity.ValidLemmas.{step_valid}

-- each act on it is refused
pub lapsed_refused : ActsOnLapsedChoicesAreRefused
lapsed_refused s at act key choice named there lapsed accepted =
    accepted Lapsed
    (given (choice_at s act) (λ row. IsTrue (has_lapsed at row)) choice
    (ap (option_and_then (get s.choices)) named ∙ there) lapsed)

-- what has lapsed at a moment has at each later one
lapsed_by_then : (at later : ℕ) (short : Option ℕ) → at ≤ later → IsTrue (lapses_by at short)
    → IsTrue (lapses_by later short)
lapsed_by_then at later None after lapsed = lapsed
lapsed_by_then at later (Some since) after lapsed =
    le-leb (since + DAY) later (le_trans (leb-true (since + DAY) at lapsed) after)

-- what has lapsed is not live
lapsed_not_live : (introduced lapsed : Bool) → lapsed ≡ true → (introduced && not lapsed) ≡ true → ⊥
lapsed_not_live true true lapsed lives = not_false lives
lapsed_not_live false true lapsed lives = not_false lives
lapsed_not_live introduced false lapsed lives = not_false lapsed

module _ {J : Type 0} {cmp : J → J → Ordering} (only : IsAntisymmetric cmp) (q key : J) (other : q ≡ key → ⊥) where
  -- a key is not among others
  not_among : is_among cmp q (key ∷ []) ≡ false
  not_among =
      elim (eq_by_cmp cmp q key) as (λ b. eq_by_cmp cmp q key ≡ b → is_among cmp q (key ∷ []) ≡ false) [
        | true ↦ λ same. absurd (other (only q key (tied _ same)))
        | false ↦ λ differs. ap (λ b. b || false) differs
      ] refl

  -- nor among those that are put only if
  not_among_if : (is : Bool) → is_among cmp q (only_if is key) ≡ false
  not_among_if true = not_among
  not_among_if false = refl

module _ (s : State) (at : ℕ) (key : ChoiceKey) (choice : ChoiceModel) (valid : AreTables s.header.clock s)
    (there : get s.choices key ≡ Some choice) (lapsed : IsTrue (has_lapsed at choice)) where
  -- an accepted act is on another choice
  not_named : (act : Act) (named : ChoiceKey) → IsAccepted s at act → choice_of act ≡ Some named → key ≡ named → ⊥
  not_named act named accepted is same =
      lapsed_refused s at act key choice (is ∙ ap Some (sym same)) there lapsed accepted

  -- and leaves the row of this one
  choice_left : (act : Act) → IsAccepted s at act → get (effect s at act).choices key ≡ Some choice
  choice_left (Propose proposer wording ratio) accepted =
      let act = Propose proposer wording ratio in
      choices_left s at act key
      (not_among choice_only key (first_choice_key s) (not_first s.header.clock s valid key choice there)) ∙ there
  choice_left (AddChoice number proposer wording ratio) accepted =
      let act = AddChoice number proposer wording ratio in
      choices_left s at act key
      (not_among choice_only key (next_choice_key s number) (not_next s.header.clock s valid key choice there number))
      ∙ there
  choice_left (Sponsor named login) accepted =
      let act = Sponsor named login in
      choices_left s at act key
      (not_among_if choice_only key named (not_named act named accepted refl) (is_gain (gain_at (own s at act) named)))
      ∙ there
  choice_left (Unsponsor named login) accepted =
      let act = Unsponsor named login in
      choices_left s at act key
      (not_among_if choice_only key named (not_named act named accepted refl) (becomes_short (own s at act) named))
      ∙ there
  choice_left (Withdraw named) accepted =
      let act = Withdraw named in
      choices_left s at act key (not_among choice_only key named (not_named act named accepted refl)) ∙ there
  choice_left (Adopt named proposer) accepted =
      let act = Adopt named proposer in
      choices_left s at act key (not_among choice_only key named (not_named act named accepted refl)) ∙ there
  choice_left (Amend named amendment wording) accepted =
      let act = Amend named amendment wording in
      choices_left s at act key (not_among choice_only key named (not_named act named accepted refl)) ∙ there
  choice_left (Call number days) accepted =
      elim (called_row s.choices at number key choice there) [
        | inl same ↦ same.0
        | inr place ↦ absurd (lapsed_not_live _ (has_lapsed at choice) lapsed place.2)
      ]
  choice_left other accepted = there

  -- a sponsor of another choice is another one
  other_sponsor : (act : Act) (named : ChoiceKey) (login name : List ℕ) → IsAccepted s at act
      → choice_of act ≡ Some named → ◌≡◌ {A = SponsorKey} (key, login) (named, name) → ⊥
  other_sponsor act named login name accepted is same =
      not_named act named accepted is (ap (λ (k : SponsorKey). k.0) same)

  -- its sponsors stay too
  sponsor_left : (act : Act) (login : List ℕ) → IsAccepted s at act
      → get (effect s at act).sponsors (key, login) ≡ get s.sponsors (key, login)
  sponsor_left (Sponsor named name) login accepted =
      let act = Sponsor named name in
      sponsors_left s at act (key, login)
      (not_among sponsor_only (key, login) (named, name) (other_sponsor act named login name accepted refl))
  sponsor_left (Unsponsor named name) login accepted =
      let act = Unsponsor named name in
      sponsors_left s at act (key, login)
      (not_among sponsor_only (key, login) (named, name) (other_sponsor act named login name accepted refl))
  sponsor_left (Adopt named (Developer name)) login accepted =
      let act = Adopt named (Developer name) in
      sponsors_left s at act (key, login)
      (not_among_if sponsor_only (key, login) (named, name) (other_sponsor act named login name accepted refl)
      (is_active_sponsor s.sponsors (named, name)))
  sponsor_left (Adopt named Leader) login accepted = sponsors_left s at (Adopt named Leader) (key, login) refl
  sponsor_left (Adopt named Committee) login accepted = sponsors_left s at (Adopt named Committee) (key, login) refl
  sponsor_left other login accepted = sponsors_left s at other (key, login) refl

-- over a list of acts too
pub lapsed_stay : LapsedChoicesStayAsTheyAre
lapsed_stay s [] [] t key choice valid there lapsed p =
    (ap (λ (u : State). get u.choices key) p ∙ there, λ login. ap (λ (u : State). get u.sponsors (key, login)) p)
lapsed_stay s [] (x ∷ xs) t key choice valid there lapsed p = absurd p
lapsed_stay s (act ∷ acts) [] t key choice valid there lapsed p = absurd p
lapsed_stay s (act ∷ acts) (Accepted reply ∷ xs) t key choice valid there lapsed p =
    let accepted = p.1.0 in
    let is = p.1.2 in
    let later : s.header.clock ≤ act.0 = elim (lt_or_ge act.0 s.header.clock) [
      | inl before ↦ absurd (accepted ClockBack before)
      | inr after ↦ after
    ] in
    let now : IsTrue (has_lapsed act.0 choice)
    = lapsed_by_then s.header.clock act.0 choice.short later lapsed in
    let rest = lapsed_stay p.0 acts xs t key choice
    (subst IsValid (sym is) (step_valid s act.0 act.1 valid accepted))
    (ap (λ (u : State). get u.choices key) is ∙ choice_left s act.0 key choice valid.tables there now act.1 accepted)
    (subst (λ (u : State). IsTrue (has_lapsed u.header.clock choice)) (sym is) now) p.2 in (
      rest.0,
      λ login. rest.1 login ∙ ap (λ (u : State). get u.sponsors (key, login)) is
          ∙ sponsor_left s act.0 key choice valid.tables there now act.1 login accepted,
    )
lapsed_stay s (act ∷ acts) (Refused refusal ∷ xs) t key choice valid there lapsed p =
    lapsed_stay s acts xs t key choice valid there lapsed (subst (λ mid. After mid acts xs t) p.1.1 p.2)
