-- An introduced choice keeps its moment of introduction.
use Rattle.std.proofs.Common.{◌≡◌, ℕ, inl, inr, Bool, true, false, cond, Option, Some, None, IsSomeAnd, refl, sym, ap, ◌∙◌, subst, [], ◌∷◌}
use Rattle.std.specs.FinMap.{FinMap, get}
use Rattle.gr_core.specs.declared.bookkeeping.Gain.{Gain}
use Rattle.gr_core.specs.declared.bookkeeping.Gain.TheVariants.{Nothing, Introduction, Remedy}
use Rattle.gr_core.specs.declared.choice.ChoiceKey.{ChoiceKey}
use Rattle.gr_core.specs.Parts.Key.{choice_cmp}
use Rattle.gr_core.specs.Machine.Map.{changed_at}
use Rattle.gr_core.specs.Parts.Choice.{ChoiceModel}
use Rattle.gr_core.specs.Desks.State.{State}
use Rattle.gr_core.specs.Machine.Bookkeeping.{backs, gain_of, gain_where, gain_at, gained, with_gain, becomes_short, shortened}
use Rattle.gr_core.specs.Desks.Valid.{IsValid, AreTables}
use Rattle.gr_core.specs.Machine.Act.{Act, Propose, AddChoice, Withdraw, Adopt, Amend, Call}
use Rattle.gr_core.specs.Machine.Effect.{own, gaining, losing, booked, effect, first_choice_key, next_choice_key, new_choice}
use Rattle.gr_core.specs.Machine.Step.{Accepted, Refused}
use Rattle.gr_core.specs.Machine.Run.{After}
use Rattle.gr_core.specs.Laws.ResolutionLaws.{IntroducedChoicesStayIntroduced}
use Rattle.gr_core.proofs.Collections.PresenceLemmas.{not_None, taken, given}
use Rattle.gr_core.proofs.Collections.PairKeys.{choice_total, choice_only}
use Rattle.gr_core.proofs.ResolutionLaws.ChoicesAfterLemmas.{not_first, not_next, given-insert, given-changed_at, called_row}
use Rattle.gr_core.proofs.Validity.ValidLemmas.{step_valid}

-- a gain that introduces is that of a choice that was not introduced
was_not_introduced : (backed : Bool) (introduced short : Option ℕ) → gain_of backed introduced short ≡ Introduction
    → introduced ≡ None
was_not_introduced false introduced short is = cc
was_not_introduced true None short is = refl
was_not_introduced true (Some at) None is = cc
was_not_introduced true (Some at) (Some since) is = cc

module _ (key : ChoiceKey) (moment : ℕ) where
  -- the choice was introduced at this moment
  abbrev HasMoment : ChoiceModel → Type 0
  HasMoment row = row.introduced ≡ Some moment

  -- the choices have it so
  abbrev StaysIntroduced : FinMap choice_cmp ChoiceModel → Type 0
  StaysIntroduced choices = IsSomeAnd (get choices key) HasMoment

  -- a change of a row leaves it, where it leaves the moment
  kept : (choices : FinMap choice_cmp ChoiceModel) (q : ChoiceKey) (change : ChoiceModel → ChoiceModel)
      → ((row : ChoiceModel) → (change row).introduced ≡ row.introduced) → StaysIntroduced choices
      → StaysIntroduced (changed_at choices q change)
  kept choices q change same before =
      given-changed_at choice_total choice_only choices q key HasMoment change (λ row there was. same row ∙ was) before

  -- a gain leaves it
  kept-gain : (s : State) (at : ℕ) (q : ChoiceKey) (gain : Gain) → gain_at s q ≡ gain → StaysIntroduced s.choices
      → StaysIntroduced (with_gain gain s at q).choices
  kept-gain s at q Nothing is before = before
  kept-gain s at q Introduction is before =
      given-changed_at choice_total choice_only s.choices q key HasMoment (gained Introduction at)
      (λ row there was.
      let none = was_not_introduced (backs s q row) row.introduced row.short
      (ap (gain_where s q) (sym there) ∙ is) in
      absurd (not_None moment (sym none ∙ was))) before
  kept-gain s at q Remedy is before = kept s.choices q (gained Remedy at) (λ row. refl) before

  -- a loss leaves it
  kept-loss : (s : State) (at : ℕ) (q : ChoiceKey) (is : Bool) → StaysIntroduced s.choices
      → StaysIntroduced (cond is (record s { choices = changed_at s.choices q (shortened at) }) s).choices
  kept-loss s at q true before = kept s.choices q (shortened at) (λ row. refl) before
  kept-loss s at q false before = before

  -- and so the bookkeeping of an act does
  kept-booked : (gains loses : Option ChoiceKey) (at : ℕ) (s : State) → StaysIntroduced s.choices
      → StaysIntroduced (booked gains loses at s).choices
  kept-booked (Some q) loses at s before = kept-gain s at q (gain_at s q) refl before
  kept-booked None (Some q) at s before = kept-loss s at q (becomes_short s q) before
  kept-booked None None at s before = before

  -- what an act puts itself leaves it
  kept-own : (clock : ℕ) (s : State) (at : ℕ) (act : Act) → AreTables clock s → StaysIntroduced s.choices
      → StaysIntroduced (own s at act).choices
  kept-own clock s at (Propose proposer wording ratio) valid before =
      let old = taken (get s.choices key) HasMoment before in
      given-insert choice_total choice_only s.choices (first_choice_key s) key HasMoment (new_choice proposer wording ratio)
      (λ same. absurd (not_first clock s valid key old.0 old.1 same)) before
  kept-own clock s at (AddChoice number proposer wording ratio) valid before =
      let old = taken (get s.choices key) HasMoment before in
      given-insert choice_total choice_only s.choices (next_choice_key s number) key HasMoment
      (new_choice proposer wording ratio)
      (λ same. absurd (not_next clock s valid key old.0 old.1 number same)) before
  kept-own clock s at (Withdraw choice) valid before =
      kept s.choices choice (λ row. record row { proposer = None }) (λ row. refl) before
  kept-own clock s at (Adopt choice proposer) valid before =
      kept s.choices choice (λ row. record row { proposer = Some proposer }) (λ row. refl) before
  kept-own clock s at (Amend choice amendment wording) valid before =
      kept s.choices choice (λ row. record row { wording = wording }) (λ row. refl) before
  kept-own clock s at (Call number days) valid before =
      let old = taken (get s.choices key) HasMoment before in
      elim (called_row s.choices at number key old.0 old.1) [
        | inl same ↦ given _ HasMoment old.0 same.0 old.2
        | inr place ↦ given _ HasMoment _ place.1 old.2
      ]
  kept-own clock s at other valid before = before

-- over a list of acts too
pub stays_introduced : IntroducedChoicesStayIntroduced
stays_introduced s [] [] t key choice moment valid there is p =
    given (get t.choices key) (HasMoment key moment) choice (ap (λ (u : State). get u.choices key) p ∙ there) is
stays_introduced s [] (x ∷ xs) t key choice moment valid there is p = absurd p
stays_introduced s (act ∷ acts) [] t key choice moment valid there is p = absurd p
stays_introduced s (act ∷ acts) (Accepted reply ∷ xs) t key choice moment valid there is p =
    let before = given (get s.choices key) (HasMoment key moment) choice there is in
    let own_kept = kept-own key moment s.header.clock s act.0 act.1 valid.tables before in
    let after = kept-booked key moment (gaining s act.1) (losing act.1) act.0 (own s act.0 act.1) own_kept in
    let later = taken (get (effect s act.0 act.1).choices key) (HasMoment key moment) after in
    stays_introduced p.0 acts xs t key later.0 moment
    (subst IsValid (sym p.1.2) (step_valid s act.0 act.1 valid p.1.0))
    (ap (λ (u : State). get u.choices key) p.1.2 ∙ later.1) later.2 p.2
stays_introduced s (act ∷ acts) (Refused refusal ∷ xs) t key choice moment valid there is p =
    stays_introduced s acts xs t key choice moment valid there is (subst (λ mid. After mid acts xs t) p.1.1 p.2)
