-- What an act makes of a resolution that was there, the stages that follow one another, and the number of a new one.
use Rattle.std.proofs.Common.{◌≡◌, ℕ, inl, inr, true, false, cond, List, [], ◌∷◌, Some, None, option_map, IsSomeAnd, refl, sym, ap, ◌∙◌, subst, arith, ◌+◌, ◌≤◌}
use Rattle.std.specs.Prelude.{ℤ}
use Rattle.std.specs.Ordering.{nat_cmp}
use Rattle.std.specs.Cmp.{nat_cmp_total}
use Rattle.std.specs.FinMap.{FinMap, get, nat_cmp-IsAntisymmetric, len}
use Rattle.gr_core.specs.declared.resolution.Poll.{Poll}
use Rattle.gr_core.specs.declared.resolution.Resolution.{Resolution}
use Rattle.gr_core.specs.declared.resolution.Resolution.TheVariants.{Draft, Discussing, Voting, Closed}
use Rattle.gr_core.specs.declared.choice.ChoiceKey.{ChoiceKey}
use Rattle.gr_core.specs.declared.bookkeeping.Gain.{Gain}
use Rattle.gr_core.specs.declared.bookkeeping.Gain.TheVariants.{Nothing, Introduction, Remedy}
use Rattle.gr_core.specs.Parts.Resolution.{chosen_of, changed, entered, shifted, closed, decided}
use Rattle.gr_core.specs.Parts.Choice.{ChoiceModel}
use Rattle.gr_core.specs.Machine.Map.{changed_at}
use Rattle.gr_core.specs.Desks.State.{State}
use Rattle.gr_core.specs.Desks.Valid.{ResolutionsAreNumbered}
use Rattle.gr_core.specs.Machine.Bookkeeping.{with_gain, gain_at}
use Rattle.gr_core.specs.Machine.Act.{Act, SetDeveloper, ImportRoll, Propose, AddChoice, Sponsor, Unsponsor, Withdraw, Adopt, Amend, Vary, Call, Vote, Close, Cast}
use Rattle.gr_core.specs.Machine.Refusal.{IsAccepted}
use Rattle.gr_core.specs.Machine.Effect.{own, effect, next_resolution, first_choice_key, next_choice_key, changes_ballot, live_choices, poll_at, called}
use Rattle.gr_core.specs.Laws.ResolutionLaws.{StagesFollowOneAnother, varies, MayBecome}
use Rattle.gr_core.proofs.Collections.PresenceLemmas.{not_None, given, is_given, absent}
use Rattle.gr_core.proofs.Collections.RowPutLemmas.{get-put_other}
use Rattle.gr_core.proofs.Collections.RowChangedLemmas.{get-changed_at, get-changed_at_other}
use Rattle.gr_core.proofs.Contents.StableLemmas.{same_or_other}
use Rattle.gr_core.proofs.Effects.LeftRowLemmas.{resolutions_left}
use Rattle.gr_core.proofs.Effects.CloseAndCastLemmas.{cast-nothing}

-- P holds of a resolution and of all that this act, accepted at this moment, may make of it
pub record HoldsAfter (at : ℕ) (act : Act) (before : Resolution) (P : Resolution → Type 0) : Type 0 where
  pub same : P before
  pub changed : P (changed at before)
  pub entered : P (entered at before)
  pub shifted : (days : ℤ) → varies act ≡ true → P (shifted days before)
  pub called : (live : List (ChoiceKey × ChoiceModel)) (poll : Poll) → P (called live poll before)
  pub closed : P (closed before)
  pub decided : (place : ℕ) → chosen_of before ≡ None → P (decided place before)

module _ (number : ℕ) (before : Resolution) (P : Resolution → Type 0) where
  -- one resolution is changed
  holds-changed_at : (m : FinMap nat_cmp Resolution) (key : ℕ) (change : Resolution → Resolution)
      → get m number ≡ Some before → P before → (number ≡ key → P (change before))
      → IsSomeAnd (get (changed_at m key change) number) P
  holds-changed_at m key change is old new =
      elim (same_or_other number key) [
        | inl same ↦
            given (get (changed_at m key change) number) P (change before)
            (ap (get (changed_at m key change)) same ∙ get-changed_at nat_cmp_total nat_cmp-IsAntisymmetric m key change
            ∙ ap (option_map change) (ap (get m) (sym same) ∙ is)) (new same)
        | inr other ↦
            given (get (changed_at m key change) number) P before
            (get-changed_at_other nat_cmp_total nat_cmp-IsAntisymmetric m key number change other ∙ is) old
      ]

  -- a choice gains something
  holds-gain : (gain : Gain) (s : State) (at : ℕ) (key : ChoiceKey) → get s.resolutions number ≡ Some before
      → P before → P (entered at before) → IsSomeAnd (get (with_gain gain s at key).resolutions number) P
  holds-gain Nothing s at key is old new = given (get s.resolutions number) P before is old
  holds-gain Introduction s at key is old new =
      holds-changed_at s.resolutions key.resolution (entered at) is old (λ same. new)
  holds-gain Remedy s at key is old new = given (get s.resolutions number) P before is old

  -- what holds of all that an act may make of it holds of what the act leaves under its number
  pub holds-effect : (s : State) (at : ℕ) (act : Act) → IsAccepted s at act → ResolutionsAreNumbered s
      → get s.resolutions number ≡ Some before → HoldsAfter at act before P
      → IsSomeAnd (get (effect s at act).resolutions number) P
  holds-effect s at (Propose proposer wording ratio) accepted numbered is holds =
      let after = own s at (Propose proposer wording ratio) in
      let within = (numbered.numbered number).0 (is_given (get s.resolutions number) before is) in
      holds-gain (gain_at after (first_choice_key s)) after at (first_choice_key s)
      (get-put_other nat_cmp_total nat_cmp-IsAntisymmetric s.resolutions (next_resolution s) number Draft
      (λ same. absurd (omega (arith, within.1, same))) ∙ is)
      holds.same holds.entered
  holds-effect s at (AddChoice resolution proposer wording ratio) accepted numbered is holds =
      let after = own s at (AddChoice resolution proposer wording ratio) in
      let key = next_choice_key s resolution in
      holds-gain (gain_at after key) after at key is holds.same holds.entered
  holds-effect s at (Sponsor choice login) accepted numbered is holds =
      let after = own s at (Sponsor choice login) in
      holds-gain (gain_at after choice) after at choice is holds.same holds.entered
  holds-effect s at (Adopt choice proposer) accepted numbered is holds =
      let after = own s at (Adopt choice proposer) in
      holds-gain (gain_at after choice) after at choice is holds.same holds.entered
  holds-effect s at (Amend choice amendment wording) accepted numbered is holds =
      elim (changes_ballot amendment (get s.resolutions choice.resolution) (get s.choices choice)) as
      (λ b. IsSomeAnd (get (cond b (changed_at s.resolutions choice.resolution (changed at)) s.resolutions) number) P) [
        | true ↦ holds-changed_at s.resolutions choice.resolution (changed at) is holds.same (λ same. holds.changed)
        | false ↦ given (get s.resolutions number) P before is holds.same
      ]
  holds-effect s at (Vary resolution days) accepted numbered is holds =
      holds-changed_at s.resolutions resolution (shifted days) is holds.same (λ same. holds.shifted days refl)
  holds-effect s at (Call resolution days) accepted numbered is holds =
      let live = live_choices s.choices at resolution in
      holds-changed_at s.resolutions resolution (called live (poll_at s at days)) is holds.same
      (λ same. holds.called live (poll_at s at days))
  holds-effect s at (Close resolution) accepted numbered is holds =
      holds-changed_at s.resolutions resolution closed is holds.same (λ same. holds.closed)
  holds-effect s at (Cast resolution place) accepted numbered is holds =
      holds-changed_at s.resolutions resolution (decided place) is holds.same
      (λ same. holds.decided place
      (cast-nothing s at resolution place accepted before (ap (get s.resolutions) (sym same) ∙ is)))
  holds-effect s at (Vote resolution login ranks token) accepted numbered is holds =
      given (get s.resolutions number) P before is holds.same
  holds-effect s at (SetDeveloper login name standing) accepted numbered is holds =
      given (get s.resolutions number) P before is holds.same
  holds-effect s at (ImportRoll rows) accepted numbered is holds =
      given (get s.resolutions number) P before is holds.same
  holds-effect s at (Unsponsor choice login) accepted numbered is holds =
      given (get (effect s at (Unsponsor choice login)).resolutions number) P before
      (resolutions_left s at (Unsponsor choice login) number refl ∙ is) holds.same
  holds-effect s at (Withdraw choice) accepted numbered is holds =
      given (get (effect s at (Withdraw choice)).resolutions number) P before
      (resolutions_left s at (Withdraw choice) number refl ∙ is) holds.same

-- ==== stages

-- a resolution may stay what it is
may-stay : (before : Resolution) → MayBecome before before
may-stay Draft = tt
may-stay (Discussing discussion) = tt
may-stay (Closed discussion poll None) = refl
may-stay (Closed discussion poll (Some place)) = refl
may-stay other = refl

-- its ballot may change
may-change : (at : ℕ) (before : Resolution) → MayBecome before (changed at before)
may-change at (Discussing discussion) = tt
may-change at other = may-stay other

-- a choice may be introduced
may-enter : (at : ℕ) (before : Resolution) → MayBecome before (entered at before)
may-enter at Draft = tt
may-enter at (Discussing discussion) = tt
may-enter at other = may-stay other

-- its discussion may be varied
may-shift : (days : ℤ) (before : Resolution) → MayBecome before (shifted days before)
may-shift days (Discussing discussion) = tt
may-shift days other = may-stay other

-- a vote may be called for
may-call : (live : List (ChoiceKey × ChoiceModel)) (poll : Poll) (before : Resolution)
    → MayBecome before (called live poll before)
may-call [] poll (Discussing discussion) = refl
may-call [] poll other = may-stay other
may-call (first ∷ others) poll (Discussing discussion) = refl
may-call (first ∷ others) poll other = may-stay other

-- the vote may be closed
may-close : (before : Resolution) → MayBecome before (closed before)
may-close (Voting discussion poll) = (refl, refl)
may-close other = may-stay other

-- a place may be chosen where none was
may-decide : (place : ℕ) (before : Resolution) → chosen_of before ≡ None → MayBecome before (decided place before)
may-decide place (Closed discussion poll None) nothing = (refl, refl)
may-decide place (Closed discussion poll (Some other)) nothing = absurd (not_None other (sym nothing))
may-decide place other nothing = may-stay other

-- each act leaves a resolution in its stage, or in the next one
pub stages_follow : StagesFollowOneAnother
stages_follow s at act reply t number before valid step is =
    subst (λ u. IsSomeAnd (get u.resolutions number) (MayBecome before)) (sym step.2)
    (holds-effect number before (MayBecome before) s at act step.0 valid.tables.numbered is (record {
      same = may-stay before;
      changed = may-change at before;
      entered = may-enter at before;
      shifted = λ days varies. may-shift days before;
      called = λ live poll. may-call live poll before;
      closed = may-close before;
      decided = λ place nothing. may-decide place before nothing;
    }))

-- the number of a new resolution has none yet
pub no_resolution : (s : State) → ResolutionsAreNumbered s → get s.resolutions (next_resolution s) ≡ None
no_resolution s numbered =
    absent (get s.resolutions (next_resolution s)) (λ there.
    let within = (numbered.numbered (next_resolution s)).0 there in
    let high : len s.resolutions + 1 ≤ len s.resolutions = within.1 in
    absurd (omega arith))
