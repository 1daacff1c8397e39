-- What an act makes of the discussion of a resolution: its start stays, and only a variation makes it end earlier.
use Rattle.std.proofs.Common.{◌≡◌, ℕ, ◌≤◌, inl, inr, true, false, List, [], ◌∷◌, Some, IsSomeAnd, IfSome, refl, sym, ◌∙◌, subst, arith}
use Rattle.std.specs.Prelude.{ℤ}
use Rattle.std.specs.FinMap.{get}
use Rattle.gr_core.specs.declared.discussion.Discussion.{Discussion}
use Rattle.gr_core.specs.declared.resolution.Poll.{Poll}
use Rattle.gr_core.specs.declared.resolution.Resolution.{Resolution}
use Rattle.gr_core.specs.declared.resolution.Resolution.TheVariants.{Draft, Discussing, Voting, Closed, Cancelled}
use Rattle.gr_core.specs.declared.choice.ChoiceKey.{ChoiceKey}
use Rattle.gr_core.specs.declared.refusal.Refusal.TheVariants.{ClockBack}
use Rattle.gr_core.specs.Parts.Resolution.{discussion_of, changed, entered, shifted, closed, decided}
use Rattle.gr_core.specs.Parts.Discussion.{end_of}
use Rattle.gr_core.specs.Parts.Choice.{ChoiceModel}
use Rattle.gr_core.specs.Desks.Valid.{IsDiscussion}
use Rattle.gr_core.specs.Machine.Act.{Act}
use Rattle.gr_core.specs.Machine.Effect.{called}
use Rattle.gr_core.specs.Laws.ResolutionLaws.{StartsStay, varies, OnlyVariationsEndEarlier}
use Rattle.gr_core.proofs.Collections.PresenceLemmas.{not_None, given}
use Rattle.gr_core.proofs.Contents.StableLemmas.{lt_or_ge}
use Rattle.gr_core.proofs.ResolutionLaws.EndLemmas.{end-grows}
use Rattle.gr_core.proofs.Effects.CloseAndCastLemmas.{discussion_of-closed, discussion_of-decided}
use Rattle.gr_core.proofs.Effects.ResolutionLemmas.{HoldsAfter, holds-effect}

module _ (discussion : Discussion) (Q : Discussion → Type 0) (same : Q discussion) where
  -- the ballot of a resolution with this discussion changes
  kept-changed : (at : ℕ) (before : Resolution) → discussion_of before ≡ Some discussion
      → Q (record discussion { changed = Some at }) → IsSomeAnd (discussion_of (changed at before)) Q
  kept-changed at Draft is new = absurd (not_None discussion is)
  kept-changed at (Discussing old) is new =
      let one : discussion ≡ old = cc in
      subst (λ (d : Discussion). Q (record d { changed = Some at })) one new
  kept-changed at (Voting old poll) is new = given (Some old) Q discussion is same
  kept-changed at (Closed old poll chosen) is new = given (Some old) Q discussion is same
  kept-changed at (Cancelled old) is new = given (Some old) Q discussion is same

  -- a choice of it is introduced
  kept-entered : (at : ℕ) (before : Resolution) → discussion_of before ≡ Some discussion
      → Q (record discussion { changed = Some at }) → IsSomeAnd (discussion_of (entered at before)) Q
  kept-entered at Draft is new = absurd (not_None discussion is)
  kept-entered at (Discussing old) is new = kept-changed at (Discussing old) is new
  kept-entered at (Voting old poll) is new = given (Some old) Q discussion is same
  kept-entered at (Closed old poll chosen) is new = given (Some old) Q discussion is same
  kept-entered at (Cancelled old) is new = given (Some old) Q discussion is same

  -- it is varied
  kept-shifted : (days : ℤ) (before : Resolution) → discussion_of before ≡ Some discussion
      → Q (record discussion { shift = days }) → IsSomeAnd (discussion_of (shifted days before)) Q
  kept-shifted days Draft is new = absurd (not_None discussion is)
  kept-shifted days (Discussing old) is new =
      let one : discussion ≡ old = cc in
      subst (λ (d : Discussion). Q (record d { shift = days })) one new
  kept-shifted days (Voting old poll) is new = given (Some old) Q discussion is same
  kept-shifted days (Closed old poll chosen) is new = given (Some old) Q discussion is same
  kept-shifted days (Cancelled old) is new = given (Some old) Q discussion is same

  -- a vote is called for
  kept-called : (live : List (ChoiceKey × ChoiceModel)) (poll : Poll) (before : Resolution)
      → discussion_of before ≡ Some discussion → IsSomeAnd (discussion_of (called live poll before)) Q
  kept-called live poll Draft is = absurd (not_None discussion is)
  kept-called [] poll (Discussing old) is = given (Some old) Q discussion is same
  kept-called (first ∷ others) poll (Discussing old) is = given (Some old) Q discussion is same
  kept-called [] poll (Voting old held) is = given (Some old) Q discussion is same
  kept-called (first ∷ others) poll (Voting old held) is = given (Some old) Q discussion is same
  kept-called [] poll (Closed old held chosen) is = given (Some old) Q discussion is same
  kept-called (first ∷ others) poll (Closed old held chosen) is = given (Some old) Q discussion is same
  kept-called [] poll (Cancelled old) is = given (Some old) Q discussion is same
  kept-called (first ∷ others) poll (Cancelled old) is = given (Some old) Q discussion is same

  -- what holds of its changes and of its variations holds of what an act makes of it
  holds-discussion : (at : ℕ) (act : Act) (before : Resolution) → discussion_of before ≡ Some discussion
      → Q (record discussion { changed = Some at })
      → ((days : ℤ) → varies act ≡ true → Q (record discussion { shift = days }))
      → HoldsAfter at act before (λ after. IsSomeAnd (discussion_of after) Q)
  holds-discussion at act before is changed shifted = record {
    same = given (discussion_of before) Q discussion is same;
    changed = kept-changed at before is changed;
    entered = kept-entered at before is changed;
    shifted = λ days varied. kept-shifted days before is (shifted days varied);
    called = λ live poll. kept-called live poll before is;
    closed = given (discussion_of (closed before)) Q discussion (discussion_of-closed before ∙ is) same;
    decided = λ place nothing.
        given (discussion_of (decided place before)) Q discussion (discussion_of-decided place before ∙ is) same;
  }

-- a discussion keeps its start
pub start_stays : StartsStay
start_stays s at act reply t number before discussion valid step is discussed =
    let keeps : Discussion → Type 0 = λ later. later.start ≡ discussion.start in
    subst (λ u. IsSomeAnd (get u.resolutions number) (λ after. IsSomeAnd (discussion_of after) keeps)) (sym step.2)
    (holds-effect number before (λ after. IsSomeAnd (discussion_of after) keeps) s at act step.0 valid.tables.numbered
    is (holds-discussion discussion keeps refl at act before discussed refl (λ days varied. refl)))

-- no act but a variation makes it end earlier
pub ends_grow : OnlyVariationsEndEarlier
ends_grow s at act reply t number before discussion valid step not_varied is discussed =
    let later : s.header.clock ≤ at = elim (lt_or_ge at s.header.clock) [
      | inl past ↦ absurd (step.0 ClockBack past)
      | inr after ↦ after
    ] in
    let was = subst (λ o. IfSome o (IsDiscussion s.header.clock)) discussed
    (valid.tables.resolutions number before is).discussion in
    let IsLater : Discussion → Type 0 = λ other. end_of discussion ≤ end_of other in
    subst (λ u. IsSomeAnd (get u.resolutions number) (λ after. IsSomeAnd (discussion_of after) IsLater)) (sym step.2)
    (holds-effect number before (λ after. IsSomeAnd (discussion_of after) IsLater) s at act step.0 valid.tables.numbered
    is (holds-discussion discussion IsLater (let same : end_of discussion ≤ end_of discussion = omega arith in same)
    at act before discussed (end-grows discussion s.header.clock at was later)
    (λ days varied. absurd (let never : true ≡ false = sym varied ∙ not_varied in cc))))
