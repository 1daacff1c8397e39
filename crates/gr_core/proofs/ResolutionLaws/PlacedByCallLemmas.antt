-- A call places just the live choices of its resolution.
use Rattle.std.proofs.Common.{◌≡◌, ℕ, ◌≤◌, inl, inr, ◌↔◌, List, [], ◌∷◌, length, Some, option_map, option_and_then, is_some, IsTrue, IsSome, IsSomeAnd, refl, sym, ap, ◌∙◌, subst}
use Rattle.std.specs.Prelude.{ℤ}
use Rattle.std.specs.Cmp.{nat_cmp_total}
use Rattle.std.specs.FinMap.{get, nat_cmp-IsAntisymmetric}
use Rattle.gr_core.specs.declared.discussion.Discussion.{Discussion}
use Rattle.gr_core.specs.declared.resolution.Poll.{Poll}
use Rattle.gr_core.specs.declared.resolution.Resolution.TheVariants.{Discussing}
use Rattle.gr_core.specs.declared.refusal.Refusal.TheVariants.{ClockBack}
use Rattle.gr_core.specs.Parts.Choice.{ChoiceModel, choice_key, choices_of}
use Rattle.gr_core.specs.Machine.Bookkeeping.{is_live}
use Rattle.gr_core.specs.Desks.State.{State}
use Rattle.gr_core.specs.Machine.Act.{Call, discussion_at}
use Rattle.gr_core.specs.Machine.Refusal.{IsAccepted}
use Rattle.gr_core.specs.Machine.Effect.{called, live_choices, own, poll_at}
use Rattle.gr_core.specs.Desks.Valid.{AreTables, IsChoice, places_of, up_to}
use Rattle.gr_core.specs.Parts.Resolution.{present_discussion}
use Rattle.gr_core.specs.Laws.ResolutionLaws.{after_call, CallsPlaceTheLiveChoices}
use Rattle.gr_core.proofs.Collections.PresenceLemmas.{not_false, given, of_value, unmapped}
use Rattle.gr_core.proofs.Contents.StableLemmas.{lt_or_ge}
use Rattle.gr_core.proofs.Collections.RowChangedLemmas.{get-changed_at}
use Rattle.gr_core.proofs.Validity.GrowthLemmas.{clock-later}
use Rattle.gr_core.proofs.Contents.PlacingLemmas.{Entry, at_place}
use Rattle.gr_core.proofs.Contents.PlaceNumberLemmas.{length-marked, marked-up_to}
use Rattle.gr_core.proofs.Validity.CallValidLemmas.{no_place, rows-after, choices_of-after, unplaced}
use Rattle.gr_core.proofs.ResolutionLaws.ChoicesAfterLemmas.{called_row}
use Rattle.gr_core.proofs.Validity.ChangedRowsValidLemmas.{call-discussion, call-poll}

-- a discussion becomes a vote with live choices, and is cancelled without
is_called : (these : List Entry) (poll : Poll) (discussion : Discussion)
    → called these poll (Discussing discussion) ≡ after_call (length these) poll discussion
is_called [] poll discussion = refl
is_called (e ∷ es) poll discussion = refl

module _ (s : State) (at number : ℕ) (days : ℤ) (valid : AreTables at s)
    (accepted : IsAccepted s at (Call number days)) where
  -- the live choices of the resolution
  abbrev these : List Entry
  these = live_choices s.choices at number

  -- the desk after the call
  abbrev after : State
  after = own s at (Call number days)

  -- what becomes of the resolution
  abbrev IsAfterCall : State → Discussion → Type 0
  IsAfterCall t discussion =
      get t.resolutions number ≡ Some (after_call (length these) (poll_at s at days) discussion)

  called-resolution : IsSomeAnd (discussion_at s (Call number days)) (IsAfterCall after)
  called-resolution =
      let turn = called these (poll_at s at days) in
      let stage = call-discussion s at valid number days accepted in
      given (discussion_at s (Call number days)) (IsAfterCall after) stage.0
      (ap (option_and_then present_discussion) stage.1)
      (get-changed_at nat_cmp_total nat_cmp-IsAntisymmetric s.resolutions number turn ∙ ap (option_map turn) stage.1
      ∙ ap Some (is_called these (poll_at s at days) stage.0))

  -- the places are the numbers up to that of the live choices
  called-places : places_of (choices_of after.choices number) ≡ up_to (length these)
  called-places =
      let stage = call-discussion s at valid number days accepted in
      let polls = call-poll s at valid number days stage.0 accepted stage.1 in
      let poll = poll_at s at days in
      let es = choices_of s.choices number in
      let none = unplaced at s number poll stage.0 valid stage.1 polls in
      ap places_of (choices_of-after at s number poll stage.0 valid stage.1 polls) ∙ marked-up_to at es none
      ∙ ap up_to (length-marked at es none)

  -- who has a place was live, and the other way round
  called-choice : (choice : ℕ) (row : ChoiceModel) → get after.choices (choice_key number choice) ≡ Some row
      → IsSome row.place ↔ IsSomeAnd (get s.choices (choice_key number choice)) (λ before. IsTrue (is_live at before))
  called-choice choice row there =
      let q = choice_key number choice in
      let stage = call-discussion s at valid number days accepted in
      let polls = call-poll s at valid number days stage.0 accepted stage.1 in
      let old = unmapped _ (get s.choices q) row
      (sym (rows-after at s number (poll_at s at days) stage.0 valid stage.1 polls q) ∙ there) in
      elim (called_row s.choices at number q old.0 old.1) [
        | inl same ↦
            let is : row ≡ old.0 = (let e : Some row ≡ Some old.0 = sym there ∙ same.0 in cc) in
            let was = of_value (get s.resolutions number) (λ resolution. IsChoice at s.developers resolution old.0)
            (Discussing stage.0) stage.1 (valid.choices q old.0 old.1) in
            let none = ap (λ (r : ChoiceModel). r.place) is ∙ no_place old.0.place old.0.introduced stage.0 was.place in (
              (λ placed. absurd (not_false (sym (ap is_some none) ∙ placed))),
              (λ lives. absurd (same.1 refl
                  (of_value (get s.choices q) (λ before. IsTrue (is_live at before)) old.0 old.1 lives))),
            )
        | inr place ↦
            let is : row ≡ at_place old.0 place.0
            = (let e : Some row ≡ Some (at_place old.0 place.0) = sym there ∙ place.1 in cc) in (
              (λ placed. given (get s.choices q) (λ before. IsTrue (is_live at before)) old.0 old.1 place.2),
              (λ lives. ap (λ (r : ChoiceModel). is_some r.place) is),
            )
      ]

-- a call places the live choices, and cancels without any
pub calls_place : CallsPlaceTheLiveChoices
calls_place s at number days reply t valid step =
    let accepted = step.0 in
    let later : s.header.clock ≤ at = elim (lt_or_ge at s.header.clock) [
      | inl before ↦ absurd (accepted ClockBack before)
      | inr after ↦ after
    ] in
    let now = clock-later s.header.clock at later s valid.tables in
    let choices_are = ap (λ (u : State). u.choices) step.2 in (
      subst (λ (u : State). IsSomeAnd (discussion_at s (Call number days)) (λ discussion. get u.resolutions number
          ≡ Some (after_call (length (live_choices s.choices at number)) (poll_at s at days) discussion)))
          (sym step.2) (called-resolution s at number days now accepted),
      ap (λ choices. places_of (choices_of choices number)) choices_are ∙ called-places s at number days now accepted,
      λ choice row there. called-choice s at number days now accepted choice row
          (sym (ap (λ choices. get choices (choice_key number choice)) choices_are) ∙ there),
    )
