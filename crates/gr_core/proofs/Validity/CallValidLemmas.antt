-- A call leaves a valid desk.
use Rattle.std.proofs.Common.{◌≡◌, ℕ, ◌<◌, ◌⊎◌, inl, inr, true, false, cond, List, [], ◌∷◌, length, Option, Some, None, option_map, not, is_some, IsSome, IfSome, refl, sym, ap, ◌∙◌, subst, arith}
use Rattle.std.specs.Prelude.{unwrap_or, nat_eq}
use lib.Dec.{T}
use Rattle.std.specs.List.{AllByRecursion}
use Rattle.std.proofs.lemmas.List.Elements.{All-weaker, recursion_from_All}
use Rattle.std.specs.declared.cmp.Ordering.TheVariants.{Equal}
use Rattle.std.specs.Cmp.{first_so}
use Rattle.std.specs.Option.{option_or}
use Rattle.std.specs.FinMap.{FinMap, get, entries, entries_sorted, get-entries, find, is_sorted}
use Rattle.std.specs.FinMap.Entries.{find-where_key, is_sorted-where_key, same_entries}
use Rattle.gr_core.specs.declared.discussion.Discussion.{Discussion}
use Rattle.gr_core.specs.declared.resolution.Poll.{Poll}
use Rattle.gr_core.specs.declared.resolution.Resolution.{Resolution}
use Rattle.gr_core.specs.declared.resolution.Resolution.TheVariants.{Discussing}
use Rattle.gr_core.specs.declared.choice.ChoiceKey.{ChoiceKey}
use Rattle.gr_core.specs.Parts.Key.{choice_cmp}
use Rattle.gr_core.specs.Machine.Map.{changed_at, with_rows}
use Rattle.gr_core.specs.Parts.Resolution.{poll_of}
use Rattle.gr_core.specs.Parts.Choice.{ChoiceModel, choice_key, choices_of}
use Rattle.gr_core.specs.Machine.Bookkeeping.{is_live, has_lapsed}
use Rattle.gr_core.specs.Machine.Effect.{placed, called, live_choices}
use Rattle.gr_core.specs.Desks.State.{State}
use Rattle.gr_core.specs.Desks.Valid.{AreTables, IsPoll, IsResolution, IsChoice, IsSponsorship, HasIntroduced, places_of, up_to}
use Rattle.gr_core.proofs.Collections.PresenceLemmas.{not_None, not_false, present, taken, given, of_value}
use Rattle.gr_core.proofs.Collections.PairKeys.{choice_total, choice_only}
use Rattle.gr_core.proofs.Contents.ChoiceKeys.{same_number}
use Rattle.gr_core.proofs.Contents.ChoiceLemmas.{IsChoiceOf, all_choices_of}
use Rattle.gr_core.proofs.Contents.KeptRowLemmas.{sorted-altered, find-altered, choices_of-altered}
use Rattle.gr_core.proofs.Validity.StageLemmas.{Becomes, ArePlaced, resolution-kept, choice-kept}
use Rattle.gr_core.proofs.Validity.AlteredLemmas.{keeps_numbers, altered-valid}
use Rattle.gr_core.proofs.Contents.PlacingLemmas.{Entry, at_place, marked, sorted-marked, sorted-placed, WasLive, was-live, find-marked}
use Rattle.gr_core.proofs.Collections.RowsInOrderLemmas.{get-with_rows}
use Rattle.gr_core.proofs.Contents.PlaceNumberLemmas.{length-marked, marked-up_to}

-- the choices of a resolution are in order
pub choices_of-sorted : (choices : FinMap choice_cmp ChoiceModel) (number : ℕ)
    → T (is_sorted choice_cmp (choices_of choices number))
choices_of-sorted choices number = is_sorted-where_key choice_cmp (λ key. nat_eq number key.resolution)
    (entries choices) (entries_sorted choices)

-- what is found among the choices of a resolution is what the table has, and of that resolution
pub found-choice : (choices : FinMap choice_cmp ChoiceModel) (number : ℕ) (q : ChoiceKey) (row : ChoiceModel)
    → find choice_cmp q (choices_of choices number) ≡ Some row → (number ≡ q.resolution) × (get choices q ≡ Some row)
found-choice choices number q row is =
    let test = λ (key : ChoiceKey). nat_eq number key.resolution in
    let alike = λ (x : ChoiceKey) (tie : choice_cmp q x ≡ Equal). ap test (sym (choice_only q x tie)) in
    elim (test q) as (λ b. test q ≡ b → cond b (find choice_cmp q (entries choices)) None ≡ Some row
    → (number ≡ q.resolution) × (get choices q ≡ Some row)) [
      | true ↦ λ on there. (same_number number q.resolution on, get-entries choices q ∙ there)
      | false ↦ λ off never. absurd (not_None row never)
    ] refl (sym (find-where_key choice_cmp test q alike (entries choices)) ∙ is)

-- a row that is there, changed, is the first of two
first-changed : (first found : Option ChoiceModel) → (IsSome first → IsSome found)
    → option_or first found ≡ option_map (λ row. unwrap_or first row) found
first-changed None None there = refl
first-changed None (Some row) there = refl
first-changed (Some new) None there = absurd (not_false (there refl))
first-changed (Some new) (Some row) there = refl

-- a resolution with a live choice is voted on
polled-called : (these : List Entry) (place : ℕ) (q : ChoiceKey) (row : ChoiceModel) (poll : Poll)
    (discussion : Discussion)
    → find choice_cmp q (placed place these) ≡ Some row → IsSome (poll_of (called these poll (Discussing discussion)))
polled-called [] place q row poll discussion is = absurd (not_None row is)
polled-called (e ∷ es) place q row poll discussion is = refl

-- without a poll there is no place
pub no_place : (place introduced : Option ℕ) (discussion : Discussion)
    → IfSome place (λ found. IsSome introduced × IsSome (poll_of (Discussing discussion))) → place ≡ None
no_place None introduced discussion known = refl
no_place (Some place) introduced discussion known = absurd (not_false known.1)

-- a poll has a live choice
voted : (these : List Entry) (poll : Poll) (discussion : Discussion)
    → IsSome (poll_of (called these poll (Discussing discussion))) → 0 < length these
voted [] poll discussion polled = absurd (not_false polled)
voted (e ∷ es) poll discussion polled = omega arith

module _ (at : ℕ) (s : State) (number : ℕ) (poll : Poll) (discussion : Discussion) (valid : AreTables at s)
    (is : get s.resolutions number ≡ Some (Discussing discussion)) (polls : IsPoll at discussion poll) where
  -- the live choices, and those with their places
  abbrev these : List Entry
  these = live_choices s.choices at number

  -- the live ones with their places
  abbrev rows_placed : List Entry
  rows_placed = placed 1 these

  -- the choices after the call
  abbrev after : FinMap choice_cmp ChoiceModel
  after = with_rows s.choices rows_placed

  -- the row of a key with its place, if it gets one
  abbrev with_place : ChoiceKey → ChoiceModel → ChoiceModel
  with_place q row = unwrap_or (find choice_cmp q rows_placed) row

  -- what becomes of the resolution
  abbrev turn : Resolution → Resolution
  turn = called these poll

  -- the desk after the call
  abbrev called_desk : State
  called_desk = record s { resolutions = changed_at s.resolutions number turn; choices = after }

  -- a row that gets a place is that of a live choice
  lived : (q : ChoiceKey) (row : ChoiceModel) → find choice_cmp q rows_placed ≡ Some row
      → WasLive at q (choices_of s.choices number) row
  lived q row found = was-live at 1 (choices_of s.choices number) q row (choices_of-sorted s.choices number) found

  -- a key with a place is one of a choice that was there
  placed-there : (q : ChoiceKey) → IsSome (find choice_cmp q rows_placed)
      → (row : ChoiceModel) × (find choice_cmp q (choices_of s.choices number) ≡ Some row)
  placed-there q there =
      let new = present (find choice_cmp q rows_placed) there in
      let was = lived q new.0 new.1 in
      (was.old, was.found)

  -- each row of the table after the call is one that was there, with its place if it gets one
  pub rows-after : (q : ChoiceKey) → get after q ≡ option_map (with_place q) (get s.choices q)
  rows-after q =
      get-with_rows choice_total choice_only rows_placed s.choices q
      (sorted-placed at 1 (choices_of s.choices number) (choices_of-sorted s.choices number))
      ∙ first-changed (find choice_cmp q rows_placed) (get s.choices q)
      (λ there. let old = placed-there q there in ap is_some (found-choice s.choices number q old.0 old.1).1)

  -- choices of other resolutions stay
  off-after : (q : ChoiceKey) (row : ChoiceModel) → (q.resolution ≡ number → ⊥) → with_place q row ≡ row
  off-after q row other =
      elim (find choice_cmp q rows_placed) as (λ o. find choice_cmp q rows_placed ≡ o → unwrap_or o row ≡ row) [
        | None ↦ λ none. refl
        | Some new ↦ λ found. let was = lived q new found in absurd
            (other (sym (found-choice s.choices number q was.old was.found).0))
      ] refl

  -- the choices of the resolution are those that were, with their places
  pub choices_of-after : choices_of after number ≡ marked at 1 (choices_of s.choices number)
  choices_of-after =
      let es = choices_of s.choices number in
      let sorted = choices_of-sorted s.choices number in
      choices_of-altered s.choices after with_place rows-after number
      ∙ same_entries choice_cmp choice_total choice_only _ _
      (sorted-altered choice_total choice_only with_place es sorted) (sorted-marked at 1 es sorted)
      (λ q.
      find-altered choice_total choice_only with_place q es
      ∙ sym (first-changed (find choice_cmp q rows_placed) (find choice_cmp q es)
      (λ there. ap is_some (placed-there q there).1))
      ∙ sym (find-marked at 1 es q sorted))

  -- none of them had a place
  pub unplaced : AllByRecursion (λ e. e.1.place ≡ None) (choices_of s.choices number)
  unplaced =
      recursion_from_All (λ e. e.1.place ≡ None) (choices_of s.choices number)
      (All-weaker (IsChoiceOf s.choices number) (λ e. e.1.place ≡ None) (λ e of.
      let was = of_value (get s.resolutions e.0.resolution) (λ resolution. IsChoice at s.developers resolution e.1)
      (Discussing discussion)
      (ap (get s.resolutions) (sym of.0) ∙ is) (valid.choices e.0 e.1 of.1) in
      no_place e.1.place e.1.introduced discussion was.place)
      (choices_of s.choices number) (all_choices_of s.choices number))

  -- a row is what it was, or that with a place, for a live choice of a poll
  row-after : (q : ChoiceKey) (row : ChoiceModel) → get s.choices q ≡ Some row → (with_place q row ≡ row)
      ⊎ ((place : ℕ) × (with_place q row ≡ at_place row place) × IsSome row.introduced
      × IsSome (poll_of (turn (Discussing discussion))))
  row-after q row there =
      elim (find choice_cmp q rows_placed) as (λ o. find choice_cmp q rows_placed ≡ o → (unwrap_or o row ≡ row)
      ⊎ ((place : ℕ) × (unwrap_or o row ≡ at_place row place) × IsSome row.introduced
      × IsSome (poll_of (turn (Discussing discussion))))) [
        | None ↦ λ none. inl refl
        | Some new ↦ λ found.
            let was = lived q new found in
            let same : was.old ≡ row =
            (let e : Some was.old ≡ Some row = sym (found-choice s.choices number q was.old was.found).1
            ∙ there in cc) in
            inr (
              was.place,
              was.row_is ∙ ap (λ r. at_place r was.place) same,
              first_so (is_some row.introduced) (not (has_lapsed at row)) (ap (is_live at) (sym same) ∙ was.lives),
              polled-called these 1 q new poll discussion found,
            )
      ] refl

  -- a discussion may become what a call makes of it
  becomes-called : (es : List Entry) → Becomes at (Discussing discussion) (called es poll (Discussing discussion))
  becomes-called [] =
      let was = valid.resolutions number (Discussing discussion) is in
      record {
        discussion = was.discussion;
        poll = tt;
        sole = λ draft. absurd (cc);
        started = λ moment begun. begun;
        polled = λ polled. polled;
      }
  becomes-called (e ∷ es) =
      let was = valid.resolutions number (Discussing discussion) is in
      record {
        discussion = was.discussion;
        poll = polls;
        sole = λ draft. absurd (cc);
        started = λ moment begun. begun;
        polled = λ polled. absurd (not_false polled);
      }

  -- the places are those of a ballot
  placed-after : IsSome (poll_of (turn (Discussing discussion))) → ArePlaced called_desk number
  placed-after polled =
      let es = choices_of s.choices number in
      record {
        places = subst (λ cs. places_of cs ≡ up_to (length (places_of cs))) (sym choices_of-after)
            (marked-up_to at es unplaced);
        placed = subst (λ cs. 0 < length (places_of cs)) (sym choices_of-after)
            (subst (λ n. 0 < n) (sym (length-marked at es unplaced)) (voted these poll discussion polled));
      }

  -- some choice is introduced, as before
  introduced-after : HasIntroduced s number → HasIntroduced called_desk number
  introduced-after before =
      let q = choice_key number before.number in
      let row = taken (get s.choices q) (λ row. IsSome row.introduced) before.found in
      record {
        number = before.number;
        found = given (get after q) (λ row. IsSome row.introduced) (with_place q row.0)
            (rows-after q ∙ ap (option_map (with_place q)) row.1)
            (elim (row-after q row.0 row.1) [
              | inl same ↦ subst (λ r. IsSome r.introduced) (sym same) row.2
              | inr place ↦ subst (λ r. IsSome r.introduced) (sym place.1) row.2
            ]);
      }

  -- the resolution may stand under its number
  resolution-after : IsResolution at called_desk number (turn (Discussing discussion))
  resolution-after =
      let was = valid.resolutions number (Discussing discussion) is in
      resolution-kept at s called_desk number (Discussing discussion) (turn (Discussing discussion))
      (keeps_numbers at s number turn after with_place rows-after off-after number) (becomes-called these) placed-after
      (λ discussed. introduced-after (was.introduced refl)) was

  -- each of its choices may stand under its key
  choice-after : (q : ChoiceKey) (row : ChoiceModel) → get s.choices q ≡ Some row
      → IsChoice at s.developers (Discussing discussion) row
      → IsChoice at s.developers (turn (Discussing discussion)) (with_place q row)
  choice-after q row there was =
      let kept = choice-kept at s.developers (Discussing discussion) (turn (Discussing discussion)) row
      (becomes-called these) was in
      elim (row-after q row there) [
        | inl same ↦ subst (IsChoice at s.developers (turn (Discussing discussion))) (sym same) kept
        | inr place ↦ subst (IsChoice at s.developers (turn (Discussing discussion))) (sym place.1) (record {
          proposer = kept.proposer;
          summary = kept.summary;
          text = kept.text;
          ratio = kept.ratio;
          introduced = kept.introduced;
          short = kept.short;
          place = (place.2, place.3);
        })
      ]

  -- the desk stays valid
  pub called-valid : AreTables at called_desk
  called-valid =
      altered-valid at s number turn after with_place rows-after off-after valid
      (λ old there. subst (λ resolution. IsResolution at called_desk number (turn resolution))
      (one old there) resolution-after)
      (λ q row old is_row there was.
      subst (λ resolution. IsChoice at s.developers (turn resolution) (with_place q row)) (one old there)
      (choice-after q row is_row
      (subst (λ resolution. IsChoice at s.developers resolution row) (sym (one old there)) was)))
      (λ q row login sponsorship is_row there was. elim (row-after q row is_row) [
        | inl same ↦ subst (λ r. IsSponsorship s.developers r login sponsorship) (sym same) was
        | inr place ↦
            subst (λ r. IsSponsorship s.developers r login sponsorship) (sym place.1)
            (record { on_roll = was.on_roll; other = was.other })
      ])
    where
      one : (old : Resolution) → get s.resolutions number ≡ Some old → Discussing discussion ≡ old
      one old there = let e : Some (Discussing discussion) ≡ Some old = sym is ∙ there in cc
