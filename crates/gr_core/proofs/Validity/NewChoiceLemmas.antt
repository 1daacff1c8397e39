-- A desk stays valid with a new choice, of a resolution under discussion or of a new one.
use Rattle.std.proofs.Common.{◌≡◌, ℕ, ◌+◌, ◌<◌, ◌≤◌, inl, inr, Bool, true, cond, [], ◌∷◌, length, Some, None, is_some, All, IsSome, IsSomeAnd, refl, sym, ap, ◌∙◌, subst, arith}
use Rattle.std.proofs.lemmas.List.Elements.{All-head}
use Rattle.std.specs.FinMap.{FinMap, get, insert}
use Rattle.gr_core.specs.declared.limits.TheConstants.{MAX_CHOICES}
use Rattle.gr_core.specs.declared.discussion.Discussion.{Discussion}
use Rattle.gr_core.specs.declared.resolution.Resolution.{Resolution}
use Rattle.gr_core.specs.declared.resolution.Resolution.TheVariants.{Discussing}
use Rattle.gr_core.specs.declared.choice.ChoiceKey.{ChoiceKey}
use Rattle.gr_core.specs.Parts.Key.{choice_cmp}
use Rattle.gr_core.specs.Parts.Choice.{ChoiceModel, choice_key, choices_of}
use Rattle.gr_core.specs.Machine.Effect.{next_choice_key}
use Rattle.gr_core.specs.Desks.State.{State}
use Rattle.gr_core.specs.Desks.Valid.{AreTables, AreNumbered, IsResolution, IsChoice, IsSponsorship}
use Rattle.gr_core.proofs.Collections.PresenceLemmas.{not_None, not_false, taken, given, absent}
use Rattle.gr_core.proofs.Contents.StableLemmas.{same_or_other}
use Rattle.gr_core.proofs.Collections.PairKeys.{choice_total, choice_only}
use Rattle.gr_core.proofs.Collections.RowPutLemmas.{insert_cases, get-put, get-put_other}
use Rattle.gr_core.proofs.Contents.ChoiceLemmas.{IsChoiceOf, all_choices_of, length-choices_of-insert}
use Rattle.gr_core.proofs.Validity.AlteredLemmas.{resolution-same}

-- numbers from 1 without gaps, and the next one
pub numbered-next : (has next : ℕ → Bool) (count : ℕ) → AreNumbered has count → next (count + 1) ≡ true
    → ((number : ℕ) → (number ≡ count + 1 → ⊥) → next number ≡ has number) → AreNumbered next (count + 1)
numbered-next has next count before here same number =
    elim (same_or_other number (count + 1)) [
      | inl one ↦ (
        (λ is. (
          let low : 0 < number = omega arith in low,
          (let high : number ≤ count + 1 = omega arith in high),
        )),
        (λ within. ap next one ∙ here),
      )
      | inr other ↦ (
        (λ is. let old = (before number).0 (sym (same number other) ∙ is) in
            (old.0, (let high : number ≤ count + 1 = omega arith in high))),
        (λ within. same number other ∙ (before number).1 (within.0, (let high : number ≤ count = omega arith in high))),
      )
    ]

-- a table without a choice of the resolution
pub no_choices : (choices : FinMap choice_cmp ChoiceModel) (number : ℕ)
    → ((key : ChoiceKey) → number ≡ key.resolution → get choices key ≡ None)
    → length (choices_of choices number) ≡ 0
no_choices choices number none =
    elim (choices_of choices number) as (λ es. All (IsChoiceOf choices number) es → length es ≡ 0) [
      | [] ↦ λ all. refl
      | e ∷ es ↦ λ all.
          let first = All-head (IsChoiceOf choices number) e es all in
          absurd (not_None e.1 (sym (none e.0 first.0) ∙ first.1))
    ] (all_choices_of choices number)

module _ (s : State) (key : ChoiceKey) (row : ChoiceModel) (new : get s.choices key ≡ None) where
  -- the choices with the new one
  abbrev pub with_choice : FinMap choice_cmp ChoiceModel
  with_choice = insert s.choices key row

  -- other choices stay
  other_choice : (q : ChoiceKey) → (q ≡ key → ⊥) → get with_choice q ≡ get s.choices q
  other_choice q other = get-put_other choice_total choice_only s.choices key q row other

  -- what was there is there
  pub choice-stays : (q : ChoiceKey) (P : ChoiceModel → Type 0) → IsSomeAnd (get s.choices q) P
      → IsSomeAnd (get with_choice q) P
  choice-stays q P is =
      let old = taken (get s.choices q) P is in
      given (get with_choice q) P old.0
      (other_choice q (λ same. not_None old.0 (sym new ∙ ap (get s.choices) (sym same) ∙ old.1)) ∙ old.1)
      old.2

  -- there is one choice more, with the next number
  pub length-with_choice : length (choices_of with_choice key.resolution)
      ≡ length (choices_of s.choices key.resolution) + 1
  length-with_choice =
      let before = length (choices_of s.choices key.resolution) in
      length-choices_of-insert s.choices key row ∙ ap (λ o. cond (is_some o) before (before + 1)) new

  -- the numbers go on without a gap
  pub numbered-with_choice : key.number ≡ length (choices_of s.choices key.resolution) + 1
      → AreNumbered (λ number. is_some (get s.choices (choice_key key.resolution number)))
      (length (choices_of s.choices key.resolution))
      → AreNumbered (λ number. is_some (get with_choice (choice_key key.resolution number)))
      (length (choices_of with_choice key.resolution))
  numbered-with_choice last before =
      subst (AreNumbered (λ number. is_some (get with_choice (choice_key key.resolution number))))
      (sym length-with_choice)
      (numbered-next _ _ (length (choices_of s.choices key.resolution)) before
      (ap (λ number. is_some (get with_choice (choice_key key.resolution number))) (sym last)
      ∙ ap is_some (get-put choice_total choice_only s.choices key row))
      (λ number other. ap is_some
      (other_choice (choice_key key.resolution number)
      (λ same. other (ap (λ (k : ChoiceKey). k.number) same ∙ last)))))

  -- other resolutions have the choices that they had
  pub others-with_choice : (clock : ℕ) (t : State) (number : ℕ) (resolution : Resolution) → t.choices ≡ with_choice
      → (number ≡ key.resolution → ⊥)
      → IsResolution clock s number resolution → IsResolution clock t number resolution
  others-with_choice clock t number resolution is other was =
      resolution-same clock s t number resolution
      (λ q on. ap (λ m. get m q) is ∙ other_choice q (λ same. other (on ∙ ap (λ (k : ChoiceKey). k.resolution) same)))
      was

-- a choice more of a resolution under discussion
module _ (clock : ℕ) (s : State) (number : ℕ) (row : ChoiceModel) (discussion : Discussion) (valid : AreTables clock s)
    (is : get s.resolutions number ≡ Some (Discussing discussion)) where
  -- the key of the new choice
  abbrev next : ChoiceKey
  next = next_choice_key s number

  -- the desk with it
  abbrev added_desk : State
  added_desk = record s { choices = insert s.choices next row }

  -- its key is new
  next-new : get s.choices next ≡ None
  next-new =
      let was = valid.resolutions number (Discussing discussion) is in
      absent (get s.choices next) (λ there.
      let within = (was.numbered (length (choices_of s.choices number) + 1)).0 there in
      let high : length (choices_of s.choices number) + 1 ≤ length (choices_of s.choices number) = within.1 in
      omega arith)

  -- the resolution may have one choice more
  resolution-added : length (choices_of s.choices number) < MAX_CHOICES
      → IsResolution clock added_desk number (Discussing discussion)
  resolution-added room =
      let was = valid.resolutions number (Discussing discussion) is in
      let length_is = length-with_choice s next row next-new in
      record {
        discussion = was.discussion;
        poll = was.poll;
        some = subst (λ n. 1 ≤ n) (sym length_is) (omega arith);
        few = subst (λ n. n ≤ MAX_CHOICES) (sym length_is) (omega arith);
        numbered = numbered-with_choice s next row next-new refl was.numbered;
        sole = λ draft. absurd (cc);
        introduced = λ discussed. let old = was.introduced discussed in record {
          number = old.number;
          found = choice-stays s next row next-new (choice_key number old.number)
              (λ choice. IsSome choice.introduced) old.found;
        };
        places = λ polled. absurd (not_false polled);
        placed = λ polled. absurd (not_false polled);
      }

  -- the desk stays valid
  pub added-valid : length (choices_of s.choices number) < MAX_CHOICES
      → IsChoice clock s.developers (Discussing discussion) row → AreTables clock added_desk
  added-valid room fits = record {
    few = valid.few;
    developers = valid.developers;
    numbered = record { few = valid.numbered.few; numbered = valid.numbered.numbered };
    resolutions = λ q found there. elim (same_or_other q number) [
      | inl same ↦
          subst (λ k. IsResolution clock added_desk k found) (sym same)
          (subst (IsResolution clock added_desk number)
          (let e : Some (Discussing discussion) ≡ Some found = sym is ∙ ap (get s.resolutions) (sym same)
          ∙ there in cc) (resolution-added room))
      | inr other ↦ others-with_choice s next row next-new clock added_desk q found refl other
          (valid.resolutions q found there)
    ];
    choices = λ q found there. elim (insert_cases choice_total choice_only s.choices next q row found there) [
      | inl same ↦
          given (get s.resolutions q.resolution) (λ resolution. IsChoice clock s.developers resolution found)
          (Discussing discussion)
          (ap (λ (k : ChoiceKey). get s.resolutions k.resolution) same.0 ∙ is)
          (subst (IsChoice clock s.developers (Discussing discussion)) same.1 fits)
      | inr before ↦ valid.choices q found before
    ];
    sponsors = λ q login sponsorship there.
        choice-stays s next row next-new q (λ choice. IsSponsorship s.developers choice login sponsorship)
        (valid.sponsors q login sponsorship there);
  }
