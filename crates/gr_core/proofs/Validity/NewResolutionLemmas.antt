-- A desk stays valid with a new resolution and its first choice.
use Rattle.std.proofs.Common.{◌≡◌, ℕ, ◌+◌, ◌<◌, ◌≤◌, inl, inr, cond, length, None, is_some, refl, sym, ap, ◌∙◌, subst, arith}
use Rattle.std.specs.Cmp.{nat_cmp_total}
use Rattle.std.specs.FinMap.{get, insert, len, len-insert, nat_cmp-IsAntisymmetric}
use Rattle.gr_core.specs.declared.limits.TheConstants.{MAX_RESOLUTIONS, MAX_CHOICES}
use Rattle.gr_core.specs.declared.resolution.Resolution.TheVariants.{Draft}
use Rattle.gr_core.specs.declared.choice.ChoiceKey.{ChoiceKey}
use Rattle.gr_core.specs.Parts.Choice.{ChoiceModel, choice_key, choices_of}
use Rattle.gr_core.specs.Machine.Effect.{next_resolution, first_choice_key}
use Rattle.gr_core.specs.Desks.State.{State}
use Rattle.gr_core.specs.Desks.Valid.{AreTables, AreNumbered, ResolutionsAreNumbered, IsResolution, IsChoice, IsSponsorship}
use Rattle.gr_core.proofs.Collections.PresenceLemmas.{not_None, not_false, present, taken, given, absent}
use Rattle.gr_core.proofs.Collections.PairKeys.{choice_total, choice_only}
use Rattle.gr_core.proofs.Collections.RowPutLemmas.{insert_cases, get-put, get-put_other}
use Rattle.gr_core.proofs.Effects.ResolutionLemmas.{no_resolution}
use Rattle.gr_core.proofs.Validity.NewChoiceLemmas.{numbered-next, no_choices, with_choice, choice-stays, length-with_choice, numbered-with_choice, others-with_choice}

module _ (clock : ℕ) (s : State) (row : ChoiceModel) (valid : AreTables clock s) where
  -- the number of the new resolution
  abbrev number : ℕ
  number = next_resolution s

  -- the desk with it and its first choice
  abbrev proposed_desk : State
  proposed_desk = record s {
    resolutions = insert s.resolutions number Draft;
    choices = insert s.choices
        (first_choice_key s) row;
  }

  -- the new number has no choices yet
  no_choice : (key : ChoiceKey) → number ≡ key.resolution → get s.choices key ≡ None
  no_choice key on =
      absent (get s.choices key) (λ there.
      let choice = present (get s.choices key) there in
      let old = taken (get s.resolutions key.resolution)
      (λ resolution. IsChoice clock s.developers resolution choice.0) (valid.choices key choice.0 choice.1) in
      not_None old.0 (sym (no_resolution s valid.numbered) ∙ ap (get s.resolutions) on ∙ old.1))

  -- and so it has none on the desk
  none : length (choices_of s.choices number) ≡ 0
  none = no_choices s.choices number no_choice

  -- the key of its first choice is new
  new : get s.choices (first_choice_key s) ≡ None
  new = no_choice (first_choice_key s) refl

  -- with that choice it has one
  one : length (choices_of (with_choice s (first_choice_key s) row new) number) ≡ 1
  one =
      let more : length (choices_of (with_choice s (first_choice_key s) row new) number)
      ≡ length (choices_of s.choices number) + 1
      = length-with_choice s (first_choice_key s) row new in
      omega (arith, none)

  -- a draft may stand under its number
  resolution-first : IsResolution clock proposed_desk number Draft
  resolution-first = record {
    discussion = tt;
    poll = tt;
    some = subst (λ n. 1 ≤ n) (sym one) (omega arith);
    few = subst (λ n. n ≤ MAX_CHOICES) (sym one) (omega arith);
    numbered = numbered-with_choice s (first_choice_key s) row new (omega (arith, none))
        (λ choice. (
          (λ is. absurd (not_false (sym (ap is_some (no_choice (choice_key number choice) refl)) ∙ is))),
          (λ within. let high : choice ≤ length
              (choices_of s.choices number) = within.1 in let low : 0 < choice = within.0 in absurd
              (omega (arith, none))),
        ));
    sole = λ draft. one;
    introduced = λ discussed. absurd (not_false discussed);
    places = λ polled. absurd (not_false polled);
    placed = λ polled. absurd (not_false polled);
  }

  -- the numbers of the resolutions go on without a gap
  resolutions-more : len s.resolutions < MAX_RESOLUTIONS → ResolutionsAreNumbered proposed_desk
  resolutions-more room =
      let count = len s.resolutions in
      let len_is : len (insert s.resolutions number Draft) ≡ count + 1
      = len-insert nat_cmp_total s.resolutions number Draft
      ∙ ap (λ o. cond (is_some o) count (count + 1)) (no_resolution s valid.numbered) in
      record {
        few = subst (λ n. n ≤ MAX_RESOLUTIONS) (sym len_is) (omega arith);
        numbered = subst (AreNumbered (λ q. is_some (get (insert s.resolutions number Draft) q))) (sym len_is)
            (numbered-next _ _ count valid.numbered.numbered
            (ap is_some (get-put nat_cmp_total nat_cmp-IsAntisymmetric s.resolutions number Draft))
            (λ q other. ap is_some
            (get-put_other nat_cmp_total nat_cmp-IsAntisymmetric s.resolutions number q Draft other)));
      }

  -- the desk stays valid
  pub proposed-valid : len s.resolutions < MAX_RESOLUTIONS → IsChoice clock s.developers Draft row
      → AreTables clock proposed_desk
  proposed-valid room fits = record {
    few = valid.few;
    developers = valid.developers;
    numbered = resolutions-more room;
    resolutions = λ q found there.
        elim (insert_cases nat_cmp_total nat_cmp-IsAntisymmetric s.resolutions number q Draft found there) [
          | inl same ↦
              subst (λ k. IsResolution clock proposed_desk k found) (sym same.0)
              (subst (IsResolution clock proposed_desk number) same.1 resolution-first)
          | inr before ↦
              others-with_choice s (first_choice_key s) row new clock proposed_desk q found refl
              (λ same. not_None found (sym (no_resolution s valid.numbered) ∙ ap (get s.resolutions) (sym same) ∙ before))
              (valid.resolutions q found before)
        ];
    choices = λ q found there. elim
        (insert_cases choice_total choice_only s.choices (first_choice_key s) q row found there) [
          | inl same ↦
              given (get (insert s.resolutions number Draft) q.resolution)
              (λ resolution. IsChoice clock s.developers resolution found) Draft
              (ap (λ (k : ChoiceKey). get (insert s.resolutions number Draft) k.resolution) same.0
              ∙ get-put nat_cmp_total nat_cmp-IsAntisymmetric s.resolutions number Draft)
              (subst (IsChoice clock s.developers Draft) same.1 fits)
          | inr before ↦
              let old = taken (get s.resolutions q.resolution)
              (λ resolution. IsChoice clock s.developers resolution found) (valid.choices q found before) in
              given (get (insert s.resolutions number Draft) q.resolution)
              (λ resolution. IsChoice clock s.developers resolution found) old.0
              (get-put_other nat_cmp_total nat_cmp-IsAntisymmetric s.resolutions number q.resolution Draft
              (λ same. not_None old.0 (sym (no_resolution s valid.numbered) ∙ ap (get s.resolutions) (sym same) ∙ old.1)) ∙ old.1)
              old.2
        ];
    sponsors = λ q login sponsorship there.
        choice-stays s (first_choice_key s) row new q (λ choice. IsSponsorship s.developers choice login sponsorship)
        (valid.sponsors q login sponsorship there);
  }
