-- A desk stays valid where the rows of one resolution and of its choices change in ways that they may.
use Rattle.std.proofs.Common.{◌≡◌, ℕ, ◌<◌, ◌≤◌, inl, inr, ◌↔◌, true, length, List, Some, None, option_map, is_some, IsSome, IsSomeAnd, refl, sym, ap, ◌∙◌, subst}
use Rattle.std.specs.Cmp.{nat_cmp_total}
use Rattle.std.specs.FinMap.{FinMap, get, len, nat_cmp-IsAntisymmetric}
use Rattle.gr_core.specs.declared.limits.TheConstants.{MAX_RESOLUTIONS}
use Rattle.gr_core.specs.declared.resolution.Resolution.{Resolution}
use Rattle.gr_core.specs.declared.choice.ChoiceKey.{ChoiceKey}
use Rattle.gr_core.specs.declared.sponsor.Sponsorship.{Sponsorship}
use Rattle.gr_core.specs.Parts.Key.{choice_cmp}
use Rattle.gr_core.specs.Machine.Map.{changed_at}
use Rattle.gr_core.specs.Parts.Choice.{ChoiceModel, choice_key}
use Rattle.gr_core.specs.Desks.State.{State}
use Rattle.gr_core.specs.Desks.Valid.{AreTables, IsResolution, IsChoice, IsSponsorship, ResolutionsAreNumbered, places_of, up_to}
use Rattle.gr_core.proofs.Collections.PresenceLemmas.{taken, given, unmapped, is_some-mapped}
use Rattle.gr_core.proofs.Contents.StableLemmas.{same_or_other}
use Rattle.gr_core.proofs.Collections.RowChangedLemmas.{get-changed_at, get-changed_at_other, is_some-changed_at, len-changed_at}
use Rattle.gr_core.proofs.Contents.KeptRowLemmas.{choices_of-same, length-choices_of-altered}
use Rattle.gr_core.proofs.Validity.StageLemmas.{KeepsNumbers, stays, resolution-kept}

-- a resolution whose choices have the same rows on another desk may stand there
pub resolution-same : (clock : ℕ) (s t : State) (number : ℕ) (resolution : Resolution)
    → ((key : ChoiceKey) → number ≡ key.resolution → get t.choices key ≡ get s.choices key)
    → IsResolution clock s number resolution → IsResolution clock t number resolution
resolution-same clock s t number resolution is was =
    let same = choices_of-same s.choices t.choices number is in
    resolution-kept clock s t number resolution resolution
    (record { length_is = ap length same; keys = λ choice. ap is_some (is (choice_key number choice) refl) })
    (stays clock s number resolution was)
    (λ polled. record {
      places = subst (λ these. places_of these ≡ up_to (length (places_of these))) (sym same) (was.places polled);
      placed = subst (λ these. 0 < length (places_of these)) (sym same) (was.placed polled);
    })
    (λ discussed.
    let old = was.introduced discussed in
    record {
      number = old.number;
      found = subst (λ found. IsSomeAnd found (λ choice. IsSome choice.introduced))
          (sym (is (choice_key number old.number) refl)) old.found;
    })
    was

-- the numbers of the resolutions stay where one of them changes
numbered-changed : (s : State) (number : ℕ) (change : Resolution → Resolution) → ResolutionsAreNumbered s
    → ResolutionsAreNumbered (record s { resolutions = changed_at s.resolutions number change })
numbered-changed s number change was =
    let len_is = len-changed_at nat_cmp_total nat_cmp-IsAntisymmetric s.resolutions number change in
    record {
      few = subst (λ n. n ≤ MAX_RESOLUTIONS) (sym len_is) was.few;
      numbered = λ q. subst
          (λ n. is_some (get (changed_at s.resolutions number change) q) ≡ true ↔ ((0 < q) × (q ≤ n))) (sym len_is)
          (subst (λ b. b ≡ true ↔ ((0 < q) × (q ≤ len s.resolutions)))
          (sym (is_some-changed_at nat_cmp_total nat_cmp-IsAntisymmetric s.resolutions number q change))
          (was.numbered q));
    }

-- a table of choices whose rows are those of the desk, those of one resolution changed by their keys
module _ (clock : ℕ) (s : State) (number : ℕ) (change : Resolution → Resolution) (choices : FinMap choice_cmp ChoiceModel)
    (h : ChoiceKey → ChoiceModel → ChoiceModel)
    (rows : (key : ChoiceKey) → get choices key ≡ option_map (h key) (get s.choices key))
    (off : (key : ChoiceKey) (row : ChoiceModel) → (key.resolution ≡ number → ⊥) → h key row ≡ row) where
  -- the desk with this table, and the resolution changed
  abbrev pub altered_desk : State
  altered_desk = record s { resolutions = changed_at s.resolutions number change; choices = choices }

  -- other resolutions have the same choices
  other_rows : (key : ChoiceKey) → (key.resolution ≡ number → ⊥) → get choices key ≡ get s.choices key
  other_rows key other =
      rows key ∙ elim (get s.choices key) as
      (λ o. option_map (h key) o ≡ o) [ None ↦ refl | Some row ↦ ap Some (off key row other) ]

  -- each resolution keeps the numbers of its choices
  pub keeps_numbers : (q : ℕ) → KeepsNumbers s altered_desk q
  keeps_numbers q = record {
    length_is = length-choices_of-altered s.choices choices h rows q;
    keys = λ choice. ap is_some (rows (choice_key q choice))
        ∙ is_some-mapped (h (choice_key q choice)) (get s.choices (choice_key q choice));
  }

  -- the resolution that changed comes from the one that was there
  resolution_is : (q : ℕ) (found : Resolution) → q ≡ number
      → get (changed_at s.resolutions number change) q ≡ Some found
      → (old : Resolution) × (get s.resolutions number ≡ Some old) × (found ≡ change old)
  resolution_is q found same is =
      unmapped change (get s.resolutions number) found
      (sym (get-changed_at nat_cmp_total nat_cmp-IsAntisymmetric s.resolutions number change)
      ∙ ap (get (changed_at s.resolutions number change)) (sym same) ∙ is)

  -- other resolutions stay
  other_resolution : (q : ℕ) → (q ≡ number → ⊥) → get (changed_at s.resolutions number change) q ≡ get s.resolutions q
  other_resolution q other =
      get-changed_at_other nat_cmp_total nat_cmp-IsAntisymmetric s.resolutions number q change other

  module _ (valid : AreTables clock s)
      (resolution : (old : Resolution) → get s.resolutions number ≡ Some old
      → IsResolution clock altered_desk number (change old))
      (choice : (key : ChoiceKey) (row : ChoiceModel) (old : Resolution) → get s.choices key ≡ Some row
      → get s.resolutions number ≡ Some old
      → IsChoice clock s.developers old row → IsChoice clock s.developers (change old) (h key row))
      (sponsor : (key : ChoiceKey) (row : ChoiceModel) (login : List ℕ) (sponsorship : Sponsorship)
      → get s.choices key ≡ Some row → get s.sponsors (key, login) ≡ Some sponsorship
      → IsSponsorship s.developers row login sponsorship → IsSponsorship s.developers (h key row) login sponsorship) where
    -- what stands under each number may stand there
    each_resolution : (q : ℕ) (found : Resolution) → get (changed_at s.resolutions number change) q ≡ Some found
        → IsResolution clock altered_desk q found
    each_resolution q found is =
        elim (same_or_other q number) [
          | inl same ↦
              let old = resolution_is q found same is in
              subst (λ k. IsResolution clock altered_desk k found) (sym same)
              (subst (IsResolution clock altered_desk number) (sym old.2) (resolution old.0 old.1))
          | inr other ↦
              resolution-same clock s altered_desk q found (λ key on. other_rows key (λ same. other (on ∙ same)))
              (valid.resolutions q found (sym (other_resolution q other) ∙ is))
        ]

    -- each choice has its resolution, and may have it
    each_choice : (key : ChoiceKey) (found : ChoiceModel) → get choices key ≡ Some found
        → IsSomeAnd (get (changed_at s.resolutions number change) key.resolution)
        (λ now. IsChoice clock s.developers now found)
    each_choice key found is =
        let row = unmapped (h key) (get s.choices key) found (sym (rows key) ∙ is) in
        let old = taken (get s.resolutions key.resolution) (λ old. IsChoice clock s.developers old row.0)
        (valid.choices key row.0 row.1) in
        elim (same_or_other key.resolution number) [
          | inl same ↦
              let was : get s.resolutions number ≡ Some old.0 = ap (get s.resolutions) (sym same) ∙ old.1 in
              given _ (λ now. IsChoice clock s.developers now found) (change old.0)
              (ap (get (changed_at s.resolutions number change)) same
              ∙ get-changed_at nat_cmp_total nat_cmp-IsAntisymmetric s.resolutions number change
              ∙ ap (option_map change) was)
              (subst (IsChoice clock s.developers (change old.0)) (sym row.2) (choice key row.0 old.0 row.1 was old.2))
          | inr other ↦
              given _ (λ now. IsChoice clock s.developers now found) old.0
              (other_resolution key.resolution other ∙ old.1)
              (subst (IsChoice clock s.developers old.0) (sym (row.2 ∙ off key row.0 other)) old.2)
        ]

    -- the desk stays valid
    pub altered-valid : AreTables clock altered_desk
    altered-valid = record {
      few = valid.few;
      developers = valid.developers;
      numbered =
          (let numbers = numbered-changed s number change valid.numbered in
          record { few = numbers.few; numbered = numbers.numbered });
      resolutions = each_resolution;
      choices = each_choice;
      sponsors = λ key login sponsorship is.
          let row = taken (get s.choices key) (λ row. IsSponsorship s.developers row login sponsorship)
          (valid.sponsors key login sponsorship is) in
          given _ (λ row. IsSponsorship s.developers row login sponsorship) (h key row.0)
          (rows key ∙ ap (option_map (h key)) row.1)
          (sponsor key row.0 login sponsorship row.1 is row.2);
    }
