-- How many active sponsors a choice has once a login became one, or is one no more.
use Rattle.std.proofs.Common.{◌≡◌, ℕ, ◌+◌, Bool, true, false, cond, List, Option, Some, None, refl, ap, arith}
use Rattle.std.specs.Prelude.{◌&&◌, if◌then◌else◌}
use Rattle.std.specs.Option.{option_map_or}
use Rattle.std.specs.Ordering.{eq_by_cmp}
use Rattle.std.specs.Cmp.{IsTotalOrder, eq_by_cmp_equiv}
use Rattle.std.specs.FinMap.{FinMap, IsAntisymmetric, get, insert}
use Rattle.gr_core.specs.declared.choice.ChoiceKey.{ChoiceKey}
use Rattle.gr_core.specs.declared.sponsor.Sponsorship.{Sponsorship}
use Rattle.gr_core.specs.declared.sponsor.Sponsorship.TheVariants.{Active, Withdrawn}
use Rattle.gr_core.specs.Parts.Key.{choice_cmp, sponsor_cmp}
use Rattle.gr_core.specs.Parts.Sponsor.{is_active, is_active_sponsor, sponsors_choice, sponsor_count}
use Rattle.gr_core.specs.Machine.Effect.{without_sponsor}
use Rattle.gr_core.proofs.Collections.CountLemmas.{one_where, count-insert}
use Rattle.gr_core.proofs.Collections.TextKeys.{text_total, text_only}
use Rattle.gr_core.proofs.Collections.PairKeys.{choice_total, choice_only, pair_total, pair_only}

-- the order of sponsors' keys is total
pub sponsor_total : IsTotalOrder sponsor_cmp
sponsor_total = pair_total choice_total text_total

-- and only equal keys tie in it
pub sponsor_only : IsAntisymmetric sponsor_cmp
sponsor_only = pair_only choice_only text_only

-- one for an active sponsor
abbrev pub one_if : Bool → ℕ
one_if sponsors = cond sponsors 1 0

-- the row of a sponsor of the choice counts where it is active
one_where-sponsor : (tie : Bool) → tie ≡ true → (found : Option Sponsorship)
    → one_where (λ row. tie && is_active row) found ≡ one_if (option_map_or is_active found false)
one_where-sponsor true is None = refl
one_where-sponsor true is (Some Active) = refl
one_where-sponsor true is (Some Withdrawn) = refl
one_where-sponsor false is found = absurd (let never : false ≡ true = is in cc)

module _ (sponsors : FinMap sponsor_cmp Sponsorship) (choice : ChoiceKey) (login : List ℕ) where
  -- a row of the choice counts where it is active, and the one in whose place it stands no more
  pub sponsor_count-insert : (row : Sponsorship)
      → sponsor_count (insert sponsors (choice, login) row) choice + one_if (is_active_sponsor sponsors (choice, login))
      ≡ sponsor_count sponsors choice + one_if (is_active row)
  sponsor_count-insert row =
      let tie : eq_by_cmp choice_cmp choice choice ≡ true = (eq_by_cmp_equiv choice_total).refl choice in
      let change : sponsor_count (insert sponsors (choice, login) row) choice
      + one_where (λ old. eq_by_cmp choice_cmp choice choice && is_active old) (get sponsors (choice, login))
      ≡ sponsor_count sponsors choice + one_if (eq_by_cmp choice_cmp choice choice && is_active row)
      = count-insert sponsor_total sponsor_only (sponsors_choice choice) sponsors (choice, login) row in
      let old : one_where (λ old. eq_by_cmp choice_cmp choice choice && is_active old) (get sponsors (choice, login))
      ≡ one_if (is_active_sponsor sponsors (choice, login)) = one_where-sponsor _ tie (get sponsors (choice, login)) in
      let new : one_if (eq_by_cmp choice_cmp choice choice && is_active row) ≡ one_if (is_active row) =
      ap (λ b. one_if (b && is_active row)) tie in
      omega arith

  -- a new proposer sponsors the choice no more, active before or not
  pub sponsor_count-without : sponsor_count (insert sponsors (choice, login) Withdrawn) choice
      ≡ sponsor_count (without_sponsor sponsors choice (Some login)) choice
  sponsor_count-without =
      let without = insert sponsors (choice, login) Withdrawn in
      let change : sponsor_count without choice + one_if (is_active_sponsor sponsors (choice, login))
      ≡ sponsor_count sponsors choice + 0
      = sponsor_count-insert Withdrawn in
      elim (is_active_sponsor sponsors (choice, login)) as (λ b. is_active_sponsor sponsors (choice, login) ≡ b
      → sponsor_count without choice ≡ sponsor_count (if b then without else sponsors) choice) [
        | true ↦ λ is. refl
        | false ↦ λ is. let none : one_if (is_active_sponsor sponsors (choice, login)) ≡ 0 = ap one_if is in omega arith
      ] refl
