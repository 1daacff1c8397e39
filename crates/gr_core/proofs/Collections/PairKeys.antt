-- The orders of pairs are ones that the lemmas on tables ask for.
use Rattle.std.proofs.Common.{◌≡◌, ℕ}
use Rattle.std.specs.declared.cmp.Ordering.{Ordering}
use Rattle.std.specs.Cmp.{IsTotalOrder, nat_cmp_total, on_total, then_total}
use Rattle.std.specs.FinMap.{IsAntisymmetric, nat_cmp-IsAntisymmetric}
use Rattle.std.proofs.lemmas.Map.Lookups.{exact_pairs}
use Rattle.gr_core.specs.Parts.Key.{pair_cmp, choice_cmp}

pub pair_total : {A B : Type 0} {P : A → A → Ordering} {Q : B → B → Ordering} → IsTotalOrder P → IsTotalOrder Q → IsTotalOrder (pair_cmp P Q)
pair_total p q = then_total (on_total (λ pair. pair.0) p) (on_total (λ pair. pair.1) q)

pub pair_only : {A B : Type 0} {P : A → A → Ordering} {Q : B → B → Ordering} → IsAntisymmetric P → IsAntisymmetric Q → IsAntisymmetric (pair_cmp P Q)
pair_only {P = P} {Q = Q} p q = exact_pairs P Q p q

pub choice_total : IsTotalOrder choice_cmp
choice_total = then_total (on_total (λ choice. choice.resolution) nat_cmp_total) (on_total (λ choice. choice.number) nat_cmp_total)

pub choice_only : IsAntisymmetric choice_cmp
choice_only a b tie =
    let numbers : ◌≡◌ {A = ℕ × ℕ} (a.resolution, a.number) (b.resolution, b.number)
    = pair_only nat_cmp-IsAntisymmetric nat_cmp-IsAntisymmetric (a.resolution, a.number) (b.resolution, b.number) tie in
    λ i. record { resolution = (numbers i).0; number = (numbers i).1 }
