use Rattle.std.proofs.Common.{◌≡◌, ◌+◌, ◌-◌, ◌≤◌, ◌↔◌, ℕ, IsTrue, IsSome, is_some, sym, ap, ◌∙◌, refl, subst, arith, rules, tests}
use Rattle.std.specs.List.{All, range_with_len}
use Rattle.std.specs.Cmp.{nat_cmp_total}
use Rattle.std.specs.FinMap.{get, get-entries, entries, len, len-entries, nat_cmp-IsAntisymmetric}
use Rattle.std.proofs.lemmas.Iterator.{cases_from_all, YieldsList-from_range}
use Rattle.gr_core.specs.declared.limits.TheConstants.{MAX_RESOLUTIONS}
use Rattle.gr_core.specs.Desks.Valid.{AreNumbered}
use Rattle.gr_core.proofs.Collections.NumberedRowLemmas.{numbered}
use Rattle.gr_core.proofs.Collections.RowTestLemmas.{both_ways, told_of_each}
use Rattle.gr_core.proofs.valid.resolutions.are_numbered.Goals as goal

pub returns-then-count-le-MAX_RESOLUTIONS : goal.returns-then-count-le-MAX_RESOLUTIONS
returns-then-count-le-MAX_RESOLUTIONS c =
    let m = c.resolutions-resolutions.result.now in
    let here = c.resolutions-resolutions.ensures in
    let count = c.len-count.result in
    let numbers = range_with_len 0 count in
    let Holds : ℕ → Type 0 = λ before. IsSome (get m (before + 1)) in
    let told : IsTrue c.all.result ↔ All Holds numbers =
    told_of_each Holds c.all.result numbers
    (cases_from_all _ _ c.all.result Holds (λ before. ¬ (Holds before)) c.all.ensures.ran
    (YieldsList-from_range 0 count count refl (let whole : count - 0 ≡ count = omega arith in whole))
    (λ x q k. search (rules, tests)) (λ x q k. search (rules, tests))) in
    let is : IsTrue c.all.result ↔ AreNumbered (λ n. is_some (get m n)) count =
    both_ways told (numbered nat_cmp_total nat_cmp-IsAntisymmetric (λ n. n) (λ a b same. same) (entries m)
    (λ n. is_some (get m n)) count (λ n. ap is_some (sym (get-entries m n))) (sym (len-entries m) ∙ sym c.len-count.ensures)) in
    let few : count ≤ MAX_RESOLUTIONS = c.if-count-le-MAX_RESOLUTIONS.true in
    let many : count ≡ len c.args.tables.now.resolutions = c.len-count.ensures ∙ ap len here in (
      λ yes. record {
        few = subst (λ n. n ≤ MAX_RESOLUTIONS) many few;
        numbered = subst (λ rows. AreNumbered (λ n. is_some (get rows n)) (len rows)) here
            (subst (AreNumbered (λ n. is_some (get m n))) c.len-count.ensures (is.0 yes));
      },
      λ holds. is.1 (subst (AreNumbered (λ n. is_some (get m n))) (sym c.len-count.ensures)
          (subst (λ rows. AreNumbered (λ n. is_some (get rows n)) (len rows)) (sym here) holds.numbered)),
    )
