use Rattle.std.proofs.Common.{◌≡◌, ◌+◌, ◌-◌, ◌≤◌, ◌↔◌, ℕ, IsTrue, IsSome, length, is_some, sym, ap, refl, subst, arith, rules, tests}
use Rattle.std.specs.Prelude.{nat_eq}
use Rattle.std.specs.List.{All, range_with_len}
use Rattle.std.specs.Cmp.{nat_eq_equiv}
use Rattle.std.specs.FinMap.{get}
use Rattle.std.proofs.lemmas.Iterator.{cases_from_all, YieldsList-from_range}
use Rattle.gr_core.specs.declared.limits.TheConstants.{MAX_CHOICES}
use Rattle.gr_core.specs.Parts.Choice.{choice_key, choices_of}
use Rattle.gr_core.specs.Desks.Valid.{AreNumbered}
use Rattle.gr_core.proofs.Collections.EntryLemmas.{find-passing}
use Rattle.gr_core.proofs.Collections.NumberedRowLemmas.{numbered}
use Rattle.gr_core.proofs.Collections.PairKeys.{choice_total, choice_only}
use Rattle.gr_core.proofs.Collections.RowTestLemmas.{both_ways, told_of_each}
use Rattle.gr_core.proofs.valid.resolutions.are_choices_numbered.Goals as goal

pub returns-then-is_choice_count : goal.returns-then-is_choice_count
returns-then-is_choice_count c =
    let choices = c.args.choices.now in
    let resolution = c.args.resolution in
    let count = c.len_of-count.result in
    let many : count ≡ length (choices_of choices resolution) = c.len_of-count.ensures in
    let numbers = range_with_len 0 count in
    let Holds : ℕ → Type 0 = λ before. IsSome (get choices (choice_key resolution (before + 1))) in
    let told : IsTrue c.all.result ↔ All Holds numbers =
    told_of_each Holds c.all.result numbers
    (cases_from_all _ _ c.all.result Holds (λ before. ¬ (Holds before)) c.all.ensures.ran
    (YieldsList-from_range 0 count count refl (let whole : count - 0 ≡ count = omega arith in whole))
    (λ x q k. search (rules, tests)) (λ x q k. search (rules, tests))) in
    let is : IsTrue c.all.result ↔ AreNumbered (λ n. is_some (get choices (choice_key resolution n))) count =
    both_ways told (numbered choice_total choice_only (choice_key resolution) (λ a b same. ap (λ key. key.number) same)
    (choices_of choices resolution) (λ n. is_some (get choices (choice_key resolution n))) count
    (λ n. ap is_some (find-passing choice_total choice_only (λ key. nat_eq resolution key.resolution) choices
    (choice_key resolution n) (nat_eq_equiv.refl resolution)))
    (sym many)) in
    let inside : (1 ≤ count) × (count ≤ MAX_CHOICES) = c.is_choice_count.ensures.0 c.if-is_choice_count.true in (
      λ yes. record {
        some = subst (λ n. 1 ≤ n) many inside.0;
        few = subst (λ n. n ≤ MAX_CHOICES) many inside.1;
        numbered = subst (AreNumbered (λ n. is_some (get choices (choice_key resolution n)))) many (is.0 yes);
      },
      λ holds. is.1 (subst (AreNumbered (λ n. is_some (get choices (choice_key resolution n)))) (sym many) holds.numbered),
    )
