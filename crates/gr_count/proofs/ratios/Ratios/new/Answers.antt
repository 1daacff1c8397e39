use Rattle.std.proofs.Common.{◌≡◌, ℕ, rules, arith, inl, inr}
use Rattle.std.proofs.lemmas.Bool.{cases_lt}
use Rattle.gr_count.specs.Options.{number_of}
use Rattle.gr_count.proofs.ratios.Ratios.new.Goals as goal

pub invariant_of-result-clause-positive : goal.invariant_of-result-clause-positive
invariant_of-result-clause-positive c = λ a h.
    let one : ◌≡◌ {A = ℕ} (number_of c.of-ratios.result a) 1 = let p = c.of-ratios.ensures.within a h in search rules in
    omega arith

pub invariant_of-result-clause-small : goal.invariant_of-result-clause-small
invariant_of-result-clause-small c = λ a.
    elim (cases_lt 0 (number_of c.of-ratios.result a)) [
      | inl h ↦
          let one : ◌≡◌ {A = ℕ} (number_of c.of-ratios.result a) 1 = let p = c.of-ratios.ensures.within a (c.of-ratios.ensures.below a h) in search rules in
          omega arith
      | inr h ↦ omega arith
    ]

pub returns-clause-ratios : goal.returns-clause-ratios
returns-clause-ratios c = λ a h. let p = c.of-ratios.ensures.within a h in search rules
