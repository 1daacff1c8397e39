use Rattle.std.proofs.Common.{rules, ◌≡◌, ℕ, ◌<◌, ◌≤◌, Bool, false, MatchOption, Option, Some, None, sym, ◌∙◌, arith}
use Rattle.std.specs.Prelude.{IfNone, IfSome, IsTrue}
use Rattle.std.proofs.lemmas.Bool.{false≢true}
use Rattle.std.proofs.lemmas.Iterator.{first_from_Range}
use Rattle.gr_count.specs.Options.{Member, has}
use Rattle.gr_count.proofs.options.OptionSet.first.Goals as goal

-- what the search through a range says, without its lower end
searched : (n : ℕ) (p : ℕ → Bool) (r : Option ℕ)
    → MatchOption r ((k : ℕ) → 0 ≤ k → k < n → p k ≡ false) (λ i. (0 ≤ i) × (i < n) × Unit {0} × ((k : ℕ) → 0 ≤ k → k < i → p k ≡ false))
    → IfSome r (λ i. (k : ℕ) → k < i → ¬ IsTrue (p k)) × IfNone r ((k : ℕ) → k < n → ¬ IsTrue (p k))
searched n p None none = (tt, λ k h is. false≢true (sym (none k (omega arith) h) ∙ is))
searched n p (Some i) found = (λ k h is. false≢true (sym (found.3 k (omega arith) h) ∙ is), tt)

found : (c : goal.After-find)
    → IfSome c.find.result (λ i. (k : ℕ) → k < i → ¬ Member c.args.self k)
    × IfNone c.find.result ((k : ℕ) → k < c.args.options → ¬ Member c.args.self k)
found c =
    searched c.args.options (has c.args.self) c.find.result
    (first_from_Range _ _ _ c.find.result (λ _. Unit {0}) (λ k. has c.args.self k ≡ false) c.find.ensures.ran (λ x q is. tt)
    (λ x q is. search rules))

pub returns-clause-first : goal.returns-clause-first
returns-clause-first c = (found c).0

pub returns-clause-none : goal.returns-clause-none
returns-clause-none c = (found c).1
