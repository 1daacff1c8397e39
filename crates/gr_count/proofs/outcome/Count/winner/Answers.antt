use Rattle.std.proofs.Common.{◌≡◌, ℕ, ◌<◌, refl, arith, ◌∙◌, Bool, Option, Some, None}
use Rattle.std.specs.Prelude.{IsTrue, IfSome, IfNone, IsSome}
use Rattle.gr_count.specs.Options.{has, size_below}
use Rattle.gr_count.proofs.Finite.{size_below-one, size_below-nobody, size_below-sole}
use Rattle.gr_count.proofs.outcome.Count.winner.Goals as goal

only_member : (n : ℕ) (p : ℕ → Bool) (first : Option ℕ) → size_below n p ≡ 1 → ((a : ℕ) → IsTrue (p a) → a < n) → IfSome first (λ w. IsTrue (p w))
    → IfSome first (λ w. (a : ℕ) → IsTrue (p a) → a ≡ w)
only_member n p None one below found = found
only_member n p (Some w) one below found = λ a is. size_below-one n p one a w (below a is) (below w found) is found

pub returns-then-is_sole-clause-only : goal.returns-then-is_sole-clause-only
returns-then-is_sole-clause-only c =
    let self = c.args.self.now in
    only_member self.options (has self.outcome) c.first.result (omega arith) self.below c.first.ensures.member

found : (n : ℕ) (p : ℕ → Bool) (first : Option ℕ) → size_below n p ≡ 1 → IfNone first ((a : ℕ) → a < n → ¬ IsTrue (p a)) → IsSome first
found n p None one nobody = absurd (omega (arith, size_below-nobody n p nobody))
found n p (Some w) one nobody = refl

pub returns-then-is_sole-clause-sole : goal.returns-then-is_sole-clause-sole
returns-then-is_sole-clause-sole c =
    let self = c.args.self.now in
    let one : size_below self.options (has self.outcome) ≡ 1 = omega arith in
    (λ _. one, λ _. found self.options (has self.outcome) c.first.result one c.first.ensures.none)

-- a set that has one member alone would have had a winner
pub returns-else-is_sole-clause-there : goal.returns-else-is_sole-clause-there
returns-else-is_sole-clause-there c = λ winner member only.
    let self = c.args.self.now in
    let one : size_below self.options (has self.outcome) ≡ 1 =
    size_below-sole self.options (has self.outcome) winner (self.below winner member) member only in
    absurd (c.if-is_sole.false (c.members-is_sole.ensures.size ∙ one))
