use Rattle.std.proofs.Common.{arith}
use Rattle.std.specs.Coded.{le_prop}
use Rattle.std.proofs.Math.Logic.{∥∥₁_elim}
use Rattle.gr_count.specs.Options.{has}
use Rattle.gr_count.proofs.Finite.{size_below-some}
use Rattle.gr_count.proofs.outcome.Count.members.Goals as goal

pub returns-clause-not_empty : goal.returns-clause-not_empty
returns-clause-not_empty c =
    let self = c.args.self.now in
    ∥∥₁_elim self.not_empty le_prop (λ some.
    let one = size_below-some self.options (has self.outcome) some.0 (self.below some.0 some.1) some.1 in omega (arith, one))
