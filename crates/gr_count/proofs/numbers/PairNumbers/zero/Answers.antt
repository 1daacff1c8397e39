use Rattle.std.proofs.Common.{[], refl}
use Rattle.gr_count.specs.declared.limits.TheConstants.{MAX_OPTIONS}
use Rattle.gr_count.proofs.Fill.{Blank-replicate}
use Rattle.gr_count.proofs.Sets.{IsZeroRow}
use Rattle.gr_count.proofs.numbers.PairNumbers.zero.Goals as goal

pub returns : goal.returns
returns c = λ a b. Blank-replicate IsZeroRow c.zero.result (record { numbers = [] }) c.zero.ensures (λ k. refl) MAX_OPTIONS a b
