use Rattle.std.proofs.Common.{◌≡◌, refl}
use Rattle.gr_count.specs.declared.limits.TheConstants.{MAX_OPTIONS}
use Rattle.gr_count.proofs.Fill.{Blank-replicate}
use Rattle.gr_count.proofs.numbers.OptionNumbers.zero.Goals as goal

pub returns : goal.returns
returns c = λ a. Blank-replicate (λ n. n ≡ 0) 0 0 refl refl MAX_OPTIONS a
