-- The order of ballots' keys is one that the lemmas on tables ask for.
use Rattle.std.specs.Cmp.{IsTotalOrder, nat_cmp_total}
use Rattle.std.specs.FinMap.{IsAntisymmetric, nat_cmp-IsAntisymmetric}
use Rattle.gr_core.specs.Parts.Key.{ballot_cmp}
use Rattle.gr_core.proofs.Collections.TextKeys.{text_total, text_only}
use Rattle.gr_core.proofs.Collections.PairKeys.{pair_total, pair_only}

-- it is total
pub ballot_total : IsTotalOrder ballot_cmp
ballot_total = pair_total nat_cmp_total text_total

-- and only equal keys tie in it
pub ballot_only : IsAntisymmetric ballot_cmp
ballot_only = pair_only nat_cmp-IsAntisymmetric text_only
