-- The order of texts is one that the lemmas on tables ask for.
use Rattle.std.specs.Cmp.{IsTotalOrder}
use Rattle.std.specs.Cmp.Lexicographic.{nat_list_cmp_total}
use Rattle.std.specs.FinMap.{IsAntisymmetric, nat_cmp-IsAntisymmetric, slice_cmp-IsAntisymmetric}
use Rattle.gr_core.specs.Parts.Key.{text_cmp}

pub text_total : IsTotalOrder text_cmp
text_total = nat_list_cmp_total

pub text_only : IsAntisymmetric text_cmp
text_only = slice_cmp-IsAntisymmetric nat_cmp-IsAntisymmetric
