use Rattle.std.proofs.Common.{sym, ap, ◌∙◌}
use Rattle.std.specs.Cmp.{nat_cmp_total}
use Rattle.std.specs.FinMap as finite
use Rattle.std.specs.FinMap.{nat_cmp-IsAntisymmetric}
use Rattle.gr_core.proofs.Collections.TableLemmas.{len-table_of}
use Rattle.gr_core.proofs.resolutions.Resolutions.len.Goals as goal

pub returns : goal.returns
returns c =
    c.len.ensures.len
    ∙ sym (len-table_of nat_cmp_total nat_cmp-IsAntisymmetric (λ number. number) (λ resolution. resolution) c.self.inside.by_number c.self.invariant)
    ∙ ap finite.len c.self.view_is
