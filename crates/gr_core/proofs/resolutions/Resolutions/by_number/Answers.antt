use Rattle.std.proofs.Common.{sym, ap, ◌∙◌}
use Rattle.std.proofs.lemmas.List.{map-id}
use Rattle.std.specs.Cmp.{nat_cmp_total}
use Rattle.std.specs.FinMap as finite
use Rattle.std.specs.FinMap.{nat_cmp-IsAntisymmetric}
use Rattle.gr_core.proofs.Collections.TableLemmas.{entries-table_of}
use Rattle.gr_core.proofs.resolutions.Resolutions.by_number.Goals as goal

pub returns : goal.returns
returns c =
    let table = c.self.inside.by_number in
    sym (map-id table.entries)
    ∙ sym (entries-table_of nat_cmp_total nat_cmp-IsAntisymmetric (λ number. number) (λ resolution. resolution) table c.self.invariant)
    ∙ ap finite.entries c.self.view_is
