use Rattle.std.proofs.Common.{ap, sym, ◌∙◌, is_some}
use Rattle.std.specs.Cmp.{nat_cmp_total}
use Rattle.std.specs.FinMap as finite
use Rattle.std.specs.FinMap.{nat_cmp-IsAntisymmetric}
use Rattle.gr_core.proofs.Collections.TableLemmas.{is_some-table_of, table_of-insert}
use Rattle.gr_core.proofs.resolutions.Resolutions.put.Goals as goal

pub returns-clause-ok : goal.returns-clause-ok
returns-clause-ok c =
    table_of-insert nat_cmp_total nat_cmp-IsAntisymmetric (λ number. number) (λ resolution. resolution)
    c.self.inside.by_number c.insert.new.self c.args.number c.args.resolution c.in_ok-earlier.ensures.updates
    ∙ ap (λ resolutions. finite.insert resolutions c.args.number c.args.resolution) c.self.view_is

pub returns-clause-earlier : goal.returns-clause-earlier
returns-clause-earlier c =
    c.is_some.ensures
    ∙ ap is_some c.in_ok-earlier.ensures.old
    ∙ sym (is_some-table_of nat_cmp_total nat_cmp-IsAntisymmetric (λ number. number) (λ resolution. resolution) c.self.inside.by_number c.args.number)
    ∙ ap (λ resolutions. is_some (finite.get resolutions c.args.number)) c.self.view_is
