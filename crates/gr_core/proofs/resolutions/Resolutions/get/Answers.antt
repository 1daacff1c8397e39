use Rattle.std.proofs.Common.{◌≡◌, Option, Some, None, option_map, refl, sym, ap, ◌∙◌}
use Rattle.std.specs.Cmp.{nat_cmp_total}
use Rattle.std.specs.FinMap as finite
use Rattle.std.specs.FinMap.{nat_cmp-IsAntisymmetric}
use Rattle.gr_core.proofs.Collections.TableLemmas.{get-table_of}
use Rattle.gr_core.proofs.resolutions.Resolutions.get.Goals as goal

itself : {A : Type 0} (o : Option A) → o ≡ option_map (λ x. x) o
itself None = refl
itself (Some x) = refl

pub returns : goal.returns
returns c =
    c.copied.ensures ∙ c.get.ensures.value ∙ itself _
    ∙ sym (get-table_of nat_cmp_total nat_cmp-IsAntisymmetric (λ number. number) (λ resolution. resolution) c.self.inside.by_number c.args.number)
    ∙ ap (λ resolutions. finite.get resolutions c.args.number) c.self.view_is
