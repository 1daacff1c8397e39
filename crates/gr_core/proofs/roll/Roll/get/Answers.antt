use Rattle.std.proofs.Common.{sym, ap, ◌∙◌, option_map, string_bytes}
use Rattle.std.specs.FinMap as finite
use Rattle.gr_core.specs.Parts.Developer.{developer_model}
use Rattle.gr_core.proofs.Collections.TextKeys.{text_total, text_only}
use Rattle.gr_core.proofs.Collections.TableLemmas.{get-table_of, option_map-copied}
use Rattle.gr_core.proofs.roll.Roll.get.Goals as goal

pub returns : goal.returns
returns c =
    option_map-copied developer_model c.get.result
    ∙ ap (option_map developer_model) c.get.ensures.value
    ∙ sym (get-table_of text_total text_only string_bytes developer_model c.self.inside.developers c.args.login.now)
    ∙ ap (λ roll. finite.get roll c.args.login.now) c.self.view_is
