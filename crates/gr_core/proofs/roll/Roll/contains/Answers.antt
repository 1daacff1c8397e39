use Rattle.std.proofs.Common.{sym, ap, ◌∙◌, is_some, string_bytes}
use Rattle.std.specs.FinMap as finite
use Rattle.gr_core.specs.Parts.Developer.{developer_model}
use Rattle.gr_core.proofs.Collections.TextKeys.{text_total, text_only}
use Rattle.gr_core.proofs.Collections.TableLemmas.{is_some-table_of}
use Rattle.gr_core.proofs.roll.Roll.contains.Goals as goal

pub returns : goal.returns
returns c =
    c.contains_key.ensures
    ∙ sym (is_some-table_of text_total text_only string_bytes developer_model c.self.inside.developers c.args.login.now)
    ∙ ap (λ roll. is_some (finite.get roll c.args.login.now)) c.self.view_is
