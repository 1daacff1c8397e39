use Rattle.std.proofs.Common.{ap, sym, ◌∙◌, is_some, string_bytes}
use Rattle.std.specs.FinMap as finite
use Rattle.gr_core.specs.Parts.Developer.{developer_model}
use Rattle.gr_core.proofs.Collections.TextKeys.{text_total, text_only}
use Rattle.gr_core.proofs.Collections.TableLemmas.{is_some-table_of, table_of-insert}
use Rattle.gr_core.proofs.roll.Roll.put.Goals as goal

pub returns-clause-ok : goal.returns-clause-ok
returns-clause-ok c =
    let login = string_bytes c.args.login in
    let row = developer_model c.args.developer in
    table_of-insert text_total text_only string_bytes developer_model
    c.self.inside.developers c.insert.new.self c.args.login c.args.developer c.in_ok-earlier.ensures.updates
    ∙ ap (λ roll. finite.insert roll login row) c.self.view_is

pub returns-clause-earlier : goal.returns-clause-earlier
returns-clause-earlier c =
    let login = string_bytes c.args.login in
    c.is_some.ensures
    ∙ ap is_some c.in_ok-earlier.ensures.old
    ∙ sym (is_some-table_of text_total text_only string_bytes developer_model c.self.inside.developers login)
    ∙ ap (λ roll. is_some (finite.get roll login)) c.self.view_is
