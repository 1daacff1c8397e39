use Rattle.std.proofs.Common.{sym, ap, ◌∙◌, string_bytes}
use Rattle.std.specs.FinMap as finite
use Rattle.gr_core.specs.Parts.Developer.{developer_model}
use Rattle.gr_core.proofs.Collections.TextKeys.{text_total, text_only}
use Rattle.gr_core.proofs.Collections.TableLemmas.{entries-table_of, len-table_of}
use Rattle.gr_core.proofs.roll.Roll.developers.Goals as goal

pub returns-clause-entries : goal.returns-clause-entries
returns-clause-entries c =
    sym (entries-table_of text_total text_only string_bytes developer_model c.self.inside.developers c.self.invariant)
    ∙ ap finite.entries c.self.view_is

pub returns-clause-len : goal.returns-clause-len
returns-clause-len c =
    sym (len-table_of text_total text_only string_bytes developer_model c.self.inside.developers c.self.invariant)
    ∙ ap finite.len c.self.view_is
