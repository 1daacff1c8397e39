use Rattle.std.proofs.Common.{Bool, ap, sym, ◌∙◌, string_bytes, count_by, rules}
use borrow.Author.Tests.{tests}
use Rattle.std.specs.BTreeMap.{values}
use Rattle.std.proofs.lemmas.List.Sums.{length-filter}
use Rattle.std.proofs.lemmas.Iterator.Consumers.{YieldsList-from_filter, YieldsList-from_rest, YieldsList-at, count_from_yields_List}
use Rattle.gr_core.specs.declared.developer.Developer.{Developer}
use Rattle.gr_core.specs.Parts.Developer.{developer_model, is_current, current_count}
use Rattle.gr_core.specs.InMemory.Tables.{developer_entry}
use Rattle.gr_core.proofs.Collections.CountLemmas.{count-map}
use Rattle.gr_core.proofs.Collections.TextKeys.{text_total, text_only}
use Rattle.gr_core.proofs.Collections.TableLemmas.{entries-table_of}
use Rattle.gr_core.proofs.roll.Roll.current_count.Goals as goal

pub returns : goal.returns
returns c =
    let table = c.self.inside.developers in
    let current : Developer → Bool = λ developer. is_current developer.standing in
    count_from_yields_List c.filter.result c.count.result c.count.ensures.ran
    (YieldsList-from_filter _ current
    (YieldsList-at c.filter.ensures.source (YieldsList-from_rest (values table) c.values.ensures.rest))
    c.filter.ensures.closure (λ x r q k. search (rules, tests)))
    ∙ length-filter current (values table)
    ∙ count-map current (λ entry. entry.1) table.entries
    ∙ sym (count-map (λ entry. is_current entry.1.standing) developer_entry table.entries)
    ∙ ap (count_by (λ entry. is_current entry.1.standing)) (sym (entries-table_of text_total text_only string_bytes developer_model table c.self.invariant))
    ∙ ap current_count c.self.view_is
