use Rattle.std.proofs.Common.{length, sym, ap, ◌∙◌}
use Rattle.std.proofs.lemmas.List.{length-map}
use Rattle.std.proofs.lemmas.Iterator.Consumers.{count_from_yields_List, YieldsList-from_shown}
use Rattle.std.specs.Map.Iter.{TakesFirst, deref_pair}
use Rattle.gr_core.specs.InMemory.Tables.{choice_entry}
use Rattle.gr_core.proofs.choices.Choices.len_of.Goals as goal

pub returns : goal.returns
returns c =
    let range = c.of_resolution.result in
    let shown = YieldsList-from_shown (TakesFirst deref_pair) deref_pair (λ rest. rest) (λ s t none. ap length none.0) (λ s item t some. some) range in
    count_from_yields_List range c.count.result c.count.ensures.ran shown
    ∙ sym (length-map range choice_entry)
    ∙ ap length c.of_resolution.ensures.entries
