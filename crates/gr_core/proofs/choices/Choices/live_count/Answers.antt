use Rattle.std.proofs.Common.{Bool, length, sym, ap, ◌∙◌, count_by, rules, tests}
use Rattle.std.proofs.lemmas.List.Sums.{length-filter}
use Rattle.std.proofs.lemmas.Iterator.Consumers.{count_from_yields_List, YieldsList-at, YieldsList-from_filter, YieldsList-from_shown}
use Rattle.std.specs.Map.Iter.{TakesFirst, deref_pair}
use Rattle.gr_core.specs.declared.choice.ChoiceKey.{ChoiceKey}
use Rattle.gr_core.specs.Parts.Choice.{ChoiceModel, choices_of}
use Rattle.gr_core.specs.Machine.Bookkeeping.{is_live}
use Rattle.gr_core.specs.InMemory.Tables.{choice_entry}
use Rattle.gr_core.proofs.Collections.CountLemmas.{count-map}
use Rattle.gr_core.proofs.choices.Choices.live_count.Goals as goal

pub returns-clause-count : goal.returns-clause-count
returns-clause-count c =
    let range = c.of_resolution.result in
    let live : ChoiceKey × ChoiceModel → Bool = λ entry. is_live c.args.at entry.1 in
    let shown = YieldsList-from_shown (TakesFirst deref_pair) deref_pair (λ rest. rest) (λ s t none. ap length none.0) (λ s item t some. some) range in
    count_from_yields_List c.filter.result c.count.result c.count.ensures.ran
    (YieldsList-from_filter _ (λ entry. live (choice_entry entry)) (YieldsList-at c.filter.ensures.source shown)
    c.filter.ensures.closure (λ x r q k. search (rules, tests)))
    ∙ length-filter (λ entry. live (choice_entry entry)) range
    ∙ sym (count-map live choice_entry range)
    ∙ ap (count_by live) c.of_resolution.ensures.entries
    ∙ sym (length-filter live (choices_of c.args.self.now c.args.resolution))
