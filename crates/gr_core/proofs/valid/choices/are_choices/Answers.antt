use Rattle.std.proofs.Common.{IsSomeAnd, ap, ◌∙◌, rules, tests}
use Rattle.std.proofs.lemmas.Iterator.{cases_from_all}
use Rattle.std.proofs.lemmas.Iterator.Consumers.{YieldsList-from_rest}
use Rattle.std.specs.FinMap.{entries, get}
use Rattle.gr_core.specs.declared.choice.ChoiceKey.{ChoiceKey}
use Rattle.gr_core.specs.declared.choice.Choice.{Choice}
use Rattle.gr_core.specs.Parts.Choice.{ChoiceModel}
use Rattle.gr_core.specs.InMemory.Tables.{choice_entry}
use Rattle.gr_core.specs.Desks.Valid.{IsChoice}
use Rattle.gr_core.proofs.Collections.RowTestLemmas.{both_ways, told_of_each, each_shown}
use Rattle.gr_core.proofs.Collections.PairKeys.{choice_total, choice_only}
use Rattle.gr_core.proofs.valid.choices.are_choices.Goals as goal

pub returns : goal.returns
returns c =
    let s = c.args.tables.now in
    let table = c.by_key.result.now.entries in
    let Holds : ChoiceKey × ChoiceModel → Type 0 = λ row. IsSomeAnd (get s.resolutions row.0.resolution)
    (λ resolution. IsChoice s.header.clock s.developers resolution row.1) in
    let Shown : ChoiceKey × Choice → Type 0 = λ entry. Holds (choice_entry entry) in
    both_ways (told_of_each Shown c.all.result table
    (cases_from_all _ _ c.all.result Shown (λ entry. ¬ (Shown entry)) c.all.ensures.ran
    (YieldsList-from_rest table c.iter.ensures.rest) (λ x q k. search (rules, tests)) (λ x q k. search (rules, tests))))
    (each_shown choice_total choice_only choice_entry Holds table s.choices
    (c.by_key.ensures ∙ ap entries c.choices.ensures))
