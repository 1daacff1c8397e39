use Rattle.std.proofs.Common.{List, ℕ, ap, ◌∙◌, String, rules, tests}
use Rattle.std.specs.declared.alloc.Global.{Global}
use Rattle.gr_core.specs.declared.developer.Developer.{Developer}
use Rattle.std.proofs.lemmas.Iterator.{cases_from_all}
use Rattle.std.proofs.lemmas.Iterator.Consumers.{YieldsList-from_rest}
use Rattle.std.specs.FinMap.{entries}
use Rattle.gr_core.specs.Parts.Developer.{DeveloperModel, IsDeveloper}
use Rattle.gr_core.specs.InMemory.Tables.{developer_entry}
use Rattle.gr_core.proofs.Collections.RowTestLemmas.{both_ways, told_of_each, each_shown}
use Rattle.gr_core.proofs.Collections.TextKeys.{text_total, text_only}
use Rattle.gr_core.proofs.valid.developers.each_is_developer.Goals as goal

abbrev Holds : List ℕ × DeveloperModel → Type 0
Holds row = IsDeveloper row.0 row.1

pub returns : goal.returns
returns c =
    let table = c.developers.result.now.entries in
    let Shown : String Global × Developer → Type 0 = λ entry. Holds (developer_entry entry) in
    both_ways (told_of_each Shown c.all.result table
    (cases_from_all _ _ c.all.result Shown (λ entry. ¬ (Shown entry)) c.all.ensures.ran
    (YieldsList-from_rest table c.iter.ensures.rest) (λ x q k. search (rules, tests)) (λ x q k. search (rules, tests))))
    (each_shown text_total text_only developer_entry Holds table c.args.tables.now.developers
    (c.developers.ensures.entries ∙ ap entries c.roll.ensures))
