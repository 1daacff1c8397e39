use Rattle.std.proofs.Common.{ℕ, ap, ◌∙◌, rules, tests}
use Rattle.std.proofs.lemmas.Iterator.{cases_from_all}
use Rattle.std.proofs.lemmas.Iterator.Consumers.{YieldsList-from_rest}
use Rattle.std.specs.Cmp.{nat_cmp_total}
use Rattle.std.specs.FinMap.{entries, nat_cmp-IsAntisymmetric}
use Rattle.gr_core.specs.declared.resolution.Resolution.{Resolution}
use Rattle.gr_core.specs.Desks.Valid.{IsResolution}
use Rattle.gr_core.proofs.Collections.RowTestLemmas.{both_ways, told_of_each, each_row_of}
use Rattle.gr_core.proofs.valid.resolutions.are_resolutions.Goals as goal

pub returns : goal.returns
returns c =
    let s = c.args.tables.now in
    let table = c.by_number.result.now.entries in
    let Holds : ℕ × Resolution → Type 0 = λ row. IsResolution s.header.clock s row.0 row.1 in
    both_ways (told_of_each Holds c.all.result table
    (cases_from_all _ _ c.all.result Holds (λ entry. ¬ (Holds entry)) c.all.ensures.ran
    (YieldsList-from_rest table c.iter.ensures.rest) (λ x q k. search (rules, tests)) (λ x q k. search (rules, tests))))
    (each_row_of nat_cmp_total nat_cmp-IsAntisymmetric Holds table s.resolutions
    (c.by_number.ensures ∙ ap entries c.resolutions.ensures))
