use Rattle.std.proofs.Common.{IsSomeAnd, string_bytes, String, rules, tests}
use Rattle.std.specs.declared.alloc.Global.{Global}
use Rattle.std.proofs.lemmas.Iterator.{cases_from_all}
use Rattle.std.proofs.lemmas.Iterator.Consumers.{YieldsList-from_rest}
use Rattle.std.specs.FinMap.{get}
use Rattle.gr_core.specs.declared.sponsor.Sponsorship.{Sponsorship}
use Rattle.gr_core.specs.Desks.Valid.{IsSponsorship}
use Rattle.gr_core.proofs.Collections.RowTestLemmas.{both_ways, told_of_each}
use Rattle.gr_core.proofs.valid.sponsors.belong.Goals as goal

pub returns : goal.returns
returns c =
    let s = c.args.tables.now in
    let table = c.args.sponsors.now.entries in
    let Holds : String Global × Sponsorship → Type 0 = λ entry. IsSomeAnd (get s.choices c.args.key)
    (λ choice. IsSponsorship s.developers choice (string_bytes entry.0) entry.1) in
    both_ways (told_of_each Holds c.all.result table
    (cases_from_all _ _ c.all.result Holds (λ entry. ¬ (Holds entry)) c.all.ensures.ran
    (YieldsList-from_rest table c.iter.ensures.rest) (λ x q k. search (rules, tests)) (λ x q k. search (rules, tests))))
    (λ all. record { each = all }, λ holds. holds.each)
