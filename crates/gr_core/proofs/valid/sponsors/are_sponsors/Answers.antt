use Rattle.std.proofs.Common.{IsSomeAnd, ap, ◌∙◌, string_bytes, rules, tests}
use Rattle.std.proofs.lemmas.Iterator.{cases_from_all}
use Rattle.std.proofs.lemmas.Iterator.Consumers.{YieldsList-from_rest}
use Rattle.std.specs.FinMap.{entries, get}
use Rattle.gr_core.specs.declared.choice.ChoiceKey.{ChoiceKey}
use Rattle.gr_core.specs.declared.sponsor.Sponsorship.{Sponsorship}
use Rattle.gr_core.specs.Parts.Key.{SponsorKey}
use Rattle.gr_core.specs.InMemory.Sponsors.{ByLogin}
use Rattle.gr_core.specs.Desks.Rules.{HoldsOfEach}
use Rattle.gr_core.specs.Desks.Valid.{IsSponsorship}
use Rattle.gr_core.proofs.Collections.RowTestLemmas.{all_same, both_ways, told_of_each, EachUnder, each_flat}
use Rattle.gr_core.proofs.Collections.PairKeys.{choice_total, choice_only, pair_total, pair_only}
use Rattle.gr_core.proofs.Collections.TextKeys.{text_total, text_only}
use Rattle.gr_core.proofs.valid.sponsors.are_sponsors.Goals as goal

pub returns : goal.returns
returns c =
    let s = c.args.tables.now in
    let table = c.by_choice.result.now.entries in
    let Holds : SponsorKey × Sponsorship → Type 0 = λ row. IsSomeAnd (get s.choices row.0.0)
    (λ choice. IsSponsorship s.developers choice row.0.1 row.1) in
    let Part : ChoiceKey × ByLogin → Type 0 = λ entry. HoldsOfEach (λ inner. Holds ((entry.0, string_bytes inner.0), inner.1)) entry.1 in
    let Under : ChoiceKey × ByLogin → Type 0 = EachUnder (λ (key : ChoiceKey). key) string_bytes (λ (x : Sponsorship). x) Holds in
    both_ways (both_ways (both_ways (told_of_each Part c.all.result table
    (cases_from_all _ _ c.all.result Part (λ entry. ¬ (Part entry)) c.all.ensures.ran
    (YieldsList-from_rest table c.iter.ensures.rest) (λ x q k. search (rules, tests)) (λ x q k. search (rules, tests))))
    (all_same Part Under table (λ entry. (λ holds. holds.each, λ all. record { each = all }))))
    (each_flat (pair_total choice_total text_total) (pair_only choice_only text_only) (λ key. key) string_bytes
    (λ sponsorship. sponsorship) Holds table s.sponsors
    (c.by_choice.ensures ∙ ap entries c.sponsors.ensures)))
    (λ each key login row is. each (key, login) row is, λ each key row is. each key.0 key.1 row is)
