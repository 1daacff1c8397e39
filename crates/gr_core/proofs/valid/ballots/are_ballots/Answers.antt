use Rattle.std.proofs.Common.{ℕ, ap, ◌∙◌, string_bytes, rules, tests}
use Rattle.std.proofs.lemmas.Iterator.{cases_from_all}
use Rattle.std.proofs.lemmas.Iterator.Consumers.{YieldsList-from_rest}
use Rattle.std.specs.FinMap.{entries}
use Rattle.gr_core.specs.Parts.Key.{BallotKey}
use Rattle.gr_core.specs.Parts.Ballot.{BallotModel, ballot_model}
use Rattle.gr_core.specs.InMemory.Ballots.{ByVoter}
use Rattle.gr_core.specs.Desks.Rules.{HoldsOfEach}
use Rattle.gr_core.specs.Desks.Valid.{IsBallotIn}
use Rattle.gr_core.proofs.Contents.BallotKeys.{ballot_total, ballot_only}
use Rattle.gr_core.proofs.Collections.RowTestLemmas.{all_same, both_ways, told_of_each, EachUnder, each_flat}
use Rattle.gr_core.proofs.valid.ballots.are_ballots.Goals as goal

pub returns : goal.returns
returns c =
    let s = c.args.tables.now in
    let table = c.by_resolution.result.now.entries in
    let Holds : BallotKey × BallotModel → Type 0 = λ row. IsBallotIn s row.0.0 row.0.1 row.1 in
    let Part : ℕ × ByVoter → Type 0 = λ entry. HoldsOfEach (λ inner. Holds ((entry.0, string_bytes inner.0), ballot_model inner.1)) entry.1 in
    let Under : ℕ × ByVoter → Type 0 = EachUnder (λ (resolution : ℕ). resolution) string_bytes ballot_model Holds in
    both_ways (both_ways (both_ways (told_of_each Part c.all.result table
    (cases_from_all _ _ c.all.result Part (λ entry. ¬ (Part entry)) c.all.ensures.ran
    (YieldsList-from_rest table c.iter.ensures.rest) (λ x q k. search (rules, tests)) (λ x q k. search (rules, tests))))
    (all_same Part Under table (λ entry. (λ holds. holds.each, λ all. record { each = all }))))
    (each_flat ballot_total ballot_only (λ resolution. resolution) string_bytes ballot_model Holds table s.ballots
    (c.by_resolution.ensures ∙ ap entries c.ballots.ensures)))
    (λ each resolution login row is. each (resolution, login) row is, λ each key row is. each key.0 key.1 row is)
