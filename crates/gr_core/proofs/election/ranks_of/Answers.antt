use Rattle.std.proofs.Common.{◌≡◌, ◌↔◌, ◌∙◌, subst}
use Rattle.std.specs.Prelude.{IfSome, IsOk, IsSomeAnd}
use Rattle.gr_count.specs.Ballot.{IsBallot}
use Rattle.gr_core.specs.Desks.Outcome.{place_count}
use Rattle.gr_core.specs.InMemory.KeptPairs.{vote_at}
use Rattle.gr_core.proofs.Validity.KeptPairsLemmas.{pairs_told}
use Rattle.gr_core.proofs.election.ranks_of.Goals as goal

-- the kept counts have as many options as the ballot has places
pub returns-clause-ok : goal.returns-clause-ok
returns-clause-ok c =
    let told = subst (λ found. IfSome found (λ pairs. IsSomeAnd (vote_at c.args.kept.now c.args.resolution) (λ vote. vote.pairs ≡ pairs.now)))
    c.unwrap-pairs.ensures c.pairs.ensures.some in
    let are = pairs_told c.args.tables.now c.args.kept.now c.requires.kept c.args.resolution c.unwrap-pairs.result.now told in
    let read = subst (λ places. IsOk c.read.result ↔ IsBallot places c.as_bytes.result.now) (c.options.ensures.value ∙ are.options)
    c.read.ensures.ok in
    subst (λ text. IsOk c.read.result ↔ IsBallot (place_count c.args.tables.now.choices c.args.resolution) text)
    c.as_bytes.ensures.value read
