use Rattle.std.proofs.Common.{◌≡◌, ℕ, ◌<◌, ◌↔◌, IsTrue, slice_index, sym, ap, ◌∙◌, subst}
use Rattle.std.specs.List.{All}
use Rattle.gr_count.specs.Election.{IsKept}
use Rattle.gr_count.specs.Rounds.{IsNumberOfRounds, IsDroppedIn, IsInOutcome}
use Rattle.gr_count.specs.Shown.{election_by_voters, election_of, ratio_at, keeps, rounds_in, round_of_drop, is_member}
use Rattle.std.specs.Prelude.{IfSome, IsSomeAnd}
use Rattle.gr_core.specs.Parts.Ballot.{vote_of}
use Rattle.gr_core.specs.InMemory.KeptPairs.{vote_at}
use Rattle.gr_core.specs.Parts.Choice.{IsRatio}
use Rattle.gr_core.specs.Desks.Outcome.{on_ballot, ratios_on_ballot, election_at}
use Rattle.gr_core.proofs.Contents.ElectionLemmas.{ratios_in_range, few_developers}
use Rattle.gr_core.proofs.Validity.KeptPairsLemmas.{pairs_told}
use Rattle.gr_core.proofs.election.count_of.Goals as goal

pub ratios-ratios-requires-clause-ratios : goal.ratios-ratios-requires-clause-ratios
ratios-ratios-requires-clause-ratios c =
    subst (λ choices. All (λ entry. IsRatio entry.1.ratio) (on_ballot choices c.args.resolution)) (sym c.choices.ensures)
    (ratios_in_range c.args.tables.now c.requires.tables c.args.resolution)

pub count-requires-clause-developers : goal.count-requires-clause-developers
count-requires-clause-developers c =
    few_developers c.args.tables.now c.requires.tables c.args.resolution c.args.poll c.requires.poll

pub returns : goal.returns
returns c =
    let s = c.args.tables.now in
    let resolution = c.args.resolution in
    let told = subst (λ found. IfSome found (λ pairs. IsSomeAnd (vote_at c.args.kept.now resolution) (λ vote. vote.pairs ≡ pairs.now)))
    c.unwrap-pairs.ensures c.pairs.ensures.some in
    let are = pairs_told s c.args.kept.now c.requires.kept resolution c.unwrap-pairs.result.now told in
    let pairs = c.unwrap-pairs.result.now in
    let ratios = c.ratios-ratios.result in
    let count = c.count.result in
    let ratio : (option : ℕ) → ratio_at ratios option ≡ slice_index (ratios_on_ballot s.choices resolution) option =
    λ option. c.ratios-ratios.ensures.ratios option
    ∙ ap (λ choices. slice_index (ratios_on_ballot choices resolution) option) c.choices.ensures in
    let same : election_of pairs c.args.poll.developers ratios ≡ election_at s resolution c.args.poll =
    c.pairs_of_a_vote_have_its_preference_counts.ensures pairs
    (vote_of s.ballots resolution) c.args.poll.developers ratios are.tally
    ∙ (λ i. election_by_voters (are.options i) (vote_of s.ballots resolution) c.args.poll.developers
    (λ option. ratio option i)) in
    record {
      options = c.count.ensures.options ∙ are.options;
      kept = subst (λ e. (a : ℕ) → IsTrue (keeps count a) ↔ IsKept e a) same c.count.ensures.kept;
      rounds = subst (λ e. IsNumberOfRounds e (rounds_in count)) same c.count.ensures.rounds;
      dropped =
          subst (λ e. (round a b : ℕ) → IsDroppedIn e round a b ↔ ((0 < round) × (round_of_drop count a b ≡ round))) same
          c.count.ensures.dropped;
      outcome = subst (λ e. (a : ℕ) → IsTrue (is_member count a) ↔ IsInOutcome e a) same c.count.ensures.outcome;
    }
