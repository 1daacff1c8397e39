use Rattle.std.proofs.Common.{◌≡◌, ◌≤◌, Some, None, map, length, string_bytes, sym, ap, ◌∙◌, subst}
use Rattle.std.specs.List.{All}
use Rattle.std.specs.Option.{option_copied}
use Rattle.std.specs.FinMap.{from_entries}
use Rattle.std.proofs.lemmas.List.{length-map}
use Rattle.gr_count.specs.declared.limits.TheConstants.{MAX_BALLOTS}
use Rattle.gr_count.specs.PairwiseCount.{IsPairwiseCountOf}
use Rattle.gr_core.specs.Parts.Ballot.{ballot_model, voter_of}
use Rattle.gr_core.proofs.Contents.PairwiseCountLemmas.{ballots_of-table, voters_under}
use Rattle.gr_core.proofs.Collections.WalkLemmas.{all-mapped}
use Rattle.gr_core.proofs.ballots.Ballots.pairs.Goals as goal

pub added_up-requires-clause-same : goal.added_up-requires-clause-same
added_up-requires-clause-same c =
    let rows = ballots_of-table c.self.inside.by_resolution c.self.invariant c.args.self.now c.self.view_is
    c.args.resolution (Some c.in-Some.ballots.now) (sym c.get.ensures.value ∙ ap option_copied c.in-Some.is) in
    all-mapped (λ entry. length entry.1.ranks ≡ c.args.places)
    (λ entry. ((c.args.resolution, string_bytes entry.0), ballot_model entry.1))
    c.in-Some.ballots.now.entries
    (subst (All (λ entry. length entry.1.ranks ≡ c.args.places)) rows c.requires.same)

pub added_up-requires-clause-room : goal.added_up-requires-clause-room
added_up-requires-clause-room c =
    let rows = ballots_of-table c.self.inside.by_resolution c.self.invariant c.args.self.now c.self.view_is
    c.args.resolution (Some c.in-Some.ballots.now) (sym c.get.ensures.value ∙ ap option_copied c.in-Some.is) in
    subst (λ n. n ≤ MAX_BALLOTS)
    (ap length rows
    ∙ length-map c.in-Some.ballots.now.entries
    (λ entry. ((c.args.resolution, string_bytes entry.0), ballot_model entry.1)))
    c.requires.room

pub returns-in-Some-clause-tally : goal.returns-in-Some-clause-tally
returns-in-Some-clause-tally c =
    let rows = ballots_of-table c.self.inside.by_resolution c.self.invariant c.args.self.now c.self.view_is
    c.args.resolution (Some c.in-Some.ballots.now) (sym c.get.ensures.value ∙ ap option_copied c.in-Some.is) in
    subst (λ voters. IsPairwiseCountOf c.added_up.result (from_entries voters))
    (sym (ap (map voter_of) rows ∙ voters_under c.args.resolution c.in-Some.ballots.now.entries))
    c.added_up.ensures.tally

pub returns-in-None-clause-tally : goal.returns-in-None-clause-tally
returns-in-None-clause-tally c =
    let rows = ballots_of-table c.self.inside.by_resolution c.self.invariant c.args.self.now c.self.view_is
    c.args.resolution None (sym c.get.ensures.value ∙ ap option_copied c.in-None.is) in
    subst (λ these. IsPairwiseCountOf c.new.result (from_entries (map voter_of these))) (sym rows) c.new.ensures.vote
