use Rattle.std.proofs.Common.{◌≡◌, ◌≤◌, length, sym, ap, ◌∙◌, subst}
use Rattle.std.specs.List.{All}
use Rattle.gr_count.specs.declared.limits.TheConstants.{MIN_OPTIONS, MAX_OPTIONS, MAX_BALLOTS}
use Rattle.gr_core.specs.Parts.Ballot.{ballots_of}
use Rattle.gr_core.specs.Desks.Outcome.{place_count}
use Rattle.gr_core.proofs.Contents.ElectionLemmas.{enough_places, few_places, whole_ballots, few_ballots}
use Rattle.gr_core.proofs.election.pairs_of.Goals as goal

pub pairs-requires-clause-few : goal.pairs-requires-clause-few
pairs-requires-clause-few c =
    let places = c.place_count-places.ensures ∙ ap (λ choices. place_count choices c.args.resolution) c.choices.ensures in
    subst (λ n. n ≤ MAX_OPTIONS) (sym places)
    (few_places c.args.tables.now c.requires.tables c.args.resolution c.requires.poll)

pub pairs-requires-clause-enough : goal.pairs-requires-clause-enough
pairs-requires-clause-enough c =
    let places = c.place_count-places.ensures ∙ ap (λ choices. place_count choices c.args.resolution) c.choices.ensures in
    subst (λ n. MIN_OPTIONS ≤ n) (sym places)
    (enough_places c.args.tables.now c.requires.tables c.args.resolution c.requires.poll)

pub pairs-requires-clause-same : goal.pairs-requires-clause-same
pairs-requires-clause-same c =
    let places = c.place_count-places.ensures ∙ ap (λ choices. place_count choices c.args.resolution) c.choices.ensures in
    subst (λ n. All (λ entry. length entry.1.ranks ≡ n) (ballots_of c.ballots.result.now c.args.resolution)) (sym places)
    (subst (λ ballots. All (λ entry. length entry.1.ranks ≡ place_count c.args.tables.now.choices c.args.resolution)
    (ballots_of ballots c.args.resolution))
    (sym c.ballots.ensures)
    (whole_ballots c.args.tables.now c.requires.tables c.args.resolution c.requires.ballots))

pub pairs-requires-clause-room : goal.pairs-requires-clause-room
pairs-requires-clause-room c =
    subst (λ ballots. length (ballots_of ballots c.args.resolution) ≤ MAX_BALLOTS) (sym c.ballots.ensures)
    (few_ballots c.args.tables.now c.requires.tables c.args.resolution c.requires.ballots)
