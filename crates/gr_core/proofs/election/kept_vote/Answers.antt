use Rattle.std.proofs.Common.{◌≤◌, length, sym, subst}
use Rattle.gr_count.specs.declared.limits.TheConstants.{MAX_BALLOTS}
use Rattle.gr_core.specs.Parts.Ballot.{ballots_of}
use Rattle.gr_core.proofs.Contents.ElectionLemmas.{few_ballots}
use Rattle.gr_core.proofs.election.kept_vote.Goals as goal

pub received-requires : goal.received-requires
received-requires c =
    subst (λ ballots. length (ballots_of ballots c.args.resolution) ≤ MAX_BALLOTS) (sym c.ballots.ensures)
    (few_ballots c.args.tables.now c.requires.tables c.args.resolution c.requires.ballots)
