use Rattle.std.proofs.Common.{◌≤◌, length, sym, ap, ◌∙◌, subst}
use Rattle.std.proofs.lemmas.List.{length-map}
use Rattle.gr_count.specs.declared.limits.TheConstants.{MAX_BALLOTS}
use Rattle.gr_core.specs.Parts.Ballot.{ballots_of}
use Rattle.gr_core.specs.InMemory.Ballots.{ballot_entry}
use Rattle.gr_core.specs.InMemory.Table.{entries_in}
use Rattle.gr_core.proofs.Contents.ElectionLemmas.{few_ballots}
use Rattle.gr_core.proofs.desk.Desk.ballots.Goals as goal

pub returns-clause-bound : goal.returns-clause-bound
returns-clause-bound c =
    let s = c.self.inside.tables in
    let number = c.args.resolution in
    subst (λ n. n ≤ MAX_BALLOTS)
    (sym (ap length c.on_resolution.ensures) ∙ length-map (entries_in c.on_resolution.result) (ballot_entry number))
    (subst (λ ballots. length (ballots_of ballots number) ≤ MAX_BALLOTS) (sym c.ballots.ensures)
    (few_ballots s c.self.invariant.0.tables number c.self.invariant.0.votes.ballots))
