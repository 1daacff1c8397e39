use Rattle.std.proofs.Common.{ap, ◌∙◌}
use Rattle.gr_core.specs.Parts.Ballot.{votes_received}
use Rattle.gr_core.proofs.Validity.KeptPairsLemmas.{received_told}
use Rattle.gr_core.proofs.desk.Desk.received.Goals as goal

pub returns-clause-received : goal.returns-clause-received
returns-clause-received c =
    c.received.ensures
    ∙ received_told c.self.inside.tables c.self.invariant.0 c.self.inside.kept c.self.invariant.1 c.args.resolution
    ∙ ap (λ s. votes_received s.ballots c.args.resolution) c.self.view_is
