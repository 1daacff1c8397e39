use Rattle.gr_office.specs.History.{Found}
use Rattle.gr_office.proofs.laws.desks_are_starts.Goals as goal

pub returns : goal.returns
returns c = Found c.accepted-accepted.ensures.valid
