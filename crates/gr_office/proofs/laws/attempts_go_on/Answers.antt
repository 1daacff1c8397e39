use Rattle.gr_office.specs.History.{keeper}
use Rattle.gr_office.proofs.CrashLemmas.{go_on}
use Rattle.gr_office.proofs.laws.attempts_go_on.Goals as goal

pub returns : goal.returns
returns g c = go_on (keeper g.S.Store)
