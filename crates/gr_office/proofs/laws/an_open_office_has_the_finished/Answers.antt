use Rattle.gr_office.specs.History.{keeper}
use Rattle.gr_office.proofs.CrashLemmas.{open_has}
use Rattle.gr_office.proofs.laws.an_open_office_has_the_finished.Goals as goal

pub returns : goal.returns
returns g c = open_has (keeper g.S.Store)
