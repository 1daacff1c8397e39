use Rattle.gr_office.proofs.HistoryLemmas.{every_stop_of}
use Rattle.gr_office.proofs.laws.every_stop_leaves_a_prefix.Goals as goal

pub returns : goal.returns
returns g c = every_stop_of g.S.Store
