use Rattle.gr_office.proofs.HistoryLemmas.{every_stop_of}
use Rattle.gr_desk.proofs.any_store.stops_of.Goals as goal

pub returns-clause-stops : goal.returns-clause-stops
returns-clause-stops g c = every_stop_of g.S.Store
