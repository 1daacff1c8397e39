use Rattle.gr_office.proofs.HistoryLemmas.{leaves_its_state}
use Rattle.gr_office.proofs.laws.an_open_office_leaves_its_state.Goals as goal

pub returns : goal.returns
returns g c = leaves_its_state g.S.Store
