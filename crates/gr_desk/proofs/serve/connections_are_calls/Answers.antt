use Rattle.gr_desk.proofs.ServeLemmas.{connections_are_calls}
use Rattle.gr_desk.proofs.serve.connections_are_calls.Goals as goal

pub returns : goal.returns
returns g c = connections_are_calls g.S.Store _
