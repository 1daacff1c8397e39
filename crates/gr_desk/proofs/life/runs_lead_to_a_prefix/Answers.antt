use Rattle.gr_desk.proofs.LifeLemmas.{runs_lead}
use Rattle.gr_desk.proofs.life.runs_lead_to_a_prefix.Goals as goal

pub returns : goal.returns
returns g c = runs_lead g.H.Store.Store c.commands_keep_a_desk_valid.ensures _ _
