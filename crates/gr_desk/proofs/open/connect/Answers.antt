use Rattle.gr_desk.proofs.LifeLemmas.{keeps_its}
use Rattle.gr_desk.proofs.open.connect.Goals as goal

pub returns-clause-keeps : goal.returns-clause-keeps
returns-clause-keeps g c =
    keeps_its g.H.Store.Store ((g.H.Host.known c.args.host.now).content c.args.file.now) c.in_ok-conn.conn c.in_ok-conn.ensures.found
    c.shown_desks_are_kept.ensures.current c.shown_desks_are_kept.ensures.desk1
