use Rattle.gr_desk.proofs.LifeLemmas.{keeps_its, one_held}
use Rattle.gr_desk.proofs.life.one_desk_is_under_a_name.Goals as goal

pub returns : goal.returns
returns g c known connected clean =
    let store = g.S.Store in
    one_held store c.tables_made_are_right.ensures c.one_desk_is_held.ensures c.one_desk_of_version_1_is_held.ensures known
    c.args.conn.now connected clean
    (keeps_its store known c.args.conn.now connected c.shown_desks_are_kept.ensures.current
    c.shown_desks_are_kept.ensures.desk1)
