use Rattle.gr_desk.proofs.StopLemmas.{left_of}
use Rattle.gr_desk.proofs.file.give_up.Goals as goal

pub returns : goal.returns
returns g c =
    left_of c.args.conn c.into_store.result c.close.result c.into_store.ensures.quiet c.into_store.ensures.numbered
    c.into_store.ensures.sound c.close.ensures g.met.D.Disk.seen_may_stay
