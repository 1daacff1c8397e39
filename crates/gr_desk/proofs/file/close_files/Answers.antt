use Rattle.std.proofs.Common.{refl, sym}
use Rattle.sqlite.specs.Files.{over_files}
use Rattle.gr_desk.proofs.StopLemmas.{closed_leaves, copied_alone, copied_left}
use Rattle.gr_desk.proofs.file.close_files.Goals as goal

pub returns-in-Ok-clause-copied : goal.returns-in-Ok-clause-copied
returns-in-Ok-clause-copied g c last same =
    copied_alone last c.args.conn c.in-Ok.files (sym same) c.in-Ok.ensures.copied c.stops_of.ensures.stays c.stops_of.ensures.stops

pub returns-in-Err-clause-failed : goal.returns-in-Err-clause-failed
returns-in-Err-clause-failed g c last same clean s first calls is_open made db may =
    let before = closed_leaves over_files last.conn c.args.conn c.in-Err.store (sym same) c.in-Err.ensures.err.0.quiet clean in
    c.stops_of.ensures.stops s first last calls is_open made before.0 db (before.1 db may)

pub returns-in-Ok-clause-left : goal.returns-in-Ok-clause-left
returns-in-Ok-clause-left g c =
    copied_left c.args.conn c.in-Ok.files c.in-Ok.ensures.copied c.stops_of.ensures.stays g.met.D.Disk.seen_may_stay

pub returns-in-Err-clause-over : goal.returns-in-Err-clause-over
returns-in-Err-clause-over g c =
    closed_leaves over_files c.args.conn c.args.conn c.in-Err.store refl c.in-Err.ensures.err.0.quiet
