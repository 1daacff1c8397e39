use Rattle.std.proofs.Common.{ℕ, Bool, true, false, cond, List, ap₂, subst, sym}
use Rattle.sqlite_disk.specs.Events.{Event, replay}
use Rattle.sqlite_wal.specs.Recovery.{Image}
use Rattle.sqlite_wal.specs.Files.{image_at}
use Rattle.gr_desk.specs.Openings.{IsNotConnected}
use Rattle.gr_desk.proofs.OpeningLemmas.{IfSome-map, leaves_start, unconnected_so}
use Rattle.gr_desk.proofs.SumLemmas.{none_found}
use Rattle.gr_desk.proofs.no_office.open_connection.Goals as goal

abbrev image : List ℕ → List ℕ → Image
image log db = record { log = log; db = db }

abbrev seen : List ℕ → List ℕ → Bool → List Event → List ℕ
seen log db is_log history = (replay (cond is_log log db) history).seen

pub returns-clause-failed : goal.returns-clause-failed
returns-clause-failed g c =
    let start = g.S.Start in
    let at = leaves_start start.is_mixing in
    subst (IsNotConnected (image_at start) c.unconnected.result.fault) (sym c.unconnected.ensures.left)
    (unconnected_so (image_at start) c.in-Err.error _ c.unconnected.ensures.fault c.unconnected.ensures.store c.in-Err.left
    (IfSome-map c.in-Err.left (λ left (files, log, db, told). (
      files,
      record {
        seen = ap₂ image (ap₂ (seen start.log start.db) log.0 log.1) (ap₂ (seen start.log start.db) db.0 db.1);
        only = λ left may. ap₂ image
            (at files.log.is_log true start.log start.db files.log.key files.log.calls.log.events left.log log.0 log.1 may.0)
            (at files.db.is_log false start.log start.db files.db.key files.db.calls.log.events left.db db.0 db.1 may.1);
      },
      told,
    )) c.in-Err.ensures.cause))

pub returns-in-Ok-open_from-clause-right_sums : goal.returns-in-Ok-open_from-clause-right_sums
returns-in-Ok-open_from-clause-right_sums g c clean wrong =
    none_found (image_at g.S.Start) wrong _ (c.in-Ok-open_from.ensures.found clean).reads
