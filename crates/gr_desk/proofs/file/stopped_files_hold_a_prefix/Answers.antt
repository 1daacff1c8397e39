use Rattle.std.proofs.Common.{refl}
use Rattle.std.proofs.Math.Logic.{∥∥₁_map}
use Rattle.sqlite_trees.specs.Tree.{Trees}
use Rattle.sqlite.specs.Files.{over_files, HoldsDatabase}
use Rattle.sqlite.proofs.Theorems.{opens_again}
use Rattle.gr_office.specs.History.{LeavesPrefix}
use Rattle.gr_desk.proofs.StopLemmas.{closed_leaves, stop_holds}
use Rattle.gr_desk.proofs.file.stopped_files_hold_a_prefix.Goals as goal

pub returns-clause-left : goal.returns-clause-left
returns-clause-left g c clean s first attempts is_open made left may =
    let it = c.given_up.result in
    let last = c.args.office in
    let before = closed_leaves over_files last.conn last.conn it refl c.given_up.ensures.quiet clean in
    ∥∥₁_map (opens_again it (c.given_up.ensures.numbered clean) (c.given_up.ensures.sound clean) left may) (λ found.
    let held : (db : Trees) × HoldsDatabase left db × LeavesPrefix s attempts db = (
      found.0,
      found.2,
      c.given_up.ensures.stops s first last attempts is_open made before.0 found.0 (before.1 found.0 found.1),
    ) in held)

pub returns-clause-stopped : goal.returns-clause-stopped
returns-clause-stopped g c clean s attempts contents stop =
    stop_holds c.args.office c.args.office.conn c.given_up.result refl c.given_up.ensures.quiet clean
    (c.given_up.ensures.numbered clean) c.given_up.ensures.alike c.given_up.ensures.stops s attempts contents stop
