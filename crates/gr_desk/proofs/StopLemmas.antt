-- What may be left of a store whose connection was closed, and of the files of one that was copied.
use Rattle.std.proofs.Common.{◌≡◌, Bool, List, subst, sym, arith, ap, refl, IsTrue}
use Rattle.std.proofs.Math.Logic.{∥∥₁_map}
use Rattle.sqlite_disk.specs.declared.Disk as disk
use Rattle.sqlite_disk.specs.declared.Files.{Files}
use Rattle.sqlite_trees.specs.declared.store.Store.{Ghosts}
use Rattle.sqlite_trees.specs.Tree.{Trees}
use Rattle.sqlite_trees.specs.View.{IsClean, IsQuiet, doubt}
use Rattle.sqlite_pool.specs.Pool as pool
use Rattle.sqlite_wal.specs.Files.{outcomes}
use Rattle.sqlite_wal.specs.Reads.{AreClean}
use Rattle.sqlite_wal.specs.Recovery.{Image}
use Rattle.sqlite_store.specs.declared.store.FileStore.{FileStore}
use Rattle.sqlite.specs.Closing.{HoldsAlone, IsCopied}
use Rattle.sqlite_store.specs.FileStore as store
use Rattle.sqlite_catalog.specs.Listing.{IsSound}
use Rattle.sqlite.specs.Files.{file_state, image_of, over_files, HoldsDatabase}
use Rattle.sqlite.specs.Held.{AreDatabases, Held, state}
use Rattle.sqlite.specs.State.{HasCleanDisk}
use Rattle.sqlite.proofs.Theorems.{opens_again}
use Rattle.gr_core.specs.Desks.State.{State}
use Rattle.gr_store.specs.Commits.{LeavesDesk}
use Rattle.gr_office.specs.Crash.{EveryStopLeavesAPrefix}
use Rattle.gr_office.specs.History.{Attempt, LeavesPrefix, keeper}
use Rattle.gr_office.specs.Office.{Office, IsOpenWith}
use Rattle.gr_desk.specs.Life.{AreLeftOf, IsLeftOf}
use Rattle.sqlite_wal.proofs.LogLemmas.{SeenMayStay}
use Rattle.gr_desk.specs.Stops.{FileAloneHoldsAPrefix, IsStoppedAt}

-- a crash leaves of it what it left of the connection
pub closed_leaves : {S : Type 0} (g : Ghosts S) (conn closed : Held S) (it : S) → closed ≡ conn
    → IsQuiet g.view g.faults g.recovers g.is_shielded closed.store it → IsClean (g.view it)
    → HasCleanDisk (state g conn) × ((db : Trees) → g.recovers it db → (state g conn).may_leave db)
closed_leaves {S} g conn closed it same quiet clean =
    let was_clean : HasCleanDisk (state g closed) = omega (arith, quiet.clean) in
    subst (λ (c : Held S). HasCleanDisk (state g c) × ((db : Trees) → g.recovers it db → (state g c).may_leave db)) same
    (was_clean, λ db may. quiet.outcomes db may)

-- the files hold what the connection committed last, which a stop might have left before
pub copied_alone : {D : Type 0} {g : disk.Ghosts D} (last : Office (FileStore D g)) (closed : Held (FileStore D g))
    (files : Files D) → closed ≡ last.conn → (AreClean g files.log files.db → IsCopied closed files)
    → (IsTrue (file_state closed).is_open → (file_state closed).may_leave (file_state closed).committed.trees)
    → EveryStopLeavesAPrefix (keeper {S = FileStore D g} over_files) → FileAloneHoldsAPrefix last files
copied_alone {D} {g} last closed files same copies stays stops clean s first attempts is_open made =
    let copied = copies clean in
    let it : Left last.conn = subst Left same (copied.was_clean, stays copied.was_open, copied.left) in
    let db = (file_state last.conn).committed.trees in
    (db, stops s first last attempts is_open made it.0 db it.1, own, it.2)
  where
    Left : Held (FileStore D g) → Type 0
    Left conn =
        HasCleanDisk (file_state conn) × (file_state conn).may_leave (file_state conn).committed.trees
        × ((left : Image) → outcomes g files.log files.db left → HoldsAlone left (file_state conn).committed.trees)

    own : (t : State) → IsOpenWith over_files t last → LeavesDesk t (file_state last.conn).committed.trees
    own t is =
        let kept = is.kept in
        ((file_state last.conn).now, kept.tables, kept.holds, ap (λ d. d.trees) kept.settled.committed)

-- what a stop leaves of an office's own files, whose connection is ended after it
pub stop_holds : {D : Type 0} {g : disk.Ghosts D} (last : Office (FileStore D g)) (closed : Held (FileStore D g))
    (ended : FileStore D g) → closed ≡ last.conn
    → IsQuiet store.view store.faults store.recovers store.is_shielded closed.store ended → IsClean (store.view ended)
    → IsTrue (store.view ended).is_numbered → (store.view ended).is_numbered ≡ (store.view closed.store).is_numbered
    → EveryStopLeavesAPrefix (keeper {S = FileStore D g} over_files)
    → (s : State) (attempts : List Attempt) (contents : Image) → IsStoppedAt s attempts last contents
    → ∥ ((db : Trees) × HoldsDatabase contents db × LeavesPrefix s attempts db) ∥₁
stop_holds {D} {g} last closed ended same quiet clean numbered alike stops s attempts contents stop =
    let was_clean : HasCleanDisk (file_state last.conn)
    = subst (λ (c : Held (FileStore D g)). HasCleanDisk (file_state c)) same (omega (arith, quiet.clean)) in
    let of_prefix = λ (db : Trees) (may : store.recovers last.conn.store db).
    stops s stop.first last attempts stop.from_state stop.made was_clean db may in
    let was_numbered : IsTrue (store.view last.conn.store).is_numbered
    = subst (λ (c : Held (FileStore D g)). IsTrue (store.view c.store).is_numbered) same (subst IsTrue alike numbered) in
    ∥∥₁_map (opens_again last.conn.store was_numbered (λ db may.
    let (t, prefix, (held, tables, holds, is)) = of_prefix db may in
    (held.schema, subst (IsSound held.schema) (sym is) tables.sound)) contents stop.may)
    (λ found. let held : (db : Trees) × HoldsDatabase contents db × LeavesPrefix s attempts db
    = (found.0, found.2, of_prefix found.0 found.1) in held)

no_doubt : (a : Bool) → IsTrue a → doubt a ≡ 0
unfolding doubt
no_doubt a is = subst (λ a. doubt a ≡ 0) (sym is) refl

-- a store is clean whose files are
pub clean_store : {D : Type 0} {g : disk.Ghosts D} (it : FileStore D g) → AreClean g (store.files it).0 (store.files it).1
    → IsClean (store.view it)
unfolding pool.state pool.files
clean_store it are = no_doubt _ are

-- what may be left of the files of a connection that was given up may be left of the connection
pub left_of : {D : Type 0} {g : disk.Ghosts D} (conn : Held (FileStore D g)) (ended : FileStore D g) (files : Files D)
    → IsQuiet store.view store.faults store.recovers store.is_shielded conn.store ended
    → (IsClean (store.view ended) → IsTrue (store.view ended).is_numbered)
    → (IsClean (store.view ended) → AreDatabases (store.recovers ended)) → (files.log, files.db) ≡ store.files ended
    → SeenMayStay g → AreLeftOf conn files
unfolding pool.state pool.files
left_of {D} {g} conn ended files quiet numbered sound pair stay are =
    let clean_there : AreClean g (store.files ended).0 (store.files ended).1 = subst (λ (p : D × D). AreClean g p.0 p.1) pair are in
    let clean = clean_store ended clean_there in
    let before = closed_leaves over_files conn conn ended refl quiet clean in
    let each : (image : Image) → outcomes g files.log files.db image → IsLeftOf over_files conn image = λ image may. record {
      clean = before.0;
      left = ∥∥₁_map (opens_again ended (numbered clean) (sound clean) image
          (clean_there, subst (λ (p : D × D). outcomes g p.0 p.1 image) pair may))
          (λ found. (found.0, before.1 found.0 found.1, found.2));
    } in
    (each (image_of g files) (stay files.log, stay files.db), each)

-- so it is of files that were closed
pub copied_left : {D : Type 0} {g : disk.Ghosts D} (conn : Held (FileStore D g)) (files : Files D)
    → (AreClean g files.log files.db → IsCopied conn files)
    → (IsTrue (file_state conn).is_open → (file_state conn).may_leave (file_state conn).committed.trees)
    → SeenMayStay g → AreLeftOf conn files
copied_left {D} {g} conn files copies stays stay are =
    let copied = copies are in
    let each : (image : Image) → outcomes g files.log files.db image → IsLeftOf over_files conn image = λ image may. record {
      clean = copied.was_clean;
      left = ∥∥₁_map (copied.left image may).both
          (λ holds. ((file_state conn).committed.trees, stays copied.was_open, holds));
    } in
    (each (image_of g files) (stay files.log, stay files.db), each)
