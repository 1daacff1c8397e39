-- What is known of an office before a request that it answered, and of files that are opened after a stop.
use Rattle.std.proofs.Common.{◌≡◌, ◌∙◌, ℕ, Bool, true, false, ◌&&◌, List, Option, Result, Ok, Err, IsTrue, ap, refl, sym, subst, true≢false}
use Rattle.std.proofs.Math.Logic.{∥∥₁_map}
use Rattle.sqlite_disk.specs.declared.Disk as disk
use Rattle.sqlite_disk.specs.declared.Files.{Files}
use Rattle.sqlite_trees.specs.View.{IsClean, IsQuiet}
use Rattle.sqlite_wal.specs.Files.{seen_image}
use Rattle.sqlite_wal.specs.Reads.{AreClean}
use Rattle.sqlite_wal.proofs.LogLemmas.{SeenMayStay}
use Rattle.sqlite_pool.specs.Pool as pool
use Rattle.sqlite_store.specs.declared.store.FileStore.{FileStore}
use Rattle.sqlite_store.specs.FileStore as store
use Rattle.sqlite.specs.Files.{file_state, over_files, Finds}
use Rattle.sqlite.specs.Held.{Held, AreDatabases}
use Rattle.sqlite.specs.State.{Opens}
use Rattle.sqlite.proofs.Theorems.{opens_again}
use Rattle.gr_office.specs.History.{IsLeftBy}
use Rattle.gr_store.specs.declared.fault.Fault.{Fault}
use Rattle.gr_desk.specs.declared.no_office.Left.{Left}
use Rattle.gr_desk.specs.declared.no_office.Left.TheVariants as given
use Rattle.gr_desk.specs.Restart.{GivesFilesBack, IsLeftBehind, StillHasAPrefix}
use Rattle.gr_desk.proofs.StopLemmas.{clean_store, closed_leaves}
use Rattle.std.specs.Prelude.{IfOk}
use Rattle.std.specs.Io.KnownBytes.{Appends}
use Rattle.gr_http.specs.declared.answer.Lost.{Lost}
use Rattle.gr_http.specs.declared.answer.Lost.TheVariants as lost
use Rattle.gr_http.specs.declared.answer.Served.{Served}
use Rattle.gr_http.specs.Exchange.{IsExchange}
use Rattle.gr_http.specs.Fates.{delivered, undelivered}
use Rattle.gr_http.specs.Response.{Response, response_bytes}
use Rattle.gr_http.specs.Streams.{AppendsBeginning}
use Rattle.gr_http.proofs.FateLemmas.{clean-request, clean_same}
use Rattle.gr_office.specs.Office.{Office}
use Rattle.sqlite.specs.Held.{state}
use Rattle.sqlite.specs.State.{HasCleanDisk}
use Rattle.sqlite_trees.specs.declared.store.Store.{Ghosts}

-- a disk that is clean after a request was clean before it
pub clean_before : {S : Type 0} (g : Ghosts S) (before after : Office S) (at : ℕ) (coming old new : Option (List ℕ))
    (result : Result Served Lost)
    → IfOk result (λ served. (response : Response) × (served.status ≡ response.status)
    × Appends old new (response_bytes response) × IsExchange g before at coming response delivered after)
    → (result ≡ Err lost.Read → (after ≡ before) × (new ≡ old))
    → (result ≡ Err lost.Write → (response : Response) × AppendsBeginning old new (response_bytes response)
    × IsExchange g before at coming response undelivered after)
    → HasCleanDisk (state g after.conn) → HasCleanDisk (state g before.conn)
clean_before g before after at coming old new (Ok served) (response, status, bytes, (responds, makes, reveals)) unread cut now =
    clean-request g before after at response delivered coming makes now
clean_before g before after at coming old new (Err lost.Read) served unread cut now = clean_same g before after (unread refl).0 now
clean_before g before after at coming old new (Err lost.Write) served unread cut now =
    let (response, bytes, (responds, makes, reveals)) = cut refl in
    clean-request g before after at response undelivered coming makes now

-- what may be left of two files, by what is seen of two others
abbrev pub MaySee : {D : Type 0} → disk.Ghosts D → D × D → Files D → Type 0
MaySee g old files = g.may_leave old.0 (g.seen files.log) × g.may_leave old.1 (g.seen files.db)

-- what two files show may be left of them
pub seen_may_stay : {D : Type 0} (g : disk.Ghosts D) (old : D × D) (files : Files D) → SeenMayStay g → (files.log, files.db) ≡ old
    → MaySee g old files
seen_may_stay {D} g old files stay pair =
    subst (λ (p : D × D). MaySee g p files) pair (stay files.log, stay files.db)

-- A connection that was just opened over what may be left of the files of an office, whose connection was ended, shows
-- what a stop left.
pub left_behind : {D : Type 0} {g : disk.Ghosts D} (last : Office (FileStore D g)) (closed : Held (FileStore D g))
    (ended : FileStore D g) (files : Files D) (conn : Held (FileStore D g)) → closed ≡ last.conn
    → IsQuiet store.view store.faults store.recovers store.is_shielded closed.store ended → IsClean (store.view ended)
    → IsTrue (store.view ended).is_numbered → AreDatabases (store.recovers ended)
    → AreClean g (store.files ended).0 (store.files ended).1 → MaySee g (store.files ended) files
    → Finds files conn → Opens (file_state conn) → IsLeftBehind last conn
unfolding pool.state pool.files
left_behind {D} {g} last closed ended files conn same quiet clean numbered sound are may finds opens s first attempts is_open made =
    let before = closed_leaves over_files last.conn closed ended same quiet clean in
    ∥∥₁_map (opens_again ended numbered sound (seen_image g files.log files.db) (are, may))
    (λ found.
    let is : (file_state conn).now.trees ≡ found.0 = ap (λ d. d.trees) opens.clean ∙ finds.holds found.0 found.2 in
    let it : IsLeftBy over_files s attempts conn = record {
      first = first;
      last = last;
      from_state = is_open;
      made = made;
      clean = before.0;
      left = subst (λ trees. (file_state last.conn).may_leave trees) (sym is) (before.1 found.0 found.1);
    } in it)

-- files that are given back have no connection over them
pub files_back : {D : Type 0} {g : disk.Ghosts D} (last : Office (FileStore D g)) (fault : Fault) (left : Left D g)
    → GivesFilesBack fault left → StillHasAPrefix last fault left
files_back last fault given.Nothing never = absurd never
files_back last fault (given.Files left) is = is
files_back last fault (given.Connection conn) never = absurd never

both_true : (a b : Bool) → a ≡ true → b ≡ true → IsTrue (a && b)
both_true a b x y = subst (λ a. IsTrue (a && b)) (sym x) y

both_are : (a b : Bool) → IsTrue (a && b) → (a ≡ true) × (b ≡ true)
both_are true b both = (refl, both)
both_are false b never = absurd (true≢false (sym never))

-- files that are clean after a crash were clean before it
pub clean_before_crash : {D : Type 0} (g : disk.Ghosts D) (old new : Files D)
    → (IsTrue (g.is_clean new.log) → IsTrue (g.is_clean old.log)) → (IsTrue (g.is_clean new.db) → IsTrue (g.is_clean old.db))
    → AreClean g new.log new.db → AreClean g old.log old.db
clean_before_crash g old new log db are =
    let both = both_are (g.is_clean new.log) (g.is_clean new.db) are in
    both_true (g.is_clean old.log) (g.is_clean old.db) (log both.0) (db both.1)

-- a store over disks that are always clean is
pub is_clean : {D : Type 0} {g : disk.Ghosts D} → ((file : D) → g.is_clean file ≡ true) → (it : FileStore D g)
    → IsClean (store.view it)
is_clean all it = clean_store it (both_true _ _ (all (store.files it).0) (all (store.files it).1))
