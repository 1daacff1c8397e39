-- What is left of files over which there is no office.
use Rattle.std.proofs.Common.{◌≡◌, ℕ, Bool, cond, List, [], ◌∷◌, Option, None, Some, Result, Ok, Err, inl, inr, sym, subst}
use Rattle.std.specs.Prelude.{IfErr, IfSome}
use Rattle.std.specs.Result.{IsErrAnd}
use Rattle.sqlite_disk.specs.declared.Disk as disk
use Rattle.sqlite_disk.specs.Events.{Event, replay, settled}
use Rattle.sqlite_disk.specs.History.{MayLeave}
use Rattle.sqlite_trees.specs.Tree.{Trees}
use Rattle.sqlite_wal.specs.Recovery.{Image}
use Rattle.sqlite_pool.specs.Stored.{StandsAs}
use Rattle.sqlite_store.specs.Unopened.{state_of}
use Rattle.sqlite_disk.specs.declared.Files.{Files}
use Rattle.sqlite.specs.declared.error.Error.{Error}
use Rattle.sqlite.specs.declared.file.Leftover.{Leftover}
use Rattle.sqlite.specs.declared.file.Leftover.TheVariants as rest
use Rattle.sqlite.specs.Files.{FailsToOpenFiles, HoldsDatabase, IsCleanLeft, IsNothing, LeavesFiles}
use Rattle.sqlite.proofs.FileLemmas.{is_something}
use Rattle.gr_core.specs.Desks.State.{State}
use Rattle.gr_store.specs.declared.fault.Fault.{Fault}
use Rattle.gr_store.specs.Commits.{LeavesDesk}
use Rattle.gr_store.specs.Faults.{IsOfStore, fault_of_error}
use Rattle.gr_desk.specs.declared.no_office.Left.{Left}
use Rattle.gr_desk.specs.declared.no_office.Left.TheVariants as given
use Rattle.gr_desk.specs.Openings.{AreStill, FailsToConnect, HasCleanLeft, HasStill, Hold, IsNotConnected, IsNotOpened, given_back}

-- a file that was settled, and with which nothing was done since, is left with what it held
pub leaves_start : (mixes is_log wanted : Bool) (log db : List ℕ) (key : ℕ) (history : List Event) (c : List ℕ)
    → is_log ≡ wanted → history ≡ settled key ∷ []
    → (let m = replay (cond is_log log db) history in MayLeave mixes m.seen m.synced m.steps c)
    → c ≡ cond wanted log db
leaves_start mixes is_log wanted log db key history c is fresh may =
    let now : MayLeave mixes (cond wanted log db) (cond wanted log db) [] c
    = subst (λ b. let m = replay (cond b log db) (settled key ∷ []) in MayLeave mixes m.seen m.synced m.steps c) is
    (subst (λ h. let m = replay (cond is_log log db) h in MayLeave mixes m.seen m.synced m.steps c) fresh may) in
    elim now [ inl seen ↦ seen | inr reached ↦ reached ]

-- what holds of an error holds where that error is answered
pub handed_on : {X E : Type 0} (P : E → Type 0) (result : Result X E) (e : E) → IsErrAnd result (λ f. f ≡ e) → P e → IfErr result P
handed_on P (Ok x) e is held = absurd is
handed_on P (Err f) e is held = subst P (sym is) held

pub IfSome-map : {X : Type 0} {P Q : X → Type 0} (o : Option X) → ((x : X) → P x → Q x) → IfSome o P → IfSome o Q
IfSome-map None f p = p
IfSome-map (Some x) f p = f x p

module _ {D : Type 0} {g : disk.Ghosts D} (contents : Image) where
  -- what the engine says of files that held the contents, and gives back of them
  pub unconnected_so : (error : Error) (fault : Fault) → fault ≡ fault_of_error error → IsOfStore fault
      → (left : Option (Leftover D g))
      → IfSome left (λ it. (files : Files D) × Hold g contents files
      × (IsCleanLeft it → FailsToOpenFiles files it error × LeavesFiles files it))
      → IsNotConnected contents fault (given_back left)
  unconnected_so error fault is of_store None cause = of_store
  unconnected_so error fault is of_store (Some left) (files, hold, says) = (
    of_store,
    record {
      error = error;
      fault = is;
      files = files;
      hold = hold;
      cause = λ clean. (says clean).0;
      leaves = λ clean. (says clean).1;
    },
  )

  -- contents that hold a desk are still those, or stand for the same pages, or the store has that desk
  still : (db : Trees) (s : State) (fault : Fault) (left : Leftover D g) → HoldsDatabase contents db → LeavesDesk s db
      → FailsToConnect contents fault left → IsCleanLeft left → AreStill contents s left
  still db s fault (rest.Files files) held leaves fails clean = λ image may.
      fails.hold.only image (fails.leaves clean image may)
  still db s fault (rest.Unopened files) held leaves fails clean = λ image may.
      elim (fails.leaves clean) [
        | inl nothing ↦ absurd (is_something contents db held (subst IsNothing fails.hold.seen nothing.0))
        | inr kept ↦ elim (kept.4 image may).same [
          | inl was ↦ inl (fails.hold.only image was)
          | inr same ↦ inr (subst (λ i. StandsAs (state_of files).page_size i image) fails.hold.seen same)
        ]
      ]
  still db s fault (rest.Store store) held leaves fails clean = λ found may.
      let same = (fails.leaves clean found may).1 db (subst (λ i. HoldsDatabase i db) (sym fails.hold.seen) held) in
      subst (LeavesDesk s) (sym same) leaves

  -- the same of what is given back
  pub unconnected_has : (db : Trees) (s : State) (fault : Fault) (left : Left D g) → HoldsDatabase contents db → LeavesDesk s db
      → IsNotConnected contents fault left → HasCleanLeft left → IsOfStore fault × HasStill contents s left
  unconnected_has db s fault given.Nothing held leaves fails clean = (fails, tt)
  unconnected_has db s fault (given.Files left) held leaves fails clean =
      (fails.0, still db s fault left held leaves fails.1 clean)
  unconnected_has db s fault (given.Connection conn) held leaves fails clean = absurd fails

  pub unconnected_unopened : (fault : Fault) (left : Left D g) → IsNotConnected contents fault left → IsNotOpened contents fault left
  unconnected_unopened fault given.Nothing fails = fails
  unconnected_unopened fault (given.Files left) fails = fails
  unconnected_unopened fault (given.Connection conn) fails = absurd fails
