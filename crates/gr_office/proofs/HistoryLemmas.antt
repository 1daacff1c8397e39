-- What attempts make of an office.
use Rattle.std.proofs.Common.{◌≡◌, ℕ, List, [], ◌∷◌, inl, refl, sym, subst, arith}
use Rattle.std.specs.List.{AllByRecursion}
use Rattle.gr_core.specs.Desks.State.{State}
use Rattle.gr_core.proofs.Validity.ValidLemmas.{new_valid}
use Rattle.gr_core.specs.Desks.Valid.{IsValid}
use Rattle.gr_core.specs.Laws.MachineLaws.{CommandsKeepADeskValid}
use Rattle.gr_core.specs.Laws.VersionLaws.{LiftedDesksAreValid}
use Rattle.gr_core.specs.Machine.Act.{Act}
use Rattle.gr_core.specs.Machine.Run.{After}
use Rattle.gr_core.specs.Machine.Step as step
use Rattle.gr_store.specs.Commits.{LeavesDesk}
use Rattle.sqlite.specs.Held.{Held, state}
use Rattle.sqlite.specs.State.{State as Shown, Survives}
use Rattle.sqlite_trees.specs.Tree.{Trees}
use Rattle.sqlite_trees.specs.declared.store.Store.{Ghosts}
use Rattle.gr_office.specs.Office.{Office, Keeps}
use Rattle.gr_office.specs.Crash.{NotDone, AllAccepted, IsAfterPrefix, AfterFinished, AfterOneMore, EveryStopLeavesAPrefix, LeavesItsState}
use Rattle.gr_office.specs.History.{desk, keeper, Attempt, Makes, AreMade, LeavesPrefix, IsLeftBy, IsStart, New, Migrated, Found, StartsAreValid, PrefixesAreStarts}
use Rattle.gr_office.proofs.CrashLemmas.{every_stop}

-- nothing was done in this attempt
abbrev pub IsNotDone : Attempt → Type 0
IsNotDone attempt = attempt.fate ≡ NotDone

-- ==== a connection later

-- where nothing was done, nothing is left
pub survives_same : (s : Shown) (P : Trees → Type 0) → Survives s s P
survives_same s P = record {
  clean = omega arith;
  shield = λ shielded. shielded;
  counts = omega arith;
  limit = refl;
  closes = λ clean live. inl live;
  crash = λ clean db left. inl left;
}

module _ {S : Type 0} (g : Ghosts S) where
  -- a desk that a connection keeps is what it leaves
  pub kept_left : (s : State) (conn : Held S) (trees : Trees) → Keeps g s conn → (state g conn).may_leave trees → LeavesDesk s trees
  kept_left s conn trees kept may = ((state g conn).now, kept.tables, kept.holds, kept.settled.only trees may)

  pub leaves_its_state : LeavesItsState (keeper g)
  leaves_its_state s office trees is may = kept_left s office.conn trees is.kept may

  pub every_stop_of : EveryStopLeavesAPrefix (keeper g)
  every_stop_of = every_stop (keeper g) leaves_its_state

  -- what is left by attempts is left by a prefix of their commands
  pub left_prefix : (s : State) (attempts : List Attempt) (conn : Held S) → IsLeftBy g s attempts conn
      → LeavesPrefix s attempts (state g conn).now.trees
  left_prefix s attempts conn left =
      every_stop_of s left.first left.last attempts left.from_state left.made left.clean (state g conn).now.trees left.left

  -- ==== nothing is changed where nothing is done

  pub nothing_makes : (office : Office S) (attempt : Attempt) → IsNotDone attempt → Makes g office attempt office
  nothing_makes office attempt not_done = record {
    clean = λ clean. clean;
    from_open = λ clean s is. rw (not_done) is;
    from_shut = λ none. (refl, not_done);
  }

  pub makes_nothing : (office : Office S) (attempts : List Attempt) → AllByRecursion IsNotDone attempts → AreMade g office attempts office
  makes_nothing office [] not_done = refl
  makes_nothing office (attempt ∷ attempts) not_done =
      (office, nothing_makes office attempt not_done.0, makes_nothing office attempts not_done.1)

-- ==== accepted commands keep a desk valid

-- they are a run of the machine
runs : (s t : State) (commands : List (ℕ × Act)) → AllAccepted desk s commands t → (answers : List step.Answer) × After s commands answers t
runs s t [] after = ([], after)
runs s t (command ∷ commands) (reply, mid, accepts, after) =
    let rest = runs mid t commands after in (step.Accepted reply ∷ rest.0, (mid, accepts, rest.1))

pub valid_then : CommandsKeepADeskValid → (s t : State) (commands : List (ℕ × Act)) → IsValid s → AllAccepted desk s commands t → IsValid t
valid_then keep s t commands valid after = let ran = runs s t commands after in keep s commands ran.0 t valid ran.1

pub valid_prefix : CommandsKeepADeskValid → (s t : State) (attempts : List Attempt) → IsValid s → IsAfterPrefix s attempts t → IsValid t
valid_prefix keep s t attempts valid (AfterFinished after) = valid_then keep s t _ valid after
valid_prefix keep s t attempts valid (AfterOneMore command same after) = valid_then keep s t _ valid after

-- a desk that a life begins with is valid, and so is that after a prefix
pub valid_start : LiftedDesksAreValid → StartsAreValid
valid_start lifts s (New same) = subst IsValid (sym same) new_valid
valid_start lifts s (Migrated desk1 valid same) =
    subst IsValid (sym same) ((lifts desk1 valid.header.version).0 valid)
valid_start lifts s (Found valid) = valid

pub valid_after : LiftedDesksAreValid → CommandsKeepADeskValid → (s t : State) (attempts : List Attempt) → IsStart s
    → IsAfterPrefix s attempts t → IsValid t
valid_after lifts keep s t attempts start prefix = valid_prefix keep s t attempts (valid_start lifts s start) prefix

pub prefixes_are_starts : LiftedDesksAreValid → CommandsKeepADeskValid → PrefixesAreStarts
prefixes_are_starts lifts keep s t attempts start prefix = Found (valid_after lifts keep s t attempts start prefix)
