-- Why tables cannot be read, one after the other.
use Rattle.std.proofs.Common.{◌≡◌, ◌⊎◌, ℕ, List, [], ◌∷◌, Result, Ok, Err, IfErr, sym, subst, inl, inr}
use Rattle.std.proofs.lemmas.List.Elements.{All-cons, All-nil}
use Rattle.std.specs.List.{All}
use Rattle.sqlite_rules.specs.Lists.{Has}
use Rattle.sqlite.specs.Effect.{Database}
use Rattle.sqlite.specs.State.{State, HasCleanDisk}
use Rattle.gr_core.specs.Columns.Stored.{fields_of_header}
use Rattle.gr_store.specs.declared.fault.Fault.{Fault}
use Rattle.gr_store.specs.declared.fault.Fault.TheVariants as faults
use Rattle.gr_store.specs.Causes.{DiskFails, IsStopped, CannotSelectBy}
use Rattle.gr_store.specs.Columns.{AreOfKinds, CannotHold, desk_kinds}
use Rattle.gr_store.specs.Content.{WritesNothing}
use Rattle.gr_core.specs.declared.rows.HeaderRow.{HeaderRow}
use Rattle.gr_store.specs.Holds.{HasHeaderRow}
use Rattle.gr_store.specs.Selects.{desk_select, developer_select, resolution_select, choice_select, sponsor_select}
use Rattle.gr_store.proofs.Failures.FailedTexts.{failed_then}
use Rattle.gr_store.proofs.Connections.StepsInTurn.{was_clean, IsKept}

-- a row that stands alone in the table `desk` has the kinds of its columns
pub row_is_held : (IsSuch : HeaderRow → Type 0) (db : Database) → HasHeaderRow IsSuch db → CannotHold desk_select desk_kinds db → ⊥
row_is_held IsSuch db such cannot =
    cannot such.0 (subst (All (AreOfKinds desk_kinds)) (sym such.1.2)
    (All-cons (AreOfKinds desk_kinds) (fields_of_header such.1.0) [] tt (All-nil (AreOfKinds desk_kinds)))) such.2

-- what a read after others that wrote nothing is told for, by what was there before them
module _ (ballots : List ℕ) (first now last : State) (before : WritesNothing first now) (kept : IsKept first now) (after : WritesNothing now last)
    (clean : HasCleanDisk last) where
  was : HasCleanDisk now
  was = was_clean now last (λ _. ⊥) after.leaves clean

  disk_told : DiskFails now last → DiskFails first last
  disk_told = failed_then first now last (λ _. ⊥) before.leaves was after.leaves.counts

  pub selects_told : DiskFails now last ⊎ CannotSelectBy ballots now.step_limit now.now
      → DiskFails first last ⊎ CannotSelectBy ballots first.step_limit first.now
  selects_told (inl disk) = inl (disk_told disk)
  selects_told (inr (text, one, stopped)) =
      inr (
        text,
        one,
        subst (λ db. IsStopped first.step_limit text db) (kept was)
            (subst (λ n. IsStopped n text now.now) before.leaves.limit stopped),
      )

  pub select_told : (text : List ℕ) → Has (desk_select ∷ developer_select ∷ resolution_select ∷ choice_select ∷ sponsor_select ∷ ballots ∷ []) text
      → DiskFails now last ⊎ IsStopped now.step_limit text now.now → DiskFails first last ⊎ CannotSelectBy ballots first.step_limit first.now
  select_told text one (inl disk) = inl (disk_told disk)
  select_told text one (inr stopped) = selects_told (inr (text, one, stopped))

pub err_weaker : {A : Type 0} {P Q : Type 0} (r : Result A Fault) → (P → Q) → IfErr r (λ f. f ≡ faults.Store → P)
    → IfErr r (λ f. f ≡ faults.Store → Q)
err_weaker (Ok a) f told = tt
err_weaker (Err fault) f told = λ store. f (told store)
