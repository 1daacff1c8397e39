-- The rows of a select, read one at a time.
use Rattle.std.proofs.Common.{◌≡◌, ◌≢◌, ◌++◌, ◌<◌, get_or, Result, IfErr, arith, ℕ, List, [], ◌∷◌, map, length, Ok, Err, IsTrue, IsSome, false, true≢false, refl, sym, ap, subst, ◌∙◌, inl, inr}
use Rattle.std.specs.Result.{IsErrAnd}
use Rattle.sqlite_value.specs.Order.{Row}
use Rattle.sqlite_trees.specs.declared.store.Store as store
use Rattle.sqlite_schema.specs.declared.command.Command.{Command}
use Rattle.sqlite_schema.specs.declared.command.Command.TheVariants as command
use Rattle.sqlite_schema.specs.declared.schema.Table.{Table}
use Rattle.sqlite_resolve.specs.declared.compiled.Compiled.{Compiled}
use Rattle.sqlite_resolve.specs.declared.error.CompileError.{CompileError}
use Rattle.sqlite.specs.declared.error.Error.{Error}
use Rattle.sqlite.specs.Effect.{Database}
use Rattle.sqlite.specs.Listing.{understood}
use Rattle.sqlite.specs.Held.{Held, state}
use Rattle.sqlite.specs.Given.{HasGiven, HasBegun, Returns}
use Rattle.sqlite.specs.State.{State, HasCleanDisk, IsUnchanged, Survives, Shown, Begins, CommitsShowing, FailsToQuery}
use Rattle.sqlite.proofs.StateLemmas.{survives_weaker}
use Rattle.sqlite.proofs.Callers.{begins_shown, unchanged_then, EndsIn}
use Rattle.gr_core.specs.Columns.Fields.{Field}
use Rattle.gr_store.specs.Columns.{Kind, AreOfKinds, CannotHold}
use Rattle.gr_store.specs.Faults.{is_unreadable}
use Rattle.gr_store.specs.Rows.{value_of}
use Rattle.gr_store.specs.SelectedTables.{ReturnsNothing, CanEnd, HasPlainAnswer, SelectsTable}
use Rattle.gr_store.specs.Selects.{Selects, HasOneAnswer}
use Rattle.gr_store.proofs.TableRows.RowColumns.{unread_rows}
use Rattle.gr_store.proofs.Connections.SelectRuns.{commits_none, selects, unreadable}

-- so many rows of the select were read so far
pub record HasReadOn (text : List ℕ) {S : Type 0} (g : store.Ghosts S) (first now : Held S) (kept : List Row) : Type 0 where
  pub survives : Survives (state g first) (state g now) (λ _. ⊥)
  pub mode : first.in_transaction ≡ false → now.in_transaction ≡ false
  pub given : HasCleanDisk (state g now) → HasGiven g text [] now kept × IsUnchanged (state g first) (state g now)

module _ (text : List ℕ) (plain : ReturnsNothing text) where
  -- a select that has begun has given no row, and changes nothing
  pub begun : {S : Type 0} (g : store.Ghosts S) (old new : Held S) → HasBegun g text [] old new
      → HasGiven g text [] new [] × IsUnchanged (state g old) (state g new)
  begun g old new (inl h) = h
  begun g old new (inr h) = absurd (never (understood old.schema text) refl h.0)
    where
      never : (r : Result Compiled CompileError) → understood old.schema text ≡ r → Returns r → ⊥
      never (Ok c) e some = true≢false (sym (subst IsSome (plain old.schema c e) some))
      never (Err e) is some = some

  -- nor does it commit anything
  pub commits_nothing : (old new : State) → Survives old new (CommitsShowing text [] old) → Survives old new (λ _. ⊥)
  commits_nothing old new = survives_weaker old new (CommitsShowing text [] old) (λ _. ⊥)
      (λ clean db. commits_none text old new plain db)

  module _ {S : Type 0} (g : store.Ghosts S) (first : Held S) where
    -- what was given is an answer of the database as it was
    pub answers : (now last : Held S) (kept : List Row) → IsUnchanged (state g first) (state g now)
        → Shown text [] (state g now) (state g last) kept → Selects text (state g first).now kept × IsUnchanged (state g first) (state g last)
    answers now last kept same shown =
        let it = selects text (state g now) (state g last) plain kept shown in (
          subst (λ (d : Database). Selects text d kept) same.0.now_is it.0,
          unchanged_then (state g first) (state g now) (state g last) same it.1,
        )

-- a command whose recursions can end does so from any row
ends_in : (k : Command) → CanEnd k → (db : Database) (params : Row) → EndsIn k db params
ends_in (command.Select q names) can db params = can db.trees params
ends_in _ can db params = tt

module _ (text : List ℕ) (table : Table) (is : SelectsTable text table) where
  -- rows that an answer begins with are the first of an answer of the database as it was
  pub begins_answer : (s now : State) → HasPlainAnswer text s.now → IsUnchanged s now → (kept : List Row) → Begins text [] now kept
      → (tail : List Row) × Selects text s.now (kept ++ tail)
  begins_answer s now has same kept begins =
      let still : IsUnchanged now now = (
        record { was_open = same.0.is_open; is_open = same.0.is_open; now_is = refl; committed_is = refl; mode = refl },
        record { changes = refl; last_rowid = refl },
        refl,
      ) in
      let it = begins_shown text [] now now kept begins still (λ c db statement source. ends_in c.command (can_end c statement.is) db _) in
      (it.0, subst (λ (d : Database). Selects text d (kept ++ it.0)) same.0.now_is (selects text now now is.returns_nothing (kept ++ it.0) it.1).0)
    where
      can_end : (c : Compiled) → understood now.now.schema text ≡ Ok c → CanEnd c.command
      can_end c means =
          let it = has.known in
          let both : Ok it.0 ≡ Ok c = sym it.1 ∙ ap (λ (d : Database). understood d.schema text) (sym same.0.now_is) ∙ means in
          let one : it.0 ≡ c = cc in
          subst (λ (c : Compiled). CanEnd c.command) one it.2

  -- where the text is a query, a select does not fail for it
  pub refused_readable : (old new : State) → HasPlainAnswer text old.now → (e : Error) → FailsToQuery text [] old new e
      → IsTrue (is_unreadable e) → ⊥
  refused_readable old new has e fails bad =
      let it = has.known in unreadable text old new is.returns_nothing e fails bad it.0 it.1

-- what holds of the error that is passed on
pub on_err : {A : Type 0} (P : Error → Type 0) (r : Result A Error) (e : Error) → IsErrAnd r (λ x. x ≡ e) → P e → IfErr r P
on_err P (Ok a) e h p = tt
on_err P (Err x) e h p = subst P (sym h) p

seam : (kept tail : List Row) (row : Row) → (length kept < length ((kept ++ row ∷ []) ++ tail))
    × (row ≡ get_or ((kept ++ row ∷ []) ++ tail) (length kept) row)
seam [] tail row = (omega arith, refl)
seam (x ∷ kept) tail row = let it = seam kept tail row in (omega (arith, it.0), it.1)

-- a row of an answer that has not the kinds of columns is in each answer
pub cannot_hold : (text : List ℕ) (kinds : List Kind) (db : Database) (kept tail : List Row) (row : Row)
    → HasOneAnswer text db → Selects text db ((kept ++ row ∷ []) ++ tail)
    → ((k : List Field) → AreOfKinds kinds k → map value_of k ≢ row) → CannotHold text kinds db
cannot_hold text kinds db kept tail row one answer none others are selects =
    let at = seam kept tail row in
    unread_rows kinds ((kept ++ row ∷ []) ++ tail) (length kept) row at.0 at.1 none others are (one _ _ selects answer)
