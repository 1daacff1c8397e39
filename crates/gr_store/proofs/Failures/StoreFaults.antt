-- What the fault of the store has for its cause, by the error that it was made of.
use Rattle.std.proofs.Common.{◌≡◌, ◌⊎◌, ℕ, arith, List, [], ◌∷◌, ◌++◌, append_assoc, map, Result, Ok, Err, IfErr, IsTrue, refl, sym, ap, subst, ◌∙◌, inl, inr}
use Rattle.std.specs.Result.{IsErrAnd}
use Rattle.sqlite.specs.declared.error.Error.{Error}
use Rattle.sqlite.specs.Effect.{Database}
use Rattle.sqlite.specs.State.{State, HasCleanDisk, Survives}
use Rattle.sqlite.proofs.StateLemmas.{survives_then}
use Rattle.sqlite_schema.specs.declared.schema.Schema.{Schema}
use Rattle.sqlite_schema.specs.declared.schema.Table.{Table}
use Rattle.gr_core.specs.Machine.Row as core
use Rattle.gr_core.specs.Columns.Fields.{row_fields}
use Rattle.gr_core.specs.declared.rows.NoRow.{NoRow}
use Rattle.gr_core.specs.declared.rows.NoRow.TheVariants as no_row
use Rattle.gr_store.specs.declared.fault.Fault.{Fault}
use Rattle.gr_store.specs.declared.fault.Fault.TheVariants as faults
use Rattle.gr_store.specs.Faults.{IsOfStore, fault_of_error, fault_of_no_row, is_unreadable}
use Rattle.gr_store.specs.Causes.{DiskFails, IsCaused, FitsColumns, put_text, IsTextRefused, CannotPut, CannotPutAll, CannotMakeAll, CannotMakeDesk, IsStopped}
use Rattle.gr_store.specs.Commits.{PutsAll}
use Rattle.gr_store.specs.Makes.{MakesTable, MakesDesk}
use Rattle.gr_core.specs.Desks.State.{new_state}
use Rattle.sqlite_trees.specs.Tree.{Trees}
use Rattle.gr_store.specs.Own.{HasOwnTables}
use Rattle.gr_store.specs.Rows.{value_of}
use Rattle.gr_store.proofs.Connections.StepsInTurn.{was_clean}
use Rattle.gr_store.proofs.Failures.FailedTexts.{caused_weaker, caused_then, fails_still, failed_then}

-- running out of memory is not told as the fault of the store
pub told_store : {A : Type 0} (P : Type 0) (old new : State) (r : Result A Fault) (e : Error)
    → IsErrAnd r (λ f. IsOfStore f × (f ≡ fault_of_error e)) → IsCaused old new P e
    → IfErr r (λ f. f ≡ faults.Store → DiskFails old new ⊎ P)
told_store P old new (Ok a) e is caused = tt
told_store P old new (Err f) e is (inl memory) =
    λ store. absurd (let both : faults.Memory ≡ faults.Store = ap fault_of_error (sym memory) ∙ sym is.1 ∙ store in cc)
told_store P old new (Err f) e is (inr cause) = λ store. cause

-- a fault that is passed on has the cause that it had
pub passed_on : {A : Type 0} {P : Type 0} (r : Result A Fault) (fault : Fault) → IsErrAnd r (λ f. f ≡ fault)
    → (fault ≡ faults.Store → P) → IfErr r (λ f. f ≡ faults.Store → P)
passed_on (Ok a) fault is told = tt
passed_on (Err f) fault is told = λ store. told (sym is ∙ store)

-- a row that the database refuses
pub put_told : {A : Type 0} (row : core.RowModel) (old new : State) (r : Result A Fault) (e : Error)
    → IsErrAnd r (λ f. IsOfStore f × (f ≡ fault_of_error e))
    → IsCaused old new (IsTextRefused old.step_limit (put_text row) (map value_of (row_fields row)) old.now) e
    → IfErr r (λ f. f ≡ faults.Store → DiskFails old new ⊎ CannotPut old.step_limit row old.now)
put_told row old new r e is caused =
    told_store (CannotPut old.step_limit row old.now) old new r e is (caused_weaker old new _ _ e inr caused)

-- one that has a number too great
pub great_told : {A : Type 0} (row : core.RowModel) (old : State) (r : Result A Fault) (reason : NoRow)
    → IsErrAnd r (λ f. IsOfStore f × (f ≡ fault_of_no_row reason)) → (reason ≡ no_row.TooGreat → ¬ (FitsColumns row))
    → IfErr r (λ f. f ≡ faults.Store → DiskFails old old ⊎ CannotPut old.step_limit row old.now)
great_told row old (Ok a) reason is great = tt
great_told row old (Err f) no_row.TooGreat is great = λ store. inr (inl (great refl))
great_told row old (Err f) no_row.Memory is great = λ store. absurd (let both = sym is.1 ∙ store in cc)

module _ {schema : Schema} (own : HasOwnTables schema) (limit : _) where
  -- a row that cannot be put after others, with more after it
  pub cannot_behind : (done rest : List core.RowModel) (row : core.RowModel) (old mid : Database) → PutsAll own done old mid
      → CannotPut limit row mid → CannotPutAll own limit ((done ++ row ∷ []) ++ rest) old
  cannot_behind [] rest row old mid puts cannot = inl (subst (CannotPut limit row) puts cannot)
  cannot_behind (first ∷ done) rest row old mid puts cannot =
      inr (puts.0, puts.1, cannot_behind done rest row puts.0 mid puts.2 cannot)

-- ---- the tables of a new desk

-- from the one state to the other these tables were made, one after the other
pub record Made (first now : State) (done : List (List ℕ × Table)) : Type 0 where
  pub survives : Survives first now (λ _. ⊥)
  pub goes_on : HasCleanDisk now → (more : List (List ℕ × Table)) → CannotMakeAll now.step_limit more now.now
      → CannotMakeAll first.step_limit (done ++ more) first.now

pub none_made : (s : State) → Made s s []
none_made s = record {
  survives = record {
    clean = omega arith;
    shield = λ shielded. shielded;
    counts = omega arith;
    limit = refl;
    closes = λ clean live. inl live;
    crash = λ clean db may. inl may;
  };
  goes_on = λ clean more cannot. cannot;
}

pub one_made : (first now next : State) (done : List (List ℕ × Table)) (made : List ℕ × Table) → Made first now done
    → Survives now next (λ _. ⊥) → (HasCleanDisk next → MakesTable made.1 now.now next.now)
    → Made first next (done ++ made ∷ [])
one_made first now next done made before survives makes = record {
  survives = survives_then first now next (λ _. ⊥) (λ _. ⊥) (λ _. ⊥) (λ _ db none. none) (λ _ db none. none)
      before.survives survives;
  goes_on = λ clean more cannot.
      let cannot_now = subst (λ n. CannotMakeAll n more next.now) survives.limit cannot in
      subst (λ all. CannotMakeAll first.step_limit all first.now) (sym (append_assoc done (made ∷ []) more))
      (before.goes_on (was_clean now next (λ _. ⊥) survives clean) (made ∷ more) (inr (next.now, makes clean, cannot_now)));
}

-- the next table cannot be made
pub next_not_made : (first now last : State) (done more : List (List ℕ × Table)) (made : List ℕ × Table) (e : Error)
    → Made first now done → Survives now last (λ _. ⊥) → HasCleanDisk last
    → IsCaused now last (IsTextRefused now.step_limit made.0 [] now.now) e
    → IsCaused first last (CannotMakeAll first.step_limit (done ++ made ∷ more) first.now) e
next_not_made first now last done more made e before survives clean caused =
    let was = was_clean now last (λ _. ⊥) survives clean in
    caused_then first now last _ _ e before.survives was survives.counts
    (λ refused. before.goes_on was (made ∷ more) (inl refused)) caused

-- the tables were made, and the header cannot be put
pub header_told : (old made done ended : State) (C : Trees → Type 0) → Survives old made (λ _. ⊥) → Survives made done (λ _. ⊥)
    → Survives done ended C → HasCleanDisk ended → (HasCleanDisk made → MakesDesk old.now made.now)
    → (HasCleanDisk done → HasCleanDisk made → MakesDesk old.now made.now
    → DiskFails made done ⊎ CannotPut made.step_limit (core.HeaderOf new_state.header) made.now)
    → DiskFails old ended ⊎ CannotMakeDesk old.step_limit old.now
header_told old made done ended C first second last clean makes told =
    let was_done = was_clean done ended C last clean in
    let was_made = was_clean made done (λ _. ⊥) second was_done in
    let is = makes was_made in
    elim (told was_done was_made is) [
      | inl disk ↦ inl (fails_still old done ended C last (failed_then old made done (λ _. ⊥) first was_made second.counts disk))
      | inr cannot ↦ inr (inr (made.now, is, subst (λ n. CannotPut n (core.HeaderOf new_state.header) made.now) first.limit cannot))
    ]

-- ---- a select

-- a select that goes on after what changed nothing
pub stopped_since : (first now last : State) (text : List ℕ) (e : Error) → Survives first now (λ _. ⊥)
    → Survives now last (λ _. ⊥) → HasCleanDisk last → now.now ≡ first.now
    → IsTrue (is_unreadable e) ⊎ IsCaused now last (IsStopped now.step_limit text now.now) e
    → IsTrue (is_unreadable e) ⊎ IsCaused first last (IsStopped first.step_limit text first.now) e
stopped_since first now last text e before survives clean same (inl bad) = inl bad
stopped_since first now last text e before survives clean same (inr caused) =
    inr (caused_then first now last _ _ e before (was_clean now last (λ _. ⊥) survives clean) survives.counts
    (λ stopped. subst (λ db. IsStopped first.step_limit text db) same
    (subst (λ n. IsStopped n text now.now) before.limit stopped)) caused)
