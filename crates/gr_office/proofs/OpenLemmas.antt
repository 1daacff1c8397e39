-- What is opened over a connection that keeps a desk.
use Rattle.std.proofs.Common.{◌≡◌, Bool, true, false, true≢false, IsTrue, Option, Some, None, Result, Ok, Err, inl, inr, refl, sym, ap, subst, ◌∙◌, arith}
use Rattle.std.specs.Prelude.{codes, is_some, IfOk, IfErr, IsSome, MatchResult}
use Rattle.gr_core.specs.Desks.State.{State}
use Rattle.gr_core.specs.Desks.Valid.{IsValid}
use Rattle.gr_store.specs.declared.fault.Fault.TheVariants as faults
use Rattle.gr_store.specs.declared.store.NotOpened.{NotOpened}
use Rattle.gr_store.specs.Content.{IsSettled, WritesNothing}
use Rattle.gr_store.specs.Faults.{IsOfStore}
use Rattle.gr_core.specs.Columns.Stored.{DeskTable}
use Rattle.gr_store.specs.Holds.{Holds, HasDeskTables}
use Rattle.gr_store.specs.Tabled.{HasTables}
use Rattle.gr_store.proofs.Connections.StepsInTurn.{writes_none}
use Rattle.gr_store.proofs.Reading.RightTables.{columns_of, has_name}
use Rattle.sqlite.specs.Held.{Held, state}
use Rattle.sqlite.specs.State.{State as Shown, HasCleanDisk}
use Rattle.sqlite_schema.specs.Names.{table_named}
use Rattle.sqlite_trees.specs.declared.store.Store.{Ghosts}
use Rattle.gr_office.specs.NotOpened.{FailsToOpen}
use Rattle.gr_office.specs.Office.{Office, Keeps, IsOpenWith, StillKeeps}
use Rattle.gr_office.proofs.HistoryLemmas.{kept_left}

-- a disk that is clean after what writes nothing was clean before it
pub was_clean : (old new : Shown) → WritesNothing old new → HasCleanDisk new → HasCleanDisk old
was_clean old new none clean = let less = none.leaves.clean in omega arith

-- a desk has one state
pub same_state : (desk : Option State) (s t : State) → desk ≡ Some s → desk ≡ Some t → s ≡ t
same_state desk s t one other = let both = sym one ∙ other in cc

-- what comes of either answer of a test is so
either_way : (b : Bool) (P : Type 0) → (IsTrue b → P) → (b ≡ false → P) → P
either_way true P where_true where_false = where_true refl
either_way false P where_true where_false = where_false refl

-- what is not there is none
not_there : {X : Type 0} (o : Option X) → ¬ (IsSome o) → o ≡ None
not_there None never = refl
not_there (Some x) never = absurd (never refl)

module _ {S : Type 0} (g : Ghosts S) where
  -- ---- no store is adopted

  -- inside a transaction
  inside_fails : (conn : Held S) → IsTrue conn.in_transaction → FailsToOpen g conn conn faults.Store
  inside_fails conn begun = record {
    can = inl (inl (inl (inr refl)));
    no_desk = λ ended none. absurd (true≢false (sym begun ∙ ended));
    valid = λ clean tables s valid held. inr refl;
    damaged = λ clean is. absurd (cc);
    too_new = λ clean is. absurd (cc);
    later = λ clean plain later. inr (inl (inr refl));
    too_old = λ clean is. absurd (cc);
    earlier = λ clean plain earlier. inr (inl (inr refl));
    caused = λ clean is. inr (inr begun);
    wrote_nothing = writes_none (state g conn);
    back = refl;
  }

  -- where there is no desk
  nowhere_fails : (conn : Held S) → table_named (state g conn).now.schema (codes "desk") ≡ None
      → FailsToOpen g conn conn faults.NotADesk
  nowhere_fails conn none = record {
    can = inr (refl, none);
    no_desk = λ ended none. (refl, refl);
    valid = λ clean tables s valid held.
        absurd (true≢false (sym (has_name (state g conn).now.schema (columns_of (state g conn).now.schema tables DeskTable)) ∙ ap is_some none));
    damaged = λ clean is. absurd (cc);
    too_new = λ clean is. absurd (cc);
    later = λ clean plain later. inr (inr refl);
    too_old = λ clean is. absurd (cc);
    earlier = λ clean plain earlier. inr (inr refl);
    caused = λ clean is. absurd (cc);
    wrote_nothing = writes_none (state g conn);
    back = refl;
  }

  -- so an opening fails that gets no store
  pub unadopted_fails : {X : Type 0} (conn : Held S) (e : NotOpened S)
      → (IsTrue conn.in_transaction
      → (let told : Result X (NotOpened S) = Err e in told ≡ Err (record { conn = conn; fault = faults.Store })))
      → (conn.in_transaction ≡ false → e ≡ record { conn = conn; fault = faults.NotADesk })
      → (conn.in_transaction ≡ false → ¬ (IsSome (table_named (state g conn).now.schema (codes "desk"))))
      → FailsToOpen g conn e.conn e.fault
  unadopted_fails conn e inside outside unnamed =
      let P : NotOpened S → Type 0 = λ e. FailsToOpen g conn e.conn e.fault in
      either_way conn.in_transaction (P e)
      (λ begun.
      let told = inside begun in
      let same : e ≡ record { conn = conn; fault = faults.Store } = cc in
      subst P (sym same) (inside_fails conn begun))
      (λ ended. subst P (sym (outside ended)) (nowhere_fails conn (not_there _ (unnamed ended))))

  -- ---- a desk is kept

  -- a desk that is kept still is, after what writes nothing
  pub keeps_still : (s : State) (before after : Held S) → WritesNothing (state g before) (state g after) → HasCleanDisk (state g after)
      → IsTrue (state g after).is_open → Keeps g s before → Keeps g s after
  keeps_still s before after none clean live kept =
      let stays = none.stays clean live kept.settled in
      record {
        settled = stays.0;
        tables = subst HasDeskTables (sym stays.1) kept.tables;
        holds = subst (Holds s) (sym stays.1) kept.holds;
      }

  -- an office that is opened where a desk is kept is open with it
  pub opened_with : {E : Type 0} (conn : Held S) (s : State) (result : Result (Office S) E) → Keeps g s conn
      → IfOk result (λ office. HasCleanDisk (state g office.conn) → IsSettled (state g conn) → HasDeskTables (state g conn).now
      → (t : State) × IsOpenWith g t office)
      → IfOk result (λ office. HasCleanDisk (state g office.conn) → office.desk ≡ Some s)
      → IfOk result (λ office. HasCleanDisk (state g office.conn) → IsOpenWith g s office)
  opened_with conn s (Ok office) kept opened found = λ clean.
      let it = opened clean kept.settled kept.tables in
      subst (λ t. IsOpenWith g t office) (same_state office.desk it.0 s it.1.desk (found clean)) it.1
  opened_with conn s (Err e) kept opened found = tt

  -- where it is not opened, the desk is kept still, and what a stop may leave then is that desk
  pub unopened_keeps : {X : Type 0} (conn : Held S) (s : State) (result : Result X (NotOpened S))
      → HasTables (state g conn).now.schema → IsValid s → Keeps g s conn
      → IfErr result (λ e. FailsToOpen g conn e.conn e.fault)
      → IfErr result (λ e. HasCleanDisk (state g e.conn) → IsOfStore e.fault × StillKeeps g s e.conn)
  unopened_keeps conn s (Ok office) tables valid kept fails = tt
  unopened_keeps conn s (Err e) tables valid kept fails = λ clean. (
    fails.valid clean tables s valid kept.holds,
    record {
      keeps = λ live. keeps_still s conn e.conn fails.wrote_nothing clean live kept;
      leaves = λ trees left. elim (fails.wrote_nothing.leaves.crash clean trees left) [
        | inl before ↦ kept_left g s conn trees kept before
        | inr never ↦ absurd never
      ];
    },
  )

  -- a disk that is clean after an opening was clean before it
  pub clean_before : (conn : Held S) (result : Result (Office S) (NotOpened S))
      → IfOk result (λ office. WritesNothing (state g conn) (state g office.conn))
      → IfErr result (λ e. FailsToOpen g conn e.conn e.fault)
      → MatchResult result (λ office. HasCleanDisk (state g office.conn) → HasCleanDisk (state g conn))
      (λ e. HasCleanDisk (state g e.conn) → HasCleanDisk (state g conn))
  clean_before conn (Ok office) none fails = was_clean (state g conn) (state g office.conn) none
  clean_before conn (Err e) none fails = was_clean (state g conn) (state g e.conn) fails.wrote_nothing
