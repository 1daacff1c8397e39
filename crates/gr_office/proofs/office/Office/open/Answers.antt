use Rattle.std.proofs.Common.{◌≡◌, ◌≢◌, ◌∙◌, codes, false, None, Some, Err, true≢false, inl, inr, refl, sym, ap, subst, rules}
use Rattle.std.specs.Prelude.{is_some}
use Rattle.sqlite_schema.specs.Names.{table_named}
use Rattle.gr_store.specs.declared.fault.Fault.TheVariants.{Closed}
use Rattle.gr_store.specs.Content.{WritesNothing}
use Rattle.gr_core.specs.Desks.State.{State}
use Rattle.gr_core.specs.Desks.Valid.{IsValid}
use Rattle.gr_store.specs.Holds.{Holds, HasDeskTables}
use Rattle.gr_store.specs.Tabled.{HasTables}
use Rattle.sqlite.specs.Held.{state}
use Rattle.sqlite.specs.State.{HasCleanDisk}
use Rattle.gr_office.specs.NotOpened.{FailsToOpen}
use Rattle.gr_office.specs.Office.{Keeps}
use Rattle.gr_office.proofs.ErrorLemmas.{is_error, or_never}
use Rattle.gr_office.proofs.OpenLemmas.{unadopted_fails}
use Rattle.gr_office.proofs.office.Office.open.Goals as goal

pub returns-in-Ok-clause-found : goal.returns-in-Ok-clause-found
returns-in-Ok-clause-found g c clean = (
  c.in-Ok.desk,
  refl,
  c.in-Ok.ensures.valid,
  subst (λ conn. Holds c.in-Ok.desk (state g.S.Store conn).now) c.in_ok-store.ensures.adopted.0 (c.in-Ok.ensures.holds clean),
)

pub returns-in-Ok-clause-open_with : goal.returns-in-Ok-clause-open_with
returns-in-Ok-clause-open_with g c clean settled tables =
    let new = state g.S.Store c.load.new.self.conn in
    let is = c.in_ok-store.ensures.adopted.0 in
    let none = subst (λ conn. WritesNothing (state g.S.Store conn) new) is c.load.ensures.writes_nothing in
    let stays = none.stays clean (c.in-Ok.ensures.live clean) settled in
    let keeps : Keeps g.S.Store c.in-Ok.desk c.load.new.self.conn = record {
      settled = stays.0;
      tables = subst HasDeskTables (sym stays.1) tables;
      holds = subst (Holds c.in-Ok.desk) (sym stays.1)
          (subst (λ conn. Holds c.in-Ok.desk (state g.S.Store conn).now) is (c.in-Ok.ensures.holds clean));
    } in
    (c.in-Ok.desk, record { desk = refl; kept = keeps })

pub returns-in-Ok-clause-valid_is_found : goal.returns-in-Ok-clause-valid_is_found
returns-in-Ok-clause-valid_is_found g c =
    subst (λ conn. HasTables (state g.S.Store conn).now.schema → (s : State) → IsValid s → Holds s (state g.S.Store conn).now
    → HasCleanDisk (state g.S.Store c.load.new.self.conn) → Some c.in-Ok.desk ≡ Some s) c.in_ok-store.ensures.adopted.0
    (λ tables s valid holds clean. ap Some (c.in-Ok.ensures.finds clean tables s valid holds).0)

pub returns-in-Err-clause-failed : goal.returns-in-Err-clause-failed
returns-in-Err-clause-failed g c =
    let fault = c.in-Err.fault in
    let was = c.in_ok-store.store.conn in
    let late = c.load.new.self.conn in
    let it = c.in-Err.ensures in
    let same = c.in_ok-store.ensures.adopted.0 in
    let never : fault ≢ Closed
    = λ closed. true≢false (sym (it.closed.0 (ap Err closed)) ∙ c.in_ok-store.ensures.adopted.1) in
    let back : c.close.result.in_transaction ≡ c.args.conn.in_transaction = search rules in
    let fails : FailsToOpen g.S.Store was late fault = record {
      can = inl (or_never never it.faults);
      no_desk = λ ended none.
          let outside = subst (λ conn. conn.in_transaction ≡ false) same ended in
          let gone = subst (λ conn. table_named (state g.S.Store conn).now.schema (codes "desk") ≡ None) same none in
          absurd (true≢false (sym ((c.in_ok-store.ensures.named outside).0 refl) ∙ ap is_some gone));
      valid = λ clean tables s valid held. or_never never (it.finds clean tables s valid held).1;
      damaged = λ clean is tables. it.damaged clean tables (ap Err is);
      too_new = λ clean is. it.too_new clean (ap Err is);
      later = λ clean plain later. elim (it.later clean plain later).1 [
        | inl new ↦ inl new
        | inr other ↦ inr (inl (or_never never other))
      ];
      too_old = λ clean is. it.too_old clean (ap Err is);
      earlier = λ clean plain earlier. elim (it.earlier clean plain earlier).1 [
        | inl old ↦ inl old
        | inr other ↦ inr (inl (or_never never other))
      ];
      caused = λ clean is. elim (it.caused clean is) [ inl disk ↦ inl disk | inr cannot ↦ inr (inl cannot) ];
      wrote_nothing = c.load.ensures.writes_nothing;
      back = ap (λ conn. conn.in_transaction) (sym c.close.ensures.same) ∙ back ∙ ap (λ conn. conn.in_transaction) (sym same);
    } in
    subst (λ conn. FailsToOpen g.S.Store conn c.close.result fault) same
    (subst (λ conn. FailsToOpen g.S.Store was conn fault) (sym c.close.ensures.same) fails)

pub returns-in_err-store-clause-failed : goal.returns-in_err-store-clause-failed
returns-in_err-store-clause-failed g c =
    rw (is_error c.from_residual.result c.in_err-store.field-0.0 c.from_residual.ensures.1)
    (unadopted_fails g.S.Store c.args.conn c.in_err-store.field-0.0 c.in_err-store.ensures.inside c.in_err-store.ensures.not_a_desk
    (λ ended there. true≢false (sym ((c.in_err-store.ensures.named ended).1 there))))
