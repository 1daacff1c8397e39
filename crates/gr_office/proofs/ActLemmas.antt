-- What one act makes of an office: where there is no plan, where a plan is kept, and where keeping it fails.
use Rattle.std.proofs.Common.{Result, ◌⊎◌, ◌≡◌, ℕ, Option, Some, None, Ok, Err, IsTrue, inl, inr, refl, sym, subst, ◌∙◌}
use Rattle.std.specs.Prelude.{IfSome}
use Rattle.gr_core.specs.declared.plan.Plan.{Plan}
use Rattle.gr_core.specs.declared.reply.Reply.{Reply}
use Rattle.gr_core.specs.declared.refusal.Refusal as core
use Rattle.gr_core.specs.Desks.State.{State}
use Rattle.gr_core.specs.Machine.Act.{Act}
use Rattle.gr_core.specs.Machine.Refusal.{Refuses}
use Rattle.gr_core.specs.Machine.Row.{put_all}
use Rattle.gr_core.specs.Machine.Plan.{HasRowsOf, rows_of, IsPlanFor}
use Rattle.gr_core.specs.Machine.Step as step
use Rattle.gr_store.specs.declared.fault.Fault as store
use Rattle.gr_store.specs.declared.fault.Fault.TheVariants as faults
use Rattle.gr_store.specs.Causes.{DiskFails, CannotPutAll}
use Rattle.gr_store.specs.Commits.{LeavesDesk}
use Rattle.gr_store.specs.Content.{IsSettled}
use Rattle.gr_store.specs.Faults.{IsOfStore}
use Rattle.gr_store.specs.Holds.{Holds, HasDeskTables}
use Rattle.sqlite.specs.Held.{state}
use Rattle.sqlite.specs.State.{HasCleanDisk, Survives}
use Rattle.sqlite_trees.specs.declared.store.Store.{Ghosts}
use Rattle.gr_office.specs.declared.fault.ActFault.{ActFault}
use Rattle.gr_office.specs.declared.fault.ActFault.TheVariants as answered
use Rattle.gr_office.specs.Office.{Office, Keeps, IsOpenWith, PlansFor, CannotKeep}
use Rattle.gr_office.specs.Crash.{Acknowledged, Refused, Interrupted}
use Rattle.gr_office.specs.History.{Makes, act_attempt, fate_of}
use Rattle.gr_office.proofs.OpenLemmas.{same_state}
use Rattle.gr_office.proofs.HistoryLemmas.{nothing_makes, kept_left}

-- a fault of the store that leaves a closed office interrupts its command
closing_fate : (fault : store.Fault) (desk : Option State) → IsOfStore fault → desk ≡ None
    → fate_of (Err (answered.Fault fault)) desk ≡ Interrupted
closing_fate fault desk (inl memory) shut = rw (memory, shut) refl
closing_fate fault desk (inr other) shut = rw (other, shut) refl

module _ {S : Type 0} (g : Ghosts S) where
  -- a command that is refused leaves an office as it was
  refused_makes : (office : Office S) (s : State) (at : ℕ) (asked : Act) (refusal : core.Refusal) → office.desk ≡ Some s
      → Refuses s at asked refusal → Makes g office (record { command = (at, asked); fate = Refused refusal }) office
  refused_makes office s at asked refusal has refuses = record {
    clean = λ clean. clean;
    from_open = λ clean t is. ((subst (λ u. Refuses u at asked refusal) (same_state office.desk s t has is.desk) refuses, refl), is);
    from_shut = λ none. absurd (let both = sym has ∙ none in cc);
  }

  -- an act for which there is no plan
  pub no_plan_makes : (office : Office S) (desk : Option State) (at : ℕ) (asked : Act) (e : ActFault) → office.desk ≡ desk
      → PlansFor desk at asked (Err e) → Makes g office (act_attempt at asked (Err e) desk) office
  no_plan_makes office (Some s) at asked (answered.Refused refusal) is refuses = refused_makes office s at asked refusal is refuses
  no_plan_makes office (Some s) at asked (answered.Fault fault) is (memory, accepted) =
      rw (memory) (nothing_makes g office (act_attempt at asked (Err (answered.Fault faults.Memory)) (Some s)) refl)
  no_plan_makes office None at asked e is closed =
      let same : e ≡ answered.Fault faults.Closed = cc in
      rw (same) (nothing_makes g office (act_attempt at asked (Err (answered.Fault faults.Closed)) None) refl)

  -- a plan that is kept
  pub kept_makes : (before after : Office S) (at : ℕ) (asked : Act) (plan : Plan) (reply : Reply)
      → PlansFor before.desk at asked (Ok plan)
      → reply ≡ plan.reply → IfSome before.desk (λ s. after.desk ≡ Some (put_all s (rows_of plan)))
      → (HasCleanDisk (state g after.conn) → HasCleanDisk (state g before.conn))
      → (HasCleanDisk (state g after.conn) → IsSettled (state g after.conn))
      → (HasCleanDisk (state g after.conn) → IsTrue (state g before.conn).is_open → HasDeskTables (state g before.conn).now
      → (s : State) → Holds s (state g before.conn).now
      → HasDeskTables (state g after.conn).now × Holds (put_all s (rows_of plan)) (state g after.conn).now)
      → Makes g before (record { command = (at, asked); fate = Acknowledged reply }) after
  kept_makes before after at asked plan reply plans replied done was_clean settled holds = record {
    clean = was_clean;
    from_open = λ clean s is.
        let t = put_all s (rows_of plan) in
        let planned : IsPlanFor s at asked plan = subst (λ desk. PlansFor desk at asked (Ok plan)) is.desk plans in
        let held = holds clean is.kept.settled.is_open is.kept.tables s is.kept.holds in
        let keeps : Keeps g t after.conn = record {
          settled = settled clean;
          tables = held.0;
          holds = held.1;
        } in
        let now : IsOpenWith g t after = record {
          desk = subst (λ desk. IfSome desk (λ s. after.desk ≡ Some (put_all s (rows_of plan)))) is.desk done;
          kept = keeps;
        } in
        let stepped : step.Step s at asked (step.Accepted reply) t = (planned.0, replied ∙ planned.1, planned.2) in
        (t, stepped, now);
    from_shut = λ none. absurd (let never = subst (λ desk. PlansFor desk at asked (Ok plan)) none plans in cc);
  }

  -- a plan that could not be kept: the office is closed, and its rows may stand or not
  interrupted_makes : (before after : Office S) (at : ℕ) (asked : Act) (plan : Plan) → PlansFor before.desk at asked (Ok plan)
      → after.desk ≡ None → (HasCleanDisk (state g after.conn) → HasCleanDisk (state g before.conn))
      → (HasDeskTables (state g before.conn).now → (s : State) → Holds s (state g before.conn).now
      → Survives (state g before.conn) (state g after.conn) (LeavesDesk (put_all s (rows_of plan))))
      → Makes g before (record { command = (at, asked); fate = Interrupted }) after
  interrupted_makes before after at asked plan plans shut was_clean crash = record {
    clean = was_clean;
    from_open = λ clean s is.
        let t = put_all s (rows_of plan) in
        let planned : IsPlanFor s at asked plan = subst (λ desk. PlansFor desk at asked (Ok plan)) is.desk plans in (
          plan.reply,
          t,
          planned,
          shut,
          λ trees may. elim ((crash is.kept.tables s is.kept.holds).crash clean trees may) [
            | inl old ↦ inl (kept_left g s before.conn trees is.kept old)
            | inr new ↦ inr new
          ],
        );
    from_shut = λ none. absurd (let never = subst (λ desk. PlansFor desk at asked (Ok plan)) none plans in cc);
  }

  pub failed_makes : (before after : Office S) (at : ℕ) (asked : Act) (plan : Plan) (fault : store.Fault) → IsOfStore fault
      → PlansFor before.desk at asked (Ok plan)
      → after.desk ≡ None → (HasCleanDisk (state g after.conn) → HasCleanDisk (state g before.conn))
      → (HasDeskTables (state g before.conn).now → (s : State) → Holds s (state g before.conn).now
      → Survives (state g before.conn) (state g after.conn) (LeavesDesk (put_all s (rows_of plan))))
      → Makes g before (act_attempt at asked (Err (answered.Fault fault)) after.desk) after
  failed_makes before after at asked plan fault of_store plans shut was_clean crash =
      subst (λ fate. Makes g before (record { command = (at, asked); fate = fate }) after) (sym (closing_fate fault after.desk of_store shut))
      (interrupted_makes before after at asked plan plans shut was_clean crash)

-- ---- why the database failed

-- no plan is told as that
pub no_plan_told : (desk : Option State) (at : ℕ) (asked : Act) (reason : ActFault) → PlansFor desk at asked (Err reason)
    → ◌≡◌ {A = Result Reply ActFault} (Err reason) (Err (answered.Fault faults.Store)) → ⊥
no_plan_told (Some s) at asked (answered.Refused refusal) plans told = absurd (cc)
no_plan_told (Some s) at asked (answered.Fault fault) plans told = let memory = plans.0 in absurd (cc)
no_plan_told None at asked reason plans told = absurd (cc)

-- what is told of rows that were not kept
pub kept_told : {S : Type 0} (g : Ghosts S) (s : State) (at : ℕ) (asked : Act) (plan : Plan) (before after : Office S) (fault : store.Fault)
    → IsOpenWith g s before → IfSome before.desk (λ s. HasRowsOf s at asked plan)
    → (tables : HasDeskTables (state g before.conn).now)
    → (fault ≡ faults.Store → DiskFails (state g before.conn) (state g after.conn)
    ⊎ CannotPutAll tables.own (state g before.conn).step_limit (rows_of plan) (state g before.conn).now)
    → ◌≡◌ {A = Result Reply ActFault} (Err (answered.Fault fault)) (Err (answered.Fault faults.Store))
    → DiskFails (state g before.conn) (state g after.conn) ⊎ CannotKeep s at asked (state g before.conn)
kept_told g s at asked plan before after fault is rows tables told same =
    let its = subst (λ desk. IfSome desk (λ s. HasRowsOf s at asked plan)) is.desk rows in
    elim (told (let e : fault ≡ faults.Store = cc in e)) [
      | inl disk ↦ inl disk
      | inr cannot ↦ inr (tables, subst (λ rows. CannotPutAll tables.own (state g before.conn).step_limit rows (state g before.conn).now) its cannot)
    ]
