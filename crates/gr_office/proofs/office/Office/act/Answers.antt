-- A plan is there only of an open office, and kept it makes the step.
use Rattle.std.proofs.Common.{◌≡◌, ℕ, Some, None, Ok, refl, sym, subst, ◌∙◌, ap}
use Rattle.std.specs.Prelude.{Option, IfSome, IsSome}
use Rattle.gr_core.specs.declared.plan.Plan.{Plan}
use Rattle.gr_core.specs.declared.reply.Reply.{Reply}
use Rattle.gr_core.specs.Desks.State.{State}
use Rattle.gr_core.specs.Machine.Act.{Act, act_of}
use Rattle.gr_core.specs.Machine.Row.{put_all}
use Rattle.gr_core.specs.Machine.Plan.{HasCountingOf, HasRowsOf, IsPlanOn, rows_of}
use Rattle.gr_store.specs.Commits.{PutsAll}
use Rattle.sqlite.specs.Held.{state}
use Rattle.gr_office.specs.History.{Makes, act_attempt}
use Rattle.gr_office.specs.Office.{Acts, PlansFor, fault_of_act}
use Rattle.gr_office.proofs.ActLemmas.{no_plan_told, kept_told, no_plan_makes, kept_makes, failed_makes}
use Rattle.gr_office.proofs.ErrorLemmas.{is_error}
use Rattle.gr_office.proofs.RunLemmas.{remembers_closing, remembers_same}
use Rattle.gr_office.proofs.BesideLemmas.{spares_same}
use Rattle.gr_office.proofs.office.Office.act.Goals as goal

planned_on : (desk : Option State) (at : ℕ) (asked : Act) (plan : Plan) → PlansFor desk at asked (Ok plan)
    → IfSome desk (λ s. HasRowsOf s at asked plan) → IfSome desk (λ s. HasCountingOf s at asked plan)
    → (s : State) × (desk ≡ Some s) × IsPlanOn s plan
planned_on (Some s) at asked plan planned rows counts = (s, refl, (at, asked, planned, rows, counts))
planned_on None at asked plan planned rows counts = absurd (let never = planned in cc)

done_acts : (before after : Option State) (at : ℕ) (asked : Act) (plan : Plan) (reply : Reply) → PlansFor before at asked (Ok plan)
    → reply ≡ plan.reply → IfSome before (λ s. after ≡ Some (put_all s (rows_of plan)))
    → Acts before at asked (Ok reply) after
done_acts (Some s) after at asked plan reply planned replied done =
    (put_all s (rows_of plan), (planned.0, replied ∙ planned.1, planned.2), done)
done_acts None after at asked plan reply planned replied done = absurd (let never = planned in cc)

pub keep-requires : goal.keep-requires
keep-requires g c = planned_on _ _ _ _ c.in_ok-plan.ensures.plans c.in_ok-plan.ensures.rows c.in_ok-plan.ensures.counts

pub returns-clause-acts : goal.returns-clause-acts
returns-clause-acts g c =
    let done = c.in_ok-keep.ensures.done in
    done_acts _ _ c.args.at (act_of c.args.command.now) _ _ c.in_ok-plan.ensures.plans done.0 done.1

pub returns-in_err-plan-clause-makes : goal.returns-in_err-plan-clause-makes
returns-in_err-plan-clause-makes g c =
    let at = c.args.at in
    let asked = act_of c.args.command.now in
    let failed = is_error _ c.in_err-plan.field-0.0 c.from_residual.ensures.1 in
    subst (λ answer. Makes g.S.Store c.args.self.now (act_attempt at asked answer c.args.self.now.desk) c.args.self.now) (sym failed)
    (no_plan_makes g.S.Store c.args.self.now c.args.self.now.desk at asked c.in_err-plan.field-0.0 refl c.in_err-plan.ensures.plans)

pub returns-in_err-plan-clause-remembers : goal.returns-in_err-plan-clause-remembers
returns-in_err-plan-clause-remembers g c = remembers_same _ c.args.self.now.desk c.args.self.now.closed_by

pub returns-in_err-keep-clause-remembers : goal.returns-in_err-keep-clause-remembers
returns-in_err-keep-clause-remembers g c =
    let kept = c.in_err-keep.ensures in
    let failed = is_error _ _ c.from_residual-in_err-keep.ensures.1 in
    let on = planned_on _ _ _ _ c.in_ok-plan.ensures.plans c.in_ok-plan.ensures.rows c.in_ok-plan.ensures.counts in
    remembers_closing _ c.in_err-keep.field-0.0 c.args.self.now.desk c.keep.new.self.desk c.args.self.now.closed_by c.keep.new.self.closed_by
    (ap fault_of_act failed) (subst IsSome (sym on.1) refl) kept.failed kept.remembers

pub returns-in_err-keep-clause-makes : goal.returns-in_err-keep-clause-makes
returns-in_err-keep-clause-makes g c =
    let kept = c.in_err-keep.ensures in
    let failed = is_error _ _ c.from_residual-in_err-keep.ensures.1 in
    let at = c.args.at in
    let asked = act_of c.args.command.now in
    subst (λ answer. Makes g.S.Store c.args.self.now (act_attempt at asked answer c.keep.new.self.desk) c.keep.new.self) (sym failed)
    (failed_makes g.S.Store c.args.self.now c.keep.new.self at asked c.in_ok-plan.plan c.in_err-keep.field-0.0 kept.faults
    c.in_ok-plan.ensures.plans kept.failed kept.clean kept.crash)

pub returns-clause-makes : goal.returns-clause-makes
returns-clause-makes g c =
    let kept = c.in_ok-keep.ensures in
    kept_makes g.S.Store c.args.self.now c.keep.new.self c.args.at (act_of c.args.command.now) c.in_ok-plan.plan c.in_ok-keep.field-0
    c.in_ok-plan.ensures.plans kept.done.0 kept.done.1 kept.clean kept.settled kept.holds

pub returns-in_err-plan-clause-caused : goal.returns-in_err-plan-clause-caused
returns-in_err-plan-clause-caused g c clean s is told =
    absurd (no_plan_told c.args.self.now.desk c.args.at (act_of c.args.command.now) c.in_err-plan.field-0.0 c.in_err-plan.ensures.plans
    (sym (is_error _ c.in_err-plan.field-0.0 c.from_residual.ensures.1) ∙ told))

pub returns-in_err-keep-clause-caused : goal.returns-in_err-keep-clause-caused
returns-in_err-keep-clause-caused g c clean s is told =
    kept_told g.S.Store s c.args.at (act_of c.args.command.now) c.in_ok-plan.plan c.args.self.now c.keep.new.self
    c.in_err-keep.field-0.0 is c.in_ok-plan.ensures.rows is.kept.tables (c.in_err-keep.ensures.caused clean is.kept.tables)
    (sym (is_error _ _ c.from_residual-in_err-keep.ensures.1) ∙ told)

pub returns-in_err-plan-clause-spares : goal.returns-in_err-plan-clause-spares
returns-in_err-plan-clause-spares g c = spares_same g.S.Store c.args.self.now

pub returns-in_err-keep-clause-spares : goal.returns-in_err-keep-clause-spares
returns-in_err-keep-clause-spares g c = record {
  rows = λ clean s is some. absurd (let never = subst IsSome c.in_err-keep.ensures.failed some in cc);
  leaves = λ clean s is. c.in_err-keep.ensures.leaves is.kept.tables;
}

pub returns-clause-spares : goal.returns-clause-spares
returns-clause-spares g c = record {
  rows = λ clean s is some. c.in_ok-keep.ensures.keeps clean is.kept.settled.is_open is.kept.tables;
  leaves = λ clean s is. c.in_ok-keep.ensures.leaves is.kept.tables;
}

pub returns-clause-puts : goal.returns-clause-puts
returns-clause-puts g c clean s is =
    let rows = subst (λ desk. IfSome desk (λ s. HasRowsOf s c.args.at (act_of c.args.command.now) c.in_ok-plan.plan)) is.desk
    c.in_ok-plan.ensures.rows in
    subst (λ rows. PutsAll is.kept.tables.own rows (state g.S.Store c.args.self.now.conn).now (state g.S.Store c.keep.new.self.conn).now) rows
    (c.in_ok-keep.ensures.puts clean is.kept.settled.is_open is.kept.tables)
