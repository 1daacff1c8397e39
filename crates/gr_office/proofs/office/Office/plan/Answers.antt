-- Why there is no plan on the desk of an open office.
use Rattle.std.proofs.Common.{ℕ, Err, refl, subst, ap, sym, ◌∙◌}
use Rattle.gr_core.specs.declared.plan.NoPlan.{NoPlan}
use Rattle.gr_core.specs.declared.plan.NoPlan.TheVariants.{Refused, Memory}
use Rattle.gr_core.specs.Desks.State.{State}
use Rattle.gr_core.specs.Machine.Act.{Act, act_of}
use Rattle.gr_core.specs.Machine.Plan.{IsNoPlanFor}
use Rattle.gr_office.specs.Fault.{fault_of_plan}
use Rattle.gr_office.specs.Office.{PlansFor}
use Rattle.std.specs.Prelude.{Some}
use Rattle.std.specs.Result.{result_ok}
use Rattle.gr_office.proofs.ErrorLemmas.{is_error}
use Rattle.gr_office.proofs.office.Office.plan.Goals as goal

no_plan : (s : State) (at : ℕ) (asked : Act) (none : NoPlan) → IsNoPlanFor s at asked none
    → PlansFor (Some s) at asked (Err (fault_of_plan none))
no_plan s at asked (Refused refusal) refuses = refuses
no_plan s at asked Memory accepted = (refl, accepted)

pub returns-in_err-plan-clause-plans : goal.returns-in_err-plan-clause-plans
returns-in_err-plan-clause-plans g c =
    let at = c.args.at in
    let asked = act_of c.args.command.now in
    let none = no_plan c.in-Ok.desk at asked c.in_err-plan.field-0.0 c.in_err-plan.ensures.none in
    let answered = is_error c.from_residual.result (fault_of_plan c.in_err-plan.field-0.0) c.from_residual.ensures.1 in
    subst (λ desk. PlansFor desk at asked c.from_residual.result) (sym (ap result_ok c.in-Ok.is) ∙ ap (λ o. o.desk) c.self.view_is)
    (subst (PlansFor (Some c.in-Ok.desk) at asked) (sym answered) none)
