use Rattle.std.proofs.Common.{refl, ◌≡◌, ℕ, Ok, Err, Result, IfOk, IfErr, ap, subst}
use Rattle.gr_core.specs.declared.refusal.Refusal.{Refusal}
use Rattle.gr_core.specs.declared.plan.Plan.{Plan}
use Rattle.gr_core.specs.declared.plan.NoPlan.{NoPlan}
use Rattle.gr_core.specs.declared.plan.NoPlan.TheVariants.{Refused, Memory}
use Rattle.gr_core.specs.Desks.State.{State}
use Rattle.gr_core.specs.Machine.Act.{Act, act_of}
use Rattle.gr_core.specs.Machine.Refusal.{Refuses}
use Rattle.gr_core.specs.Machine.Plan.{HasCountingOf, HasRowsOf, IsPlanFor, IsNoPlanFor, rows_of}
use Rattle.gr_core.specs.Machine.Row.{put_all}
use Rattle.gr_core.specs.Desks.Valid.{IsValid}
use Rattle.gr_core.proofs.Validity.ValidLemmas.{planned_valid}
use Rattle.gr_core.proofs.Effects.AnswerLemmas.{one_refusal}
use Rattle.gr_core.proofs.desk.Desk.plan.Goals as goal

-- an act that meets a refusal is answered it
refused : (s : State) (at : ℕ) (act : Act) (answer : Result Plan NoPlan) → IfOk answer (IsPlanFor s at act) → IfErr answer (IsNoPlanFor s at act)
    → (refusal : Refusal) → Refuses s at act refusal → answer ≡ Err (Refused refusal)
refused s at act (Ok plan) planned none refusal refuses = absurd (planned.0 refusal refuses.applies)
refused s at act (Err (Refused other)) planned none refusal refuses = ap (λ r. Err (Refused r)) (one_refusal s at act other refusal none refuses)
refused s at act (Err Memory) planned none refusal refuses = absurd (none refusal refuses.applies)

-- the rows of a plan make a valid desk
next : (s : State) (at : ℕ) (act : Act) (answer : Result Plan NoPlan) → IsValid s → IfOk answer (IsPlanFor s at act) → IfOk answer (HasRowsOf s at act)
    → IfOk answer (HasCountingOf s at act) → IfOk answer (λ plan. IsValid (put_all s (rows_of plan)))
next s at act (Ok plan) valid planned rows counts = planned_valid s _ plan valid (at, act, planned, rows, counts) refl
next s at act (Err none) valid planned rows counts = tt

pub returns-clause-next : goal.returns-clause-next
returns-clause-next c =
    let is : c.self.inside.tables ≡ c.args.self.now = c.self.view_is in
    next c.args.self.now c.args.at (act_of c.args.command.now) c.of.result (subst IsValid is c.self.invariant.0)
    (subst (λ s. IfOk c.of.result (IsPlanFor s c.args.at (act_of c.args.command.now))) is c.of.ensures.planned)
    (subst (λ s. IfOk c.of.result (HasRowsOf s c.args.at (act_of c.args.command.now))) is c.of.ensures.rows)
    (subst (λ s. IfOk c.of.result (HasCountingOf s c.args.at (act_of c.args.command.now))) is c.of.ensures.counts)

pub returns-clause-refused : goal.returns-clause-refused
returns-clause-refused c =
    let is : c.self.inside.tables ≡ c.args.self.now = c.self.view_is in
    refused c.args.self.now c.args.at (act_of c.args.command.now) c.of.result
    (subst (λ s. IfOk c.of.result (IsPlanFor s c.args.at (act_of c.args.command.now))) is c.of.ensures.planned)
    (subst (λ s. IfErr c.of.result (IsNoPlanFor s c.args.at (act_of c.args.command.now))) is c.of.ensures.none)
