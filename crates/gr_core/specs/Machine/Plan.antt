-- What a plan says, and why there may be none.
use Rattle.std.specs.Prelude.{◌≡◌, ℕ, List, map, codes}
use Rattle.gr_core.specs.declared.change.Change.{Change}
use Rattle.gr_core.specs.declared.reply.Reply.{Reply}
use Rattle.gr_core.specs.declared.plan.Plan.{Plan}
use Rattle.gr_core.specs.declared.plan.NoPlan.{NoPlan}
use Rattle.gr_core.specs.declared.plan.NoPlan.TheVariants.{Refused, Memory}
use Rattle.gr_core.specs.Desks.State.{State}
use Rattle.gr_core.specs.Machine.Act.{Act}
use Rattle.gr_core.specs.Machine.Refusal.{printed, Refuses, IsAccepted}
use Rattle.gr_core.specs.Machine.Step.{Step, Accepted}
use Rattle.gr_core.specs.Machine.Row.{RowModel, row_of, put_all}
use Rattle.gr_core.specs.Machine.Effect.{rows_by}
use Rattle.gr_core.specs.Machine.Counting.{Counts}

-- the changes that a plan lists, the first of them first
abbrev pub changes_of : Plan → List Change
changes_of plan = plan.changes.items

-- the rows that it puts, the first of them first
abbrev pub rows_of : Plan → List RowModel
rows_of plan = map row_of (changes_of plan)

-- the reply that it gives
abbrev pub reply_of : Plan → Reply
reply_of plan = plan.reply

-- The plan's reply answers the act at this moment, and its rows, put, make the state after it.
abbrev pub IsPlanFor : State → ℕ → Act → Plan → Type 0
IsPlanFor s at act plan = Step s at act (Accepted (reply_of plan)) (put_all s (rows_of plan))

-- its rows are those of the act, in their order
abbrev pub HasRowsOf : State → ℕ → Act → Plan → Type 0
HasRowsOf s at act plan = rows_of plan ≡ rows_by s at act

-- it counts what the act does to the preference counts
abbrev pub HasCountingOf : State → ℕ → Act → Plan → Type 0
HasCountingOf s at act plan = Counts s at act plan.counting

-- the plan was made for some act on a desk with this state
abbrev pub IsPlanOn : State → Plan → Type 0
IsPlanOn s plan =
    (at : ℕ) × (act : Act) × IsPlanFor s at act plan × HasRowsOf s at act plan × HasCountingOf s at act plan

-- A refusal is the one that the act meets. Memory is wanted only where no refusal applies.
abbrev pub IsNoPlanFor : State → ℕ → Act → NoPlan → Type 0
IsNoPlanFor s at act (Refused refusal) = Refuses s at act refusal
IsNoPlanFor s at act Memory = IsAccepted s at act

-- what is printed of it
abbrev pub reason : NoPlan → List ℕ
reason (Refused refusal) = printed refusal
reason Memory = codes "out of memory"
