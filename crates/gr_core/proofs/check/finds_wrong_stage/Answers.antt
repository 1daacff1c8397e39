use Rattle.std.proofs.Common.{◌≡◌, Option, Some, None, IsSome, refl, sym, ◌∙◌}
use Rattle.std.specs.Option.{option_and_then}
use Rattle.std.proofs.lemmas.Option.{none-some}
use Rattle.gr_core.specs.Machine.Act.{act_of, resolution_of}
use Rattle.gr_core.proofs.check.finds_wrong_stage.Goals as goal

-- what was found under a number was looked for under one
had : {A B : Type 0} (look : A → Option B) (number : Option A) (found : B) → option_and_then look number ≡ Some found → IsSome number
had look (Some number) found is = refl
had look None found is = absurd (none-some found is)

pub may_come-requires : goal.may_come-requires
may_come-requires c = had _ (resolution_of (act_of c.args.command.now)) c.in-Some.resolution (sym c.resolution_at.ensures ∙ c.in-Some.is)
