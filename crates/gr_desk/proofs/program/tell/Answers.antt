use Rattle.std.proofs.Common.{◌∙◌, Some, append-nil, refl, string_bytes, subst}
use Rattle.gr_store.specs.declared.fault.Fault.TheVariants as faults
use Rattle.gr_desk.specs.ErrorOutput.{Says}
use Rattle.gr_desk.specs.Failure.{line_of}
use Rattle.gr_desk.specs.declared.failure.Failure.TheVariants as failures
use Rattle.gr_desk.proofs.program.tell.Goals as goal

pub returns-in-Words : goal.returns-in-Words
returns-in-Words g c =
    let says = subst
    (λ text. Says (g.E.Output.written c.args.errors.now) (g.E.Output.written c.say.new.errors)
    (g.E.Output.failed c.args.errors.now) (g.E.Output.failed c.say.new.errors) (Some text))
    (append-nil c.as_str-in-Words.result.now ∙ c.as_str-in-Words.ensures.value) c.say.ensures in
    rw c.in-Words.is (Some (string_bytes c.in-Words.text), says, (refl, refl, refl))

pub returns-in-Memory : goal.returns-in-Memory
returns-in-Memory g c =
    let ends = c.status_behind-in-Memory.ensures in
    rw c.in-Memory.is (Some (line_of (failures.Fault faults.Memory)), ends.said, ((ends.status, refl), refl))
