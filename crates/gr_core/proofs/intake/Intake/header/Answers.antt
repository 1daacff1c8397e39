use Rattle.gr_core.specs.declared.intake.Condition.TheVariants.{Damaged}
use Rattle.gr_core.proofs.Columns.IntakeLemmas.{come_to, damaged_has}
use Rattle.gr_core.proofs.intake.Intake.header.Goals as goal

pub returns-in-Damaged-clause-damaged : goal.returns-in-Damaged-clause-damaged
returns-in-Damaged-clause-damaged c rows taken is s fits has =
    damaged_has rows (come_to c.args.self.now Damaged rows c.in-Damaged.is taken) s fits has
