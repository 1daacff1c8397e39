use Rattle.gr_core.specs.Columns.Stored.{stored}
use Rattle.gr_core.specs.Columns.Intake.{nothing_taken}
use Rattle.gr_core.proofs.desk.Desk.from_rows.Goals as goal

pub returns-clause-damaged : goal.returns-clause-damaged
returns-clause-damaged c damaged s valid has =
    c.finish.ensures.damaged (stored c.args.rows) (c.in_ok-take_all.ensures nothing_taken c.new-intake.ensures.taken) damaged s valid has
