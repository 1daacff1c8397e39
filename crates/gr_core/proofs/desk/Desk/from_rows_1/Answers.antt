use Rattle.gr_core.specs.Columns.Rows1.{stored1}
use Rattle.gr_core.specs.Columns.Intake.{nothing_taken}
use Rattle.gr_core.proofs.desk.Desk.from_rows_1.Goals as goal

pub returns-clause-ok : goal.returns-clause-ok
returns-clause-ok c =
    c.finish_1.ensures.ok (stored1 c.args.rows) (c.in_ok-take_all_1.ensures nothing_taken c.new-intake.ensures.taken)

pub returns-clause-damaged : goal.returns-clause-damaged
returns-clause-damaged c damaged s valid has =
    c.finish_1.ensures.damaged (stored1 c.args.rows) (c.in_ok-take_all_1.ensures nothing_taken c.new-intake.ensures.taken) damaged s valid has
