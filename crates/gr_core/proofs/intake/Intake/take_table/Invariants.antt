use Rattle.std.proofs.Common.{map}
use Rattle.gr_core.specs.Columns.Stored.{Stored}
use Rattle.gr_core.specs.Columns.Intake.{HasTaken, with_more}
use Rattle.gr_core.proofs.intake.Intake.take_table.Given as goal

-- the rows so far are taken
abbrev pub invariant-loop-row : goal.invariant-loop-row
invariant-loop-row g l = (taken : Stored) → HasTaken taken l.fn.self
    → HasTaken (with_more g.T.IntoRow.table_name taken (map (λ row. g.T.IntoRow.meant (g.T.IntoRow.fields row)) l.yielded)) l.self
