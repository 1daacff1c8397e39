use Rattle.gr_count.specs.declared.limits.TheConstants.{MAX_OPTIONS}
use Rattle.gr_count.proofs.Fill.{IsFilled}
use Rattle.gr_count.proofs.Sets.{IsEmptyRow}
use Rattle.gr_count.proofs.relation.Relation.of_rows.Given as goal

-- the rows so far are given, and the later ones are empty
abbrev pub invariant-loop-option : goal.invariant-loop-option
invariant-loop-option g l =
    IsFilled (goal.F-post g l.row) IsEmptyRow MAX_OPTIONS (record { members = 0 }) l.rows l.option
