use Rattle.gr_count.specs.declared.limits.TheConstants.{MAX_OPTIONS}
use Rattle.gr_count.proofs.Fill.{IsFilled}
use Rattle.gr_count.proofs.Sets.{IsEmptyRow, IsJudgedRow}
use Rattle.gr_count.proofs.relation.Relation.of.Given as goal

-- the rows so far are judged, and the later ones are empty
abbrev pub invariant-loop-first : goal.invariant-loop-first
invariant-loop-first g l =
    IsFilled (IsJudgedRow l.options (goal.F-post g l.holds)) IsEmptyRow MAX_OPTIONS (record { members = 0 }) l.rows l.first-counter
