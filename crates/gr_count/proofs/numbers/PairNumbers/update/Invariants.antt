use Rattle.std.proofs.Common.{[]}
use Rattle.gr_count.specs.declared.limits.TheConstants.{MAX_OPTIONS}
use Rattle.gr_count.proofs.Fill.{IsUpdated}
use Rattle.gr_count.proofs.Sets.{IsUpdatedRow}
use Rattle.gr_count.proofs.numbers.PairNumbers.update.Given as goal

-- the rows so far have the numbers made of theirs, and the later ones their own
abbrev pub invariant-loop-first : goal.invariant-loop-first
invariant-loop-first g l =
    IsUpdated (IsUpdatedRow l.options (goal.F-post g l.number)) MAX_OPTIONS (record { numbers = [] }) l.initial.self.rows l.self.rows l.first-counter
