use Rattle.std.proofs.Common.{[]}
use Rattle.gr_count.specs.declared.limits.TheConstants.{MAX_OPTIONS}
use Rattle.gr_count.proofs.Fill.{IsUpdated}
use Rattle.gr_count.proofs.Sets.{IsGivenRow}
use Rattle.gr_count.proofs.numbers.PairNumbers.set_all.Given as goal

-- the rows so far have the number at each pair, and the later ones are as they were
abbrev pub invariant-loop-first : goal.invariant-loop-first
invariant-loop-first l =
    IsUpdated (IsGivenRow l.pairs l.number) MAX_OPTIONS (record { numbers = [] }) l.initial.self.rows l.self.rows l.first
