use Rattle.std.proofs.Common.{map}
use Rattle.std.specs.List.{All}
use Rattle.std.specs.Map.Iter.{deref_pair}
use Rattle.gr_core.specs.Desks.Valid.{IsRightlyChosen}
use Rattle.gr_core.proofs.valid.ballots.are_rightly_chosen.Given as goal

-- the places so far are rightly chosen
abbrev pub invariant-loop-number : goal.invariant-loop-number
invariant-loop-number l = All (λ row. IsRightlyChosen l.tables row.0 row.1) (map deref_pair l.yielded)
