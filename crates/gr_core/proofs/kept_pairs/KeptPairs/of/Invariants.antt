use Rattle.std.proofs.Common.{map}
use Rattle.std.specs.Map.Iter.{deref_pair}
use Rattle.gr_core.proofs.Validity.KeptPairsLemmas.{KeepsRows}
use Rattle.gr_core.proofs.kept_pairs.KeptPairs.of.Given as goal

-- the counts of the resolutions so far are kept
abbrev pub invariant-loop-number : goal.invariant-loop-number
invariant-loop-number l = KeepsRows l.tables l.kept (map deref_pair l.yielded)
