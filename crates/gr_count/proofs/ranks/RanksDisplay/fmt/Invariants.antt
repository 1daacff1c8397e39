use Rattle.std.proofs.Common.{take, map}
use Rattle.std.specs.Fmt.{HasWritten, IsPlainFormatter}
use Rattle.gr_count.specs.Ballot.{character_of, mark_of_rank}
use Rattle.gr_count.proofs.ranks.RanksDisplay.fmt.Given as goal

-- the marks so far are written
abbrev pub invariant-loop-rank : goal.invariant-loop-rank
invariant-loop-rank g l =
    IsPlainFormatter l.initial.f
    → HasWritten g.W.Write.write_str_gives l.initial.f (map character_of (map mark_of_rank (take l.rank-index l.rank-items))) l.f
