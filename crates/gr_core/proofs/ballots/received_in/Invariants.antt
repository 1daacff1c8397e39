use Rattle.std.proofs.Common.{◌≡◌, ◌+◌, ◌*◌, ◌^◌, ◌≤◌, length}
use Rattle.std.specs.List.{sum_by}
use Rattle.std.specs.BTreeMap.{values}
use Rattle.gr_core.specs.declared.ballot.Ballot.{Ballot}
use Rattle.gr_core.proofs.ballots.received_in.Given as goal

-- the sum so far and that of the ballots that are left are the whole, and there is room for a number for each of these
abbrev pub invariant-loop-ballot : goal.invariant-loop-ballot
invariant-loop-ballot l = record {
  sum : l.received + sum_by (λ (ballot : Ballot). ballot.received) l.ballot-iterator
      ≡ sum_by (λ (ballot : Ballot). ballot.received) (values l.ballots);
  room : l.received + length l.ballot-iterator * 2 ^ 32 ≤ length (values l.ballots) * 2 ^ 32;
}
