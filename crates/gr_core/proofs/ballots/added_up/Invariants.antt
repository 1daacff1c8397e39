use Rattle.std.proofs.Common.{◌≡◌, map, length, take}
use Rattle.std.specs.FinMap.{from_entries}
use Rattle.gr_count.specs.PairwiseCount.{IsPairwiseCountOf}
use Rattle.gr_count.specs.Shown.{ballots_in, options_of_pairs}
use Rattle.gr_core.specs.InMemory.Ballots.{voter_in}
use Rattle.gr_core.proofs.ballots.added_up.Given as goal

-- so far they are the counts of the first ballots' vote
abbrev pub invariant-loop-ballot : goal.invariant-loop-ballot
invariant-loop-ballot l = record {
  options : options_of_pairs l.pairs ≡ l.places;
  ballots : ballots_in l.pairs ≡ length l.yielded;
  tally : IsPairwiseCountOf l.pairs (from_entries (map voter_in (take (length l.yielded) l.ballots.entries)));
  can_next : (goal.iterator-loop-ballot).can_next l.ballot-iterator;
  finite : (goal.iterator-loop-ballot).is_finite l.ballot-iterator;
}
