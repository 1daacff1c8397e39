use Rattle.std.proofs.Common.{◌≡◌, ◌++◌, map, length}
use Rattle.std.specs.Map.Iter.{deref_pair}
use Rattle.gr_core.specs.Machine.Row.{row_of}
use Rattle.gr_core.specs.InMemory.Tables.{choice_entry}
use Rattle.gr_core.proofs.Contents.PlaceLemmas.{live_among, placed_rows}
use Rattle.gr_core.proofs.plan.discussion.add_places.Given as goal

abbrev pub invariant-loop-key : goal.invariant-loop-key
invariant-loop-key l =
    let entries = map (λ item. choice_entry (deref_pair item)) l.yielded in record {
      place : l.place ≡ length (live_among l.at entries);
      rows : map row_of l.changes.items ≡ map row_of l.initial.changes.items ++ placed_rows l.at entries;
      can_next : (goal.iterator-loop-key).can_next l.key-iterator;
      finite : (goal.iterator-loop-key).is_finite l.key-iterator;
    }
