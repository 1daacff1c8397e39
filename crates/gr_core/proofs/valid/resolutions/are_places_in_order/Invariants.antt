use Rattle.std.proofs.Common.{◌≡◌, map}
use Rattle.std.specs.Map.Iter.{deref_pair}
use Rattle.gr_core.specs.InMemory.Tables.{choice_entry}
use Rattle.gr_core.specs.Desks.Valid.{places_of, up_to}
use Rattle.gr_core.proofs.valid.resolutions.are_places_in_order.Given as goal

abbrev pub invariant-loop-choice : goal.invariant-loop-choice
invariant-loop-choice l = record {
  places : places_of (map (λ item. choice_entry (deref_pair item)) l.yielded) ≡ up_to l.placed;
  can_next : (goal.iterator-loop-choice).can_next l.choice-iterator;
  finite : (goal.iterator-loop-choice).is_finite l.choice-iterator;
}
