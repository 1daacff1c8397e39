use Rattle.std.proofs.Common.{◌≡◌, ℕ, ◌<◌, ◌≤◌, map, length, slice_index}
use Rattle.std.specs.Map.Iter.{deref_pair}
use Rattle.gr_count.specs.Shown.{options_of_ratios, ratio_at}
use Rattle.gr_core.specs.InMemory.Tables.{choice_entry}
use Rattle.gr_core.proofs.Contents.RatioLemmas.{placed_among, ratios_of}
use Rattle.gr_core.proofs.choices.Choices.ratios.Given as goal

-- the options so far have the ratios of the choices with a place, the others have 1, and there are no more
abbrev pub invariant-loop-choice : goal.invariant-loop-choice
invariant-loop-choice l =
    let placed = placed_among (map (λ item. choice_entry (deref_pair item)) l.yielded) in record {
      option : l.option ≡ length placed;
      options : options_of_ratios l.ratios ≡ l.places;
      so_far : (k : ℕ) → k < length placed → ratio_at l.ratios k ≡ slice_index (ratios_of placed) k;
      others : (k : ℕ) → length placed ≤ k → k < l.places → ratio_at l.ratios k ≡ 1;
      beyond : (k : ℕ) → l.places ≤ k → ratio_at l.ratios k ≡ 0;
      can_next : (goal.iterator-loop-choice).can_next l.choice-iterator;
      finite : (goal.iterator-loop-choice).is_finite l.choice-iterator;
    }
