-- Reading the text of a ballot from its front.
use Rattle.std.proofs.Common.{◌≡◌, ℕ, ◌<◌, List, length, take, map, get_or, replicate, refl, arith, sym, ap, subst, ◌∙◌, ◌+◌, ◌≤◌, ◌++◌, ◌∷◌, [], set, length-set, below_more}
use Rattle.std.proofs.lemmas.List.{length-replicate, take_more, take_more_set, map-append, get_or_default}
use Rattle.std.proofs.lemmas.List.Elements.{All-replicate, All-set}
use Rattle.std.specs.List.{All}
use Rattle.gr_count.specs.declared.limits.TheConstants.{RANKS}
use Rattle.gr_count.specs.Ballot.{IsMarkCharacter, mark_of, mark_of_rank}

-- the characters before i are marks of a ballot, and these are noted
pub record IsReadUpTo (text ranks : List ℕ) (room i : ℕ) : Type 0 where
  pub length_is : length ranks ≡ room
  pub characters : (k : ℕ) → k < i → IsMarkCharacter (get_or text k 0)
  pub noted : map mark_of_rank (take i ranks) ≡ map mark_of (take i text)
  -- these are ranks that there are, and so are the numbers that are not noted yet
  pub few : All (λ rank. rank ≤ RANKS) ranks

-- before the first character no mark is noted
pub IsReadUpTo-none : (text : List ℕ) (room : ℕ) → IsReadUpTo text (replicate room 0) room 0
IsReadUpTo-none text room = record {
  length_is = length-replicate room 0;
  characters = λ k before. absurd (omega arith);
  noted = refl;
  few = All-replicate (λ rank. rank ≤ RANKS) room 0 (omega arith);
}

-- one character more is noted
pub IsReadUpTo-more : (text ranks : List ℕ) (room i rank : ℕ) → IsReadUpTo text ranks room i → i < room → i < length text
    → IsMarkCharacter (get_or text i 0) → mark_of_rank rank ≡ mark_of (get_or text i 0) → rank ≤ RANKS → IsReadUpTo text (set ranks i rank) room (i + 1)
IsReadUpTo-more text ranks room i rank so_far inside within character says few =
    let room_is : length ranks ≡ room = so_far.length_is in
    record {
      length_is = rw length-set room_is;
      characters = below_more (λ k. IsMarkCharacter (get_or text k 0)) i so_far.characters character;
      noted =
          ap (map mark_of_rank) (take_more_set ranks i rank (omega arith))
          ∙ map-append mark_of_rank (take i ranks) (rank ∷ [])
          ∙ ap (λ ms. ms ++ mark_of_rank rank ∷ []) so_far.noted
          ∙ ap (λ m. map mark_of (take i text) ++ m ∷ []) says
          ∙ sym (map-append mark_of (take i text) (get_or text i 0 ∷ []))
          ∙ ap (map mark_of) (sym (take_more text i 0 within));
      few = All-set (λ r. r ≤ RANKS) ranks i rank few so_far.few;
    }

-- where all characters are noted, they are all of a ballot
pub all_are_marks : (text ranks : List ℕ) (room i : ℕ) → IsReadUpTo text ranks room i → length text ≤ i → All IsMarkCharacter text
all_are_marks text ranks room i so_far all k d below =
    subst IsMarkCharacter (get_or_default text k 0 d below) (so_far.characters k (omega arith))
