-- Resolutions that may stand in the place of others, and what of them a table of choices keeps.
use Rattle.std.proofs.Common.{◌≡◌, ℕ, ◌<◌, ◌≤◌, ◌↔◌, true, length, is_some, IsSome, IfSome, IsSomeAnd, refl, sym, ◌∙◌, subst, arith}
use Rattle.std.proofs.lemmas.Int.{ints}
use Rattle.std.specs.Prelude.{ℤ}
use Rattle.std.specs.FinMap.{FinMap, get}
use Rattle.gr_core.specs.declared.limits.TheConstants.{MAX_CHOICES}
use Rattle.gr_core.specs.declared.resolution.Resolution.{Resolution}
use Rattle.gr_core.specs.declared.resolution.Resolution.TheVariants.{Draft, Discussing, Voting, Closed}
use Rattle.gr_core.specs.Parts.Discussion.{IsShift}
use Rattle.gr_core.specs.Parts.Developer.{DeveloperModel}
use Rattle.gr_core.specs.Parts.Key.{text_cmp}
use Rattle.gr_core.specs.Parts.Resolution.{discussion_of, poll_of, changed, entered, shifted, closed, decided}
use Rattle.gr_core.specs.Parts.Choice.{ChoiceModel, choice_key, choices_of}
use Rattle.gr_core.specs.Desks.State.{State}
use Rattle.gr_core.specs.Desks.Valid.{IsDiscussion, IsPoll, IsResolution, IsChoice, HasIntroduced, places_of, up_to}
use Rattle.gr_core.proofs.Collections.PresenceLemmas.{each}

-- what a resolution has to have that stands in the place of another one, its choices aside
pub record Becomes (clock : ℕ) (one other : Resolution) : Type 0 where
  pub discussion : IfSome (discussion_of other) (IsDiscussion clock)
  pub poll : IfSome (discussion_of other) (λ discussion. IfSome (poll_of other) (IsPoll clock discussion))
  pub sole : other ≡ Draft → one ≡ Draft
  pub started : (at : ℕ) → IsSomeAnd (discussion_of one) (λ discussion. discussion.start ≤ at)
      → IsSomeAnd (discussion_of other) (λ discussion. discussion.start ≤ at)
  pub polled : IsSome (poll_of one) → IsSome (poll_of other)

module _ (clock : ℕ) (s : State) (number : ℕ) where
  -- a resolution stays what it is
  pub stays : (resolution : Resolution) → IsResolution clock s number resolution → Becomes clock resolution resolution
  stays resolution was = record {
    discussion = was.discussion;
    poll = was.poll;
    sole = λ is. is;
    started = λ at is. is;
    polled = λ is. is;
  }

  -- a change of the ballot
  pub becomes-changed : (resolution : Resolution) → IsResolution clock s number resolution
      → Becomes clock resolution (changed clock resolution)
  becomes-changed Draft was = stays Draft was
  becomes-changed (Discussing discussion) was = record {
    discussion = record {
      start = was.discussion.start;
      changed = (was.discussion.start.1, (let same : clock ≤ clock = omega arith in same));
      shift = was.discussion.shift;
    };
    poll = tt;
    sole = λ is. absurd (cc);
    started = λ at is. is;
    polled = λ is. is;
  }
  becomes-changed other was = stays other was

  -- a choice is introduced
  pub becomes-entered : (resolution : Resolution) → 0 < clock → IsResolution clock s number resolution
      → Becomes clock resolution (entered clock resolution)
  becomes-entered Draft late was = record {
    discussion = record {
      start = (late, (let same : clock ≤ clock = omega arith in same));
      changed = tt;
      shift = record { least = omega (arith, ints); most = omega (arith, ints) };
    };
    poll = tt;
    sole = λ is. refl;
    started = λ at is. absurd is;
    polled = λ is. is;
  }
  becomes-entered (Discussing discussion) late was = becomes-changed (Discussing discussion) was
  becomes-entered other late was = stays other was

  -- the lengths of the discussion are varied
  pub becomes-shifted : (days : ℤ) (resolution : Resolution) → IsShift days → IsResolution clock s number resolution
      → Becomes clock resolution (shifted days resolution)
  becomes-shifted days Draft within was = stays Draft was
  becomes-shifted days (Discussing discussion) within was = record {
    discussion = record { start = was.discussion.start; changed = was.discussion.changed; shift = within };
    poll = tt;
    sole = λ is. absurd (cc);
    started = λ at is. is;
    polled = λ is. is;
  }
  becomes-shifted days other within was = stays other was

  -- the vote is over
  pub becomes-closed : (resolution : Resolution) → IsResolution clock s number resolution
      → Becomes clock resolution (closed resolution)
  becomes-closed (Voting discussion poll) was = record {
    discussion = was.discussion;
    poll = was.poll;
    sole = λ is. absurd (cc);
    started = λ at is. is;
    polled = λ is. is;
  }
  becomes-closed other was = stays other was

  -- a place is chosen
  pub becomes-decided : (place : ℕ) (resolution : Resolution) → IsResolution clock s number resolution
      → Becomes clock resolution (decided place resolution)
  becomes-decided place (Closed discussion poll chosen) was = record {
    discussion = was.discussion;
    poll = was.poll;
    sole = λ is. absurd (cc);
    started = λ at is. is;
    polled = λ is. is;
  }
  becomes-decided place other was = stays other was

-- a change of the ballot leaves the poll as it is
pub poll_of-changed : (at : ℕ) (resolution : Resolution) → poll_of (changed at resolution) ≡ poll_of resolution
poll_of-changed at (Discussing discussion) = refl
poll_of-changed at other = refl

-- so does an introduction
pub poll_of-entered : (at : ℕ) (resolution : Resolution) → poll_of (entered at resolution) ≡ poll_of resolution
poll_of-entered at (Discussing discussion) = refl
poll_of-entered at other = refl

-- and so does a variation
pub poll_of-shifted : (days : ℤ) (resolution : Resolution) → poll_of (shifted days resolution) ≡ poll_of resolution
poll_of-shifted days (Discussing discussion) = refl
poll_of-shifted days other = refl

-- a change of the ballot makes no discussion
pub discussed-changed : (at : ℕ) (resolution : Resolution) → IsSome (discussion_of (changed at resolution))
    → IsSome (discussion_of resolution)
discussed-changed at Draft is = is
discussed-changed at other is = refl

-- and so does a variation
pub discussed-shifted : (days : ℤ) (resolution : Resolution) → IsSome (discussion_of (shifted days resolution))
    → IsSome (discussion_of resolution)
discussed-shifted days Draft is = is
discussed-shifted days other is = refl

-- nor do the end of a vote and the casting vote
pub discussed-closed : (resolution : Resolution) → IsSome (discussion_of (closed resolution))
    → IsSome (discussion_of resolution)
discussed-closed Draft is = is
discussed-closed other is = refl

pub discussed-decided : (place : ℕ) (resolution : Resolution) → IsSome (discussion_of (decided place resolution))
    → IsSome (discussion_of resolution)
discussed-decided place Draft is = is
discussed-decided place other is = refl

-- the choices of a resolution have the same numbers
pub record KeepsNumbers (s t : State) (number : ℕ) : Type 0 where
  pub length_is : length (choices_of t.choices number) ≡ length (choices_of s.choices number)
  pub keys : (choice : ℕ) → is_some (get t.choices (choice_key number choice))
      ≡ is_some (get s.choices (choice_key number choice))

-- the places that a poll wants
pub record ArePlaced (t : State) (number : ℕ) : Type 0 where
  pub places : places_of (choices_of t.choices number) ≡ up_to (length (places_of (choices_of t.choices number)))
  pub placed : 0 < length (places_of (choices_of t.choices number))

-- a resolution whose choices have the numbers of one that was there may stand in its place
pub resolution-kept : (clock : ℕ) (s t : State) (number : ℕ) (one other : Resolution) → KeepsNumbers s t number
    → Becomes clock one other
    → (IsSome (poll_of other) → ArePlaced t number) → (IsSome (discussion_of other) → HasIntroduced t number)
    → IsResolution clock s number one → IsResolution clock t number other
resolution-kept clock s t number one other keeps becomes placed introduced was = record {
  discussion = becomes.discussion;
  poll = becomes.poll;
  some = subst (λ n. 1 ≤ n) (sym keeps.length_is) was.some;
  few = subst (λ n. n ≤ MAX_CHOICES) (sym keeps.length_is) was.few;
  numbered = λ choice. subst (λ b. b ≡ true ↔ ((0 < choice) × (choice ≤ length (choices_of t.choices number))))
      (sym (keeps.keys choice))
      (subst (λ n. is_some (get s.choices (choice_key number choice)) ≡ true ↔ ((0 < choice) × (choice ≤ n)))
      (sym keeps.length_is) (was.numbered choice));
  sole = λ draft. keeps.length_is ∙ was.sole (becomes.sole draft);
  introduced = introduced;
  places = λ polled. (placed polled).places;
  placed = λ polled. (placed polled).placed;
}

-- a choice keeps its resolution
pub choice-kept : (clock : ℕ) (developers : FinMap text_cmp DeveloperModel) (one other : Resolution) (row : ChoiceModel)
    → Becomes clock one other
    → IsChoice clock developers one row → IsChoice clock developers other row
choice-kept clock developers one other row becomes was = record {
  proposer = was.proposer;
  summary = was.summary;
  text = was.text;
  ratio = was.ratio;
  introduced = each row.introduced _ _ (λ at is. (is.0, becomes.started at is.1)) was.introduced;
  short = was.short;
  place = each row.place _ _ (λ place is. (is.0, becomes.polled is.1)) was.place;
}
