-- What a close and a casting vote leave of a resolution, its discussion and its poll, and what a casting vote finds.
use Rattle.std.proofs.Common.{◌≡◌, ℕ, inr, Some, None, IsSome, IsFalse, refl, ap}
use Rattle.std.specs.FinMap.{get}
use Rattle.gr_core.specs.declared.discussion.Discussion.{Discussion}
use Rattle.gr_core.specs.declared.resolution.Poll.{Poll}
use Rattle.gr_core.specs.declared.resolution.Resolution.{Resolution}
use Rattle.gr_core.specs.declared.resolution.Resolution.TheVariants.{Voting, Closed}
use Rattle.gr_core.specs.declared.refusal.Refusal.TheVariants.{NoResolution, WrongStage, Already}
use Rattle.gr_core.specs.Parts.Resolution.{discussion_of, poll_of, chosen_of, is_closed, closed, decided}
use Rattle.gr_core.specs.Desks.State.{State}
use Rattle.gr_core.specs.Machine.Act.{Cast}
use Rattle.gr_core.specs.Machine.Refusal.{IsAccepted}
use Rattle.gr_core.proofs.Collections.PresenceLemmas.{there, given, absent}

-- ==== what they leave

-- a close leaves the discussion
pub discussion_of-closed : (resolution : Resolution) → discussion_of (closed resolution) ≡ discussion_of resolution
discussion_of-closed (Voting discussion poll) = refl
discussion_of-closed other = refl

-- and the poll
pub poll_of-closed : (resolution : Resolution) → poll_of (closed resolution) ≡ poll_of resolution
poll_of-closed (Voting discussion poll) = refl
poll_of-closed other = refl

-- a casting vote leaves the discussion
pub discussion_of-decided : (place : ℕ) (resolution : Resolution)
    → discussion_of (decided place resolution) ≡ discussion_of resolution
discussion_of-decided place (Closed discussion poll chosen) = refl
discussion_of-decided place other = refl

-- and the poll
pub poll_of-decided : (place : ℕ) (resolution : Resolution) → poll_of (decided place resolution) ≡ poll_of resolution
poll_of-decided place (Closed discussion poll chosen) = refl
poll_of-decided place other = refl

-- ==== what a casting vote finds

-- a closed resolution of which no place was chosen
pub record IsUndecided (resolution : Resolution) : Type 0 where
  pub discussion : Discussion
  pub poll : Poll
  pub is : resolution ≡ Closed discussion poll None

-- one that is neither refused as another nor as one of which a place was chosen
pub undecided : (resolution : Resolution) → ¬ (IsFalse (is_closed resolution)) → chosen_of resolution ≡ None
    → IsUndecided resolution
undecided (Closed discussion poll chosen) refused none =
    record { discussion = discussion; poll = poll; is = ap (Closed discussion poll) none }
undecided other refused none = absurd (refused refl)

module _ (s : State) (at number : ℕ) where
  -- an accepted casting vote finds nothing chosen
  pub cast-nothing : (place : ℕ) → IsAccepted s at (Cast number place) → (before : Resolution)
      → get s.resolutions number ≡ Some before → chosen_of before ≡ None
  cast-nothing place accepted before is =
      absent (chosen_of before) (λ chosen. accepted Already
      (inr (given (get s.resolutions number) (λ row. IsSome (chosen_of row)) before is chosen)))

  -- and that in a closed resolution
  pub cast-undecided : (place : ℕ) → IsAccepted s at (Cast number place)
      → (resolution : Resolution) × (get s.resolutions number ≡ Some resolution) × IsUndecided resolution
  cast-undecided place accepted =
      let found = there (get s.resolutions number) (λ none. accepted NoResolution none) in (
        found.0,
        found.1,
        undecided found.0 (λ wrong. accepted WrongStage
            (given (get s.resolutions number) (λ row. IsFalse (is_closed row)) found.0 found.1 wrong))
            (cast-nothing place accepted found.0 found.1),
      )
