-- An accepted vote finds the poll that is held, and brings a ballot for it.
use Rattle.std.proofs.Common.{ℕ, List, Option, Some, None, IsSome, IsSomeAnd, refl}
use Rattle.std.specs.Prelude.{◌≡◌, IsFalse, option_and_then}
use Rattle.std.specs.FinMap.{get}
use Rattle.gr_count.specs.Ballot.{IsBallot}
use Rattle.gr_core.specs.declared.resolution.Resolution.{Resolution}
use Rattle.gr_core.specs.declared.resolution.Resolution.TheVariants.{Draft, Discussing, Voting, Closed, Cancelled}
use Rattle.gr_core.specs.declared.refusal.Refusal.TheVariants.{NoResolution, WrongStage, BadRanks}
use Rattle.gr_core.specs.Parts.Resolution.{poll_of, present_poll, is_voting}
use Rattle.gr_core.specs.Desks.State.{State}
use Rattle.gr_core.specs.Desks.Outcome.{place_count}
use Rattle.gr_core.specs.Machine.Act.{Vote}
use Rattle.gr_core.specs.Machine.Refusal.{IsAccepted}
use Rattle.gr_core.proofs.Contents.BallotTexts.{IsBallot-stable}

-- a resolution that is found, and in a stage in which a vote may come, has a poll that is held
found_poll : (found : Option Resolution) → ¬ (found ≡ None) → ¬ (IsSomeAnd found (λ row. IsFalse (is_voting row)))
    → IsSome (option_and_then present_poll found)
found_poll None there stage = absurd (there refl)
found_poll (Some (Voting discussion poll)) there stage = refl
found_poll (Some Draft) there stage = absurd (stage refl)
found_poll (Some (Discussing discussion)) there stage = absurd (stage refl)
found_poll (Some (Closed discussion poll chosen)) there stage = absurd (stage refl)
found_poll (Some (Cancelled discussion)) there stage = absurd (stage refl)

-- a poll that is held is one that the resolution has
pub held_is_had : (found : Option Resolution) → IsSome (option_and_then present_poll found)
    → IsSome (option_and_then poll_of found)
held_is_had None held = held
held_is_had (Some (Voting discussion poll)) held = refl
held_is_had (Some Draft) held = held
held_is_had (Some (Discussing discussion)) held = held
held_is_had (Some (Closed discussion poll chosen)) held = refl
held_is_had (Some (Cancelled discussion)) held = held

module _ (s : State) (at resolution : ℕ) (login ranks token : List ℕ)
    (accepted : IsAccepted s at (Vote resolution login ranks token)) where
  -- the poll that is held on its resolution
  pub poll_of_vote : IsSome (option_and_then present_poll (get s.resolutions resolution))
  poll_of_vote = found_poll (get s.resolutions resolution) (accepted NoResolution) (accepted WrongStage)

  -- its ranks
  pub ranks_of_vote : IsBallot (place_count s.choices resolution) ranks
  ranks_of_vote =
      IsBallot-stable (place_count s.choices resolution) ranks (λ no. accepted BadRanks (poll_of_vote, no))
