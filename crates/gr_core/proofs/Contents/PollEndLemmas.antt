-- The polls of a valid desk have an end.
use Rattle.std.proofs.Common.{◌≡◌, ℕ, ◌≤◌, Option, Some, None, refl, subst, arith}
use Rattle.std.specs.Prelude.{pos, IfSome, option_and_then}
use Rattle.std.specs.FinMap.{get}
use Rattle.gr_core.specs.declared.limits.TheConstants.{MAX_MOMENT}
use Rattle.gr_core.specs.declared.resolution.Poll.{Poll}
use Rattle.gr_core.specs.declared.resolution.Resolution.{Resolution}
use Rattle.gr_core.specs.declared.resolution.Resolution.TheVariants.{Draft, Discussing, Voting, Closed, Cancelled}
use Rattle.gr_core.specs.Parts.Discussion.{IsPeriod}
use Rattle.gr_core.specs.Parts.Resolution.{present_poll}
use Rattle.gr_core.specs.Desks.State.{State}
use Rattle.gr_core.specs.Desks.Valid.{IsValid, IsPoll}
use Rattle.gr_core.specs.Machine.Act.{Act, resolution_of, poll_held_at}

no_poll : (poll : Poll) → None ≡ Some poll → ⊥
no_poll poll e = cc

-- the moment of a poll and its days are within their limits, so that it has an end
pub record IsTimelyPoll (poll : Poll) : Type 0 where
  pub called : poll.called ≤ MAX_MOMENT
  pub days : IsPeriod (pos poll.days)

-- a moment up to a clock that is within its limit is within it
within : (clock moment : ℕ) → clock ≤ MAX_MOMENT → moment ≤ clock → moment ≤ MAX_MOMENT
within clock moment bound come = omega arith

module _ (s : State) (valid : IsValid s) where
  -- so are those of a poll that is held on a valid desk
  timely_in : (number : ℕ) (resolution : Resolution) → get s.resolutions number ≡ Some resolution → (poll : Poll)
      → present_poll resolution ≡ Some poll → IsTimelyPoll poll
  timely_in number (Voting discussion own) there poll is =
      let rules : IsPoll s.header.clock discussion poll =
      subst (λ o. IfSome o (IsPoll s.header.clock discussion)) is
      (valid.tables.resolutions number (Voting discussion own) there).poll in
      record {
        called = within s.header.clock poll.called valid.header.clock rules.called.1;
        days = rules.days;
      }
  timely_in number Draft there poll is = absurd (no_poll poll is)
  timely_in number (Discussing discussion) there poll is = absurd (no_poll poll is)
  timely_in number (Closed discussion own chosen) there poll is = absurd (no_poll poll is)
  timely_in number (Cancelled discussion) there poll is = absurd (no_poll poll is)

  timely_of : (number : ℕ) (found : Option Resolution) → get s.resolutions number ≡ found → (poll : Poll)
      → option_and_then present_poll found ≡ Some poll → IsTimelyPoll poll
  timely_of number None at poll is = absurd (no_poll poll is)
  timely_of number (Some resolution) at poll is = timely_in number resolution at poll is

  timely_where : (number : Option ℕ) (poll : Poll)
      → option_and_then present_poll (option_and_then (get s.resolutions) number) ≡ Some poll → IsTimelyPoll poll
  timely_where None poll is = absurd (no_poll poll is)
  timely_where (Some number) poll is = timely_of number (get s.resolutions number) refl poll is

  -- the poll that is held on the resolution that an act names has an end
  pub timely_poll_at : (act : Act) (poll : Poll) → poll_held_at s act ≡ Some poll → IsTimelyPoll poll
  timely_poll_at act poll is = timely_where (resolution_of act) poll is
