-- The discussions of a valid desk have an end.
use Rattle.std.proofs.Common.{◌≡◌, ℕ, ◌≤◌, Option, Some, None, refl, subst, arith}
use Rattle.std.specs.Prelude.{IfSome, option_and_then}
use Rattle.std.specs.FinMap.{get}
use Rattle.gr_core.specs.declared.limits.TheConstants.{MAX_MOMENT}
use Rattle.gr_core.specs.declared.discussion.Discussion.{Discussion}
use Rattle.gr_core.specs.declared.resolution.Resolution.{Resolution}
use Rattle.gr_core.specs.declared.resolution.Resolution.TheVariants.{Draft, Discussing, Voting, Closed, Cancelled}
use Rattle.gr_core.specs.Parts.Discussion.{IsTimely}
use Rattle.gr_core.specs.Parts.Resolution.{discussion_of, present_discussion}
use Rattle.gr_core.specs.Desks.State.{State}
use Rattle.gr_core.specs.Desks.Valid.{IsValid, IsDiscussion}
use Rattle.gr_core.specs.Machine.Act.{Act, resolution_of, discussion_at}
use Rattle.gr_core.specs.Laws.ResolutionLaws.{DiscussionsAreTimely}

no_discussion : (discussion : Discussion) → None ≡ Some discussion → ⊥
no_discussion discussion e = cc

-- a discussion that is not called to an end is one that the resolution has
is_present : (resolution : Resolution) (discussion : Discussion) → present_discussion resolution ≡ Some discussion → discussion_of resolution ≡ Some discussion
is_present (Discussing own) discussion is = is
is_present Draft discussion is = absurd (no_discussion discussion is)
is_present (Voting own poll) discussion is = absurd (no_discussion discussion is)
is_present (Closed own poll chosen) discussion is = absurd (no_discussion discussion is)
is_present (Cancelled own) discussion is = absurd (no_discussion discussion is)

-- moments up to a clock that is within its limit are within it
timely_by : (clock : ℕ) (discussion : Discussion) → clock ≤ MAX_MOMENT → IsDiscussion clock discussion → IsTimely discussion
timely_by clock discussion bound is = record {
  start = let come : discussion.start ≤ clock = is.start.1 in omega arith;
  changed = elim (discussion.changed) as (λ o. IfSome o (λ at. (discussion.start ≤ at) × (at ≤ clock)) → IfSome o (λ at. at ≤ MAX_MOMENT)) [
    | None ↦ λ none. tt
    | Some at ↦ λ come. (let before : at ≤ clock = come.1 in omega arith)
  ] is.changed;
  shift = is.shift;
}

-- so those of a discussion of a valid desk are within it
pub timely : DiscussionsAreTimely
timely s number resolution discussion valid there is =
    timely_by s.header.clock discussion valid.header.clock
    (subst (λ o. IfSome o (IsDiscussion s.header.clock)) is (valid.tables.resolutions number resolution there).discussion)

module _ (s : State) (valid : IsValid s) where
  timely_of : (number : ℕ) (found : Option Resolution) → get s.resolutions number ≡ found → (discussion : Discussion)
      → option_and_then present_discussion found ≡ Some discussion → IsTimely discussion
  timely_of number None at discussion is = absurd (no_discussion discussion is)
  timely_of number (Some resolution) at discussion is =
      timely s number resolution discussion valid at (is_present resolution discussion is)

  timely_where : (number : Option ℕ) (discussion : Discussion)
      → option_and_then present_discussion (option_and_then (get s.resolutions) number) ≡ Some discussion → IsTimely discussion
  timely_where None discussion is = absurd (no_discussion discussion is)
  timely_where (Some number) discussion is = timely_of number (get s.resolutions number) refl discussion is

  -- the discussion of the resolution that an act names has an end
  pub timely_at : (act : Act) (discussion : Discussion) → discussion_at s act ≡ Some discussion → IsTimely discussion
  timely_at act discussion is = timely_where (resolution_of act) discussion is
