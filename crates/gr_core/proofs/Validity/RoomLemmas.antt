-- What a valid desk has room for, at acts that it accepts.
use Rattle.std.proofs.Common.{◌≡◌, ℕ, ◌<◌, ◌≤◌, inl, inr, length, Some, None, refl, arith}
use Rattle.std.specs.Prelude.{ℤ}
use Rattle.std.specs.FinMap.{get, len}
use Rattle.gr_count.specs.declared.limits.TheConstants.{MAX_DEVELOPERS}
use Rattle.gr_core.specs.declared.limits.TheConstants.{MAX_MOMENT, MAX_ACCEPTED, MAX_RESOLUTIONS, MAX_CHOICES}
use Rattle.gr_core.specs.declared.refusal.Refusal.TheVariants.{BadMoment, BadDays, Full, NoResolution}
use Rattle.gr_core.specs.Parts.Discussion.{IsPeriod}
use Rattle.gr_core.specs.Parts.Developer.{is_current, current_count}
use Rattle.gr_core.specs.Parts.Choice.{Proposer, Wording, choices_of}
use Rattle.gr_core.specs.Desks.State.{State}
use Rattle.gr_core.specs.Desks.Valid.{IsValid}
use Rattle.gr_core.specs.Machine.Act.{Act, Propose, AddChoice, Call}
use Rattle.gr_core.specs.Machine.Refusal.{IsAccepted}
use Rattle.gr_core.proofs.Collections.CountLemmas.{count-le_len}
use Rattle.gr_core.proofs.Contents.StableLemmas.{lt_or_ge, IsMoment-stable, IsPeriod-stable}

module _ (s : State) (at : ℕ) where
  -- the moment of an accepted act
  pub moment_fits : (act : Act) → IsAccepted s at act → at ≤ MAX_MOMENT
  moment_fits act accepted = (IsMoment-stable at (accepted BadMoment)).1

  -- one accepted act more
  pub room_for_one : (act : Act) → IsAccepted s at act → s.header.accepted < MAX_ACCEPTED
  room_for_one act accepted = elim (lt_or_ge s.header.accepted MAX_ACCEPTED) [
    | inl below ↦ below
    | inr full ↦ absurd (accepted Full (inl full))
  ]

  -- one resolution more
  pub room_to_propose : (proposer : Proposer) (wording : Wording) (ratio : ℕ)
      → IsAccepted s at (Propose proposer wording ratio)
      → len s.resolutions < MAX_RESOLUTIONS
  room_to_propose proposer wording ratio accepted = elim (lt_or_ge (len s.resolutions) MAX_RESOLUTIONS) [
    | inl below ↦ below
    | inr full ↦ absurd (accepted Full (inr full))
  ]

  -- one choice more
  pub room_to_add : (resolution : ℕ) (proposer : Proposer) (wording : Wording) (ratio : ℕ)
      → IsAccepted s at (AddChoice resolution proposer wording ratio)
      → length (choices_of s.choices resolution) < MAX_CHOICES
  room_to_add resolution proposer wording ratio accepted =
      elim (lt_or_ge (length (choices_of s.choices resolution)) MAX_CHOICES) [
        | inl below ↦ below
        | inr full ↦ absurd (accepted Full (inr full))
      ]

  -- the days of a call
  pub days_of_call : (resolution : ℕ) (days : ℤ) → IsAccepted s at (Call resolution days) → IsPeriod days
  days_of_call resolution days accepted = IsPeriod-stable days (λ no. accepted BadDays (inr no))

  -- the choices of a resolution that is called
  pub choices_of_call : (resolution : ℕ) (days : ℤ) → IsValid s → IsAccepted s at (Call resolution days)
      → length (choices_of s.choices resolution) ≤ MAX_CHOICES
  choices_of_call resolution days valid accepted =
      elim (get s.resolutions resolution) as (λ o. get s.resolutions resolution ≡ o
      → length (choices_of s.choices resolution) ≤ MAX_CHOICES) [
        | None ↦ λ nowhere. absurd (accepted NoResolution nowhere)
        | Some row ↦ λ there. (valid.tables.resolutions resolution row there).few
      ] refl

-- no more developers are current than may be on the roll
pub current_fit : (s : State) → IsValid s → current_count s.developers ≤ MAX_DEVELOPERS
current_fit s valid =
    let current : current_count s.developers ≤ len s.developers =
    count-le_len (λ entry. is_current entry.1.standing) s.developers in
    let few : len s.developers ≤ MAX_DEVELOPERS = valid.tables.few in
    omega arith
