-- The moments of a valid desk have texts.
use Rattle.std.proofs.Common.{◌≡◌, ℕ, ◌≤◌, Option, Some, None, IfSome, IsSomeAnd, arith}
use Rattle.std.specs.List.{All}
use Rattle.std.specs.FinMap.{get}
use Rattle.std.proofs.lemmas.List.Elements.{All-weaker}
use Rattle.gr_core.specs.declared.choice.ChoiceKey.{ChoiceKey}
use Rattle.gr_core.specs.declared.resolution.Resolution.{Resolution}
use Rattle.gr_core.specs.declared.resolution.Resolution.TheVariants.{Draft, Discussing, Voting, Closed, Cancelled}
use Rattle.gr_core.specs.Parts.Resolution.{poll_of}
use Rattle.gr_core.specs.Parts.Choice.{ChoiceModel, choices_of}
use Rattle.gr_core.specs.Desks.State.{State}
use Rattle.gr_core.specs.Desks.Valid.{IsValid, IsResolution, IsChoice, IsChoiceIn}
use Rattle.gr_sheet.specs.Ballot.{IsTimelyPoll}
use Rattle.gr_sheet.specs.Date.{IsShown}
use Rattle.gr_sheet.specs.StatusSheet.{AreShownMoments}

-- what holds of a value that is there
of_found : {X : Type 0} (found : Option X) (P : X → Type 0) → IsSomeAnd found P → (x : X) × P x
of_found None P is = absurd is
of_found (Some x) P is = (x, is)

weaker : {X : Type 0} (value : Option X) (P Q : X → Type 0) → ((x : X) → P x → Q x) → IfSome value P → IfSome value Q
weaker None P Q follows is = tt
weaker (Some x) P Q follows is = follows x is

module _ (s : State) (valid : IsValid s) (number : ℕ) where
  polled : (resolution : Resolution) → IsResolution s.header.clock s number resolution → IfSome (poll_of resolution) IsTimelyPoll
  polled Draft is = tt
  polled (Discussing discussion) is = tt
  polled (Voting discussion poll) is =
      let come = is.poll.called.1 in
      let clock = valid.header.clock in
      record { called = omega arith; days = is.poll.days }
  polled (Closed discussion poll chosen) is =
      let come = is.poll.called.1 in
      let clock = valid.header.clock in
      record { called = omega arith; days = is.poll.days }
  polled (Cancelled discussion) is = tt

  -- those of a poll
  pub timely_poll : (resolution : Resolution) → get s.resolutions number ≡ Some resolution → IfSome (poll_of resolution) IsTimelyPoll
  timely_poll resolution found = polled resolution (valid.tables.resolutions number resolution found)

  shown_choice : (entry : ChoiceKey × ChoiceModel) → IsChoiceIn s number entry → AreShownMoments entry.1
  shown_choice entry is =
      let holds = (of_found (get s.resolutions number) (λ row. IsChoice s.header.clock s.developers row entry.1) is).1 in
      let clock = valid.header.clock in
      record {
        introduced = weaker entry.1.introduced (λ at. at ≤ s.header.clock) IsShown (λ at early. omega arith)
            (weaker entry.1.introduced _ (λ at. at ≤ s.header.clock) (λ at both. both.0) holds.introduced);
        short = weaker entry.1.short (λ at. at ≤ s.header.clock) IsShown (λ at early. omega arith)
            (weaker entry.1.short _ (λ at. at ≤ s.header.clock) (λ at both. both.0.1) holds.short);
      }

  -- and those of choices
  pub shown_choices : All (IsChoiceIn s number) (choices_of s.choices number)
      → All (λ entry. AreShownMoments entry.1) (choices_of s.choices number)
  shown_choices each =
      All-weaker (IsChoiceIn s number) (λ entry. AreShownMoments entry.1) shown_choice (choices_of s.choices number) each
