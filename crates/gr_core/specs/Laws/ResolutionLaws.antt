-- What a reader expects of resolutions, choices and sponsors, from one valid state to the next and over lists of acts.
use Rattle.std.specs.Prelude.{◌≡◌, ◌≢◌, ◌↔◌, ℕ, zero, suc, ℤ, ◌≤◌, ⊤, Bool, true, false, List, length, Option, Some, None, IsTrue, IsSome, IsSomeAnd}
use Rattle.std.specs.FinMap.{get}
use Rattle.gr_core.specs.declared.discussion.Discussion.{Discussion}
use Rattle.gr_core.specs.declared.resolution.Poll.{Poll}
use Rattle.gr_core.specs.declared.resolution.Resolution.{Resolution}
use Rattle.gr_core.specs.declared.resolution.Resolution.TheVariants.{Draft, Discussing, Voting, Closed, Cancelled}
use Rattle.gr_core.specs.declared.choice.ChoiceKey.{ChoiceKey}
use Rattle.gr_core.specs.declared.sponsor.Sponsorship.TheVariants.{Active}
use Rattle.gr_core.specs.declared.command.Amendment.TheVariants.{Minor}
use Rattle.gr_core.specs.declared.reply.Reply.{Reply}
use Rattle.gr_core.specs.Parts.Discussion.{IsTimely, earliest_end, latest_end, end_of}
use Rattle.gr_core.specs.Parts.Resolution.{discussion_of}
use Rattle.gr_core.specs.Parts.Choice.{ChoiceModel, Developer, choice_key, choices_of}
use Rattle.gr_core.specs.Desks.State.{State}
use Rattle.gr_core.specs.Desks.Valid.{IsValid, places_of, up_to}
use Rattle.gr_core.specs.Machine.Bookkeeping.{has_lapsed, is_live}
use Rattle.gr_core.specs.Machine.Act.{Act, Propose, Unsponsor, Withdraw, Amend, Vary, Call, choice_of, resolution_of, discussion_at}
use Rattle.gr_core.specs.Machine.Refusal.{IsAccepted}
use Rattle.gr_core.specs.Machine.Effect.{next_resolution, live_choices, poll_at}
use Rattle.gr_core.specs.Machine.Step.{Answer, Accepted, Step}
use Rattle.gr_core.specs.Machine.Run.{After}
use Rattle.gr_core.specs.Laws.MachineLaws.{changes_roll}

-- ==== what an act touches

-- under the number of a resolution both states have the same rows of every table
pub record AreAlikeUnder (s t : State) (resolution : ℕ) : Type 0 where
  pub row : get t.resolutions resolution ≡ get s.resolutions resolution
  pub choices : (number : ℕ)
      → get t.choices (choice_key resolution number) ≡ get s.choices (choice_key resolution number)
  pub sponsors : (number : ℕ) (login : List ℕ)
      → get t.sponsors (choice_key resolution number, login) ≡ get s.sponsors (choice_key resolution number, login)
  pub ballots : (login : List ℕ) → get t.ballots (resolution, login) ≡ get s.ballots (resolution, login)

-- the resolution that an act names, or makes
abbrev pub touched : State → Act → Option ℕ
touched s (Propose proposer wording ratio) = Some (next_resolution s)
touched s other = resolution_of other

-- an act touches only the resolution that it names or makes
abbrev pub ActsTouchOneResolution : Type 0
ActsTouchOneResolution = (s : State) (at : ℕ) (act : Act) (reply : Reply) (t : State) (resolution : ℕ)
    → Step s at act (Accepted reply) t → touched s act ≢ Some resolution → AreAlikeUnder s t resolution

-- an act that is no change of the roll leaves it
abbrev pub OnlyChangesOfTheRollTouchIt : Type 0
OnlyChangesOfTheRollTouchIt = (s : State) (at : ℕ) (act : Act) (reply : Reply) (t : State)
    → changes_roll act ≡ false → Step s at act (Accepted reply) t → t.developers ≡ s.developers

-- a change of the roll touches none of the other tables
abbrev pub ChangesOfTheRollTouchNothingElse : Type 0
ChangesOfTheRollTouchNothingElse = (s : State) (at : ℕ) (act : Act) (reply : Reply) (t : State)
    → changes_roll act ≡ true → Step s at act (Accepted reply) t
    → (t.resolutions ≡ s.resolutions) × (t.choices ≡ s.choices) × (t.sponsors ≡ s.sponsors) × (t.ballots ≡ s.ballots)

-- the number of a new resolution had no rows
pub record HasNothing (s : State) (resolution : ℕ) : Type 0 where
  pub row : get s.resolutions resolution ≡ None
  pub choices : (number : ℕ) → get s.choices (choice_key resolution number) ≡ None
  pub sponsors : (number : ℕ) (login : List ℕ) → get s.sponsors (choice_key resolution number, login) ≡ None
  pub ballots : (login : List ℕ) → get s.ballots (resolution, login) ≡ None

abbrev pub NewNumbersHaveNothing : Type 0
NewNumbersHaveNothing = (s : State) → IsValid s → HasNothing s (next_resolution s)

-- ==== stages

-- what may become of a resolution by one act
abbrev pub MayBecome : Resolution → Resolution → Type 0
MayBecome Draft Draft = ⊤
MayBecome Draft (Discussing discussion) = ⊤
MayBecome (Discussing before) (Discussing after) = ⊤
MayBecome (Discussing before) (Voting after poll) = before ≡ after
MayBecome (Discussing before) (Cancelled after) = before ≡ after
MayBecome (Voting before held) (Closed after poll None) = (before ≡ after) × (held ≡ poll)
MayBecome (Closed before held None) (Closed after poll (Some place)) = (before ≡ after) × (held ≡ poll)
MayBecome before after = before ≡ after

-- each act leaves a resolution in its stage, or in the next one
abbrev pub StagesFollowOneAnother : Type 0
StagesFollowOneAnother = (s : State) (at : ℕ) (act : Act) (reply : Reply) (t : State) (number : ℕ) (before : Resolution)
    → IsValid s → Step s at act (Accepted reply) t → get s.resolutions number ≡ Some before
    → IsSomeAnd (get t.resolutions number) (MayBecome before)

-- nothing of a cancelled resolution changes any more
abbrev pub CancelledResolutionsStayAsTheyAre : Type 0
CancelledResolutionsStayAsTheyAre = (s : State) (acts : List (ℕ × Act)) (answers : List Answer) (t : State)
    (number : ℕ) (discussion : Discussion)
    → get s.resolutions number ≡ Some (Cancelled discussion) → IsValid s → After s acts answers t
    → AreAlikeUnder s t number

-- ==== the discussion

-- a discussion keeps its start (Constitution, A.1.1)
abbrev pub StartsStay : Type 0
StartsStay = (s : State) (at : ℕ) (act : Act) (reply : Reply) (t : State) (number : ℕ) (before : Resolution)
    (discussion : Discussion)
    → IsValid s → Step s at act (Accepted reply) t → get s.resolutions number ≡ Some before
    → discussion_of before ≡ Some discussion
    → IsSomeAnd (get t.resolutions number) (λ after.
    IsSomeAnd (discussion_of after) (λ later. later.start ≡ discussion.start))

-- the moments of a discussion and its shift are within their limits, so that it has an end
abbrev pub DiscussionsAreTimely : Type 0
DiscussionsAreTimely = (s : State) (number : ℕ) (resolution : Resolution) (discussion : Discussion)
    → IsValid s → get s.resolutions number ≡ Some resolution → discussion_of resolution ≡ Some discussion
    → IsTimely discussion

-- a discussion ends between its earliest and its latest end (Constitution, A.1.1, A.1.4 and A.1.6)
abbrev pub EndsLieBetween : Type 0
EndsLieBetween = (s : State) (number : ℕ) (resolution : Resolution) (discussion : Discussion)
    → IsValid s → get s.resolutions number ≡ Some resolution → discussion_of resolution ≡ Some discussion
    → (earliest_end discussion.start discussion.shift ≤ end_of discussion)
    × (end_of discussion ≤ latest_end discussion.start discussion.shift)

-- it is a variation
abbrev pub varies : Act → Bool
varies (Vary resolution days) = true
varies other = false

-- no act but a variation makes a discussion end earlier (Constitution, A.1.4)
abbrev pub OnlyVariationsEndEarlier : Type 0
OnlyVariationsEndEarlier = (s : State) (at : ℕ) (act : Act) (reply : Reply) (t : State) (number : ℕ)
    (before : Resolution) (discussion : Discussion)
    → IsValid s → Step s at act (Accepted reply) t → varies act ≡ false → get s.resolutions number ≡ Some before
    → discussion_of before ≡ Some discussion
    → IsSomeAnd (get t.resolutions number) (λ after.
    IsSomeAnd (discussion_of after) (λ later. end_of discussion ≤ end_of later))

-- it is a minor amendment, or the withdrawal of a proposer or of a sponsor
abbrev pub leaves_the_end : Act → Bool
leaves_the_end (Amend choice Minor wording) = true
leaves_the_end (Withdraw choice) = true
leaves_the_end (Unsponsor choice login) = true
leaves_the_end other = false

-- these leave every resolution as it is, and so the end of its discussion (Constitution, A.1.5 and A.2.3)
abbrev pub WithdrawalsAndMinorAmendmentsLeaveTheEnd : Type 0
WithdrawalsAndMinorAmendmentsLeaveTheEnd = (s : State) (at : ℕ) (act : Act) (reply : Reply) (t : State)
    → leaves_the_end act ≡ true → Step s at act (Accepted reply) t → t.resolutions ≡ s.resolutions

-- ==== choices

-- an introduced choice keeps its moment of introduction
abbrev pub IntroducedChoicesStayIntroduced : Type 0
IntroducedChoicesStayIntroduced = (s : State) (acts : List (ℕ × Act)) (answers : List Answer) (t : State)
    (key : ChoiceKey) (choice : ChoiceModel) (moment : ℕ)
    → IsValid s → get s.choices key ≡ Some choice → choice.introduced ≡ Some moment → After s acts answers t
    → IsSomeAnd (get t.choices key) (λ later. later.introduced ≡ Some moment)

-- A choice that has lapsed by the clock changes no more, nor do its sponsors (Constitution, A.2.3). So no call gives it
-- a place.
abbrev pub LapsedChoicesStayAsTheyAre : Type 0
LapsedChoicesStayAsTheyAre = (s : State) (acts : List (ℕ × Act)) (answers : List Answer) (t : State)
    (key : ChoiceKey) (choice : ChoiceModel)
    → IsValid s → get s.choices key ≡ Some choice → IsTrue (has_lapsed s.header.clock choice) → After s acts answers t
    → (get t.choices key ≡ Some choice)
    × ((login : List ℕ) → get t.sponsors (key, login) ≡ get s.sponsors (key, login))

-- and the acts on it are refused
abbrev pub ActsOnLapsedChoicesAreRefused : Type 0
ActsOnLapsedChoicesAreRefused = (s : State) (at : ℕ) (act : Act) (key : ChoiceKey) (choice : ChoiceModel)
    → choice_of act ≡ Some key → get s.choices key ≡ Some choice → IsTrue (has_lapsed at choice)
    → ¬ (IsAccepted s at act)

-- the present proposer of a choice is no active sponsor of it (Constitution, 4.2.1)
abbrev pub ProposersSponsorNothing : Type 0
ProposersSponsorNothing = (s : State) (key : ChoiceKey) (choice : ChoiceModel) (login : List ℕ)
    → IsValid s → get s.choices key ≡ Some choice → choice.proposer ≡ Some (Developer login)
    → get s.sponsors (key, login) ≢ Some Active

-- ==== a call

-- what a call for this poll makes of a discussion with so many live choices (Constitution, A.2.4 and A.3.1)
abbrev pub after_call : ℕ → Poll → Discussion → Resolution
after_call zero poll discussion = Cancelled discussion
after_call (suc others) poll discussion = Voting discussion poll

-- A call puts on the ballot just the choices that are live then, in their order, and the vote begins; where there are
-- none, it cancels.
abbrev pub CallsPlaceTheLiveChoices : Type 0
CallsPlaceTheLiveChoices = (s : State) (at : ℕ) (resolution : ℕ) (days : ℤ) (reply : Reply) (t : State)
    → IsValid s → Step s at (Call resolution days) (Accepted reply) t
    → IsSomeAnd (discussion_at s (Call resolution days)) (λ discussion. get t.resolutions resolution
    ≡ Some (after_call (length (live_choices s.choices at resolution)) (poll_at s at days) discussion))
    × (places_of (choices_of t.choices resolution) ≡ up_to (length (live_choices s.choices at resolution)))
    × ((number : ℕ) (choice : ChoiceModel) → get t.choices (choice_key resolution number) ≡ Some choice
    → IsSome choice.place ↔ IsSomeAnd (get s.choices (choice_key resolution number)) (λ before.
    IsTrue (is_live at before)))
