-- The bookkeeping of a choice: when it is introduced, when it is in want of a proposer or of sponsors, and when it has
-- lapsed.
use Rattle.std.specs.Prelude.{ℕ, ◌+◌, Bool, true, false, not, ◌&&◌, nat_le, Option, Some, None, is_some, is_none, if◌then◌else◌}
use Rattle.std.specs.FinMap.{get}
use Rattle.gr_core.specs.declared.limits.TheConstants.{DAY}
use Rattle.gr_count.specs.Threshold.{are_enough}
use Rattle.gr_core.specs.declared.choice.ChoiceKey.{ChoiceKey}
use Rattle.gr_core.specs.declared.bookkeeping.Gain.{Gain}
use Rattle.gr_core.specs.declared.bookkeeping.Gain.TheVariants.{Nothing, Introduction, Remedy}
use Rattle.gr_core.specs.Parts.Developer.{current_count}
use Rattle.gr_core.specs.Parts.Choice.{ChoiceModel, Proposer, Developer, Leader, Committee}
use Rattle.gr_core.specs.Parts.Sponsor.{sponsor_count}
use Rattle.gr_core.specs.Parts.Resolution.{entered}
use Rattle.gr_core.specs.Machine.Map.{changed_at}
use Rattle.gr_core.specs.Desks.State.{State}

-- A choice with such a proposer and so many sponsors, among so many current developers, can be introduced: the Leader
-- or the Committee needs no sponsors, a developer needs enough of them (Constitution, 4.2.1 and 4.2.7). Else it is in
-- want.
abbrev pub is_backed : Option Proposer → ℕ → ℕ → Bool
is_backed None sponsors developers = false
is_backed (Some (Developer login)) sponsors developers = are_enough sponsors developers
is_backed (Some Leader) sponsors developers = true
is_backed (Some Committee) sponsors developers = true

-- the choice is backed by the proposer and the sponsors that it has on this desk
abbrev pub backs : State → ChoiceKey → ChoiceModel → Bool
backs s key choice = is_backed choice.proposer (sponsor_count s.sponsors key) (current_count s.developers)

-- nobody proposes the choice, or a developer does and too few others sponsor it
abbrev pub is_in_want : State → ChoiceKey → ChoiceModel → Bool
is_in_want s key choice = not (backs s key choice)

-- ==== what a choice gains with a proposer or with a sponsor

-- Once it is backed, a choice that was not introduced is so from then on (Constitution, 4.2.1), and one that was short
-- is so no more (Constitution, A.2.3).
abbrev pub gain_of : Bool → (introduced short : Option ℕ) → Gain
gain_of false introduced short = Nothing
gain_of true None short = Introduction
gain_of true (Some at) None = Nothing
gain_of true (Some at) (Some since) = Remedy

abbrev pub gain_where : State → ChoiceKey → Option ChoiceModel → Gain
gain_where s key None = Nothing
gain_where s key (Some choice) = gain_of (backs s key choice) choice.introduced choice.short

-- what the choice gains on a desk where it has its new proposer or its new sponsor
abbrev pub gain_at : State → ChoiceKey → Gain
gain_at s key = gain_where s key (get s.choices key)

abbrev pub gained : Gain → ℕ → ChoiceModel → ChoiceModel
gained Nothing at choice = choice
gained Introduction at choice = record choice { introduced = Some at }
gained Remedy at choice = record choice { short = None }

abbrev pub with_gain : Gain → State → ℕ → ChoiceKey → State
with_gain Nothing s at key = s
with_gain Introduction s at key = record s {
  resolutions = changed_at s.resolutions key.resolution (entered at);
  choices = changed_at s.choices key (gained Introduction at);
}
with_gain Remedy s at key = record s { choices = changed_at s.choices key (gained Remedy at) }

-- the desk after this choice gained a proposer or a sponsor at this moment
abbrev pub after_gain : State → ℕ → ChoiceKey → State
after_gain s at key = with_gain (gain_at s key) s at key

-- ==== what a choice loses with its proposer or with a sponsor

-- an introduced choice that is in want is short, unless it is so already (Constitution, A.2.3)
abbrev pub becomes_short_where : State → ChoiceKey → Option ChoiceModel → Bool
becomes_short_where s key None = false
becomes_short_where s key (Some choice) = is_some choice.introduced && is_none choice.short && is_in_want s key choice

abbrev pub becomes_short : State → ChoiceKey → Bool
becomes_short s key = becomes_short_where s key (get s.choices key)

abbrev pub shortened : ℕ → ChoiceModel → ChoiceModel
shortened at choice = record choice { short = Some at }

-- the desk after this choice lost its proposer or a sponsor at this moment
abbrev pub after_loss : State → ℕ → ChoiceKey → State
after_loss s at key =
    if becomes_short s key then record s { choices = changed_at s.choices key (shortened at) } else s

-- ==== what becomes of a choice that stays short

abbrev pub lapses_by : ℕ → Option ℕ → Bool
lapses_by at None = false
lapses_by at (Some since) = nat_le (since + DAY) at

-- it was short for a day: no call gives it a place any more (Constitution, A.2.3; that this is for good is this
-- project's profile)
abbrev pub has_lapsed : ℕ → ChoiceModel → Bool
has_lapsed at choice = lapses_by at choice.short

-- a ballot made at this moment has it (Constitution, A.2.3)
abbrev pub is_live : ℕ → ChoiceModel → Bool
is_live at choice = is_some choice.introduced && not (has_lapsed at choice)
