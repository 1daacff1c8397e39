-- The lines that more than one sheet of a resolution has (this project's profile).
use Rattle.std.specs.Prelude.{ℕ, ◌≤◌, pos, List, [], ◌∷◌, ◌++◌, Option, option_map, codes, decimal}
use Rattle.std.specs.List.{concat, filter_map, flat_map}
use Rattle.std.specs.Option.{option_map_or}
use Rattle.gr_core.specs.declared.limits.TheConstants.{MAX_MOMENT}
use Rattle.gr_core.specs.declared.choice.ChoiceKey.{ChoiceKey}
use Rattle.gr_core.specs.declared.resolution.Poll.{Poll}
use Rattle.gr_core.specs.Parts.Discussion.{IsPeriod}
use Rattle.gr_core.specs.Parts.Resolution.{end_of_voting}
use Rattle.gr_core.specs.Parts.Choice.{ChoiceModel, choices_of}
use Rattle.gr_core.specs.Desks.Outcome.{place_count}
use Rattle.gr_core.specs.Desks.State.{State}
use Rattle.gr_sheet.specs.Date.{moment_text}

-- when votes are or were taken (Constitution, 4.2.3), and how many developers were current at the call
abbrev pub called_lines : Poll → List ℕ
called_lines poll = concat (
    codes "Voting: " ∷ moment_text poll.called ∷ codes " to " ∷ moment_text (end_of_voting poll) ∷ codes "\n"
    ∷ codes "Developers: " ∷ decimal poll.developers ∷ codes "\n" ∷ [])

-- its moments are within their limits, so that each has a text
pub record IsTimelyPoll (poll : Poll) : Type 0 where
  pub called : poll.called ≤ MAX_MOMENT
  pub days : IsPeriod (pos poll.days)

-- a place on the ballot, and the summary of its choice
abbrev pub place_and_summary : ChoiceKey × ChoiceModel → Option (ℕ × List ℕ)
place_and_summary entry = option_map (λ place. (place, entry.1.wording.summary)) entry.1.place

abbrev pub option_line : ℕ × List ℕ → List ℕ
option_line option = concat (codes "Option " ∷ decimal option.0 ∷ codes ": " ∷ option.1 ∷ codes "\n" ∷ [])

-- the line of a choice on the ballot, and nothing for any other
abbrev pub line_if_placed : ChoiceModel → List ℕ
line_if_placed choice = option_map_or (λ place. option_line (place, choice.wording.summary)) choice.place []

-- the options of the ballot by place, the default option last (Constitution, A.3.2)
abbrev pub option_lines : State → ℕ → List ℕ
option_lines s number =
    flat_map option_line (filter_map place_and_summary (choices_of s.choices number))
    ++ option_line (place_count s.choices number, codes "None of the above")
