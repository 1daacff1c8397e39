-- The status of a resolution, as exact text: its stage, its clock and its choices, and nothing of its ballots (this
-- project's profile; Constitution, 4.2.3).
use Rattle.std.specs.Prelude.{ℕ, ◌-◌, ◌==◌, if◌then◌else◌, List, [], ◌∷◌, ◌++◌, length, map, filter, take, slice_index, Option, Some, None, IfSome, codes, decimal, String, string_bytes}
use Rattle.std.specs.List.{concat, flat_map, slice_split}
use Rattle.std.specs.declared.alloc.Global.{Global}
use Rattle.std.specs.FinMap.{FinMap}
use Rattle.gr_core.specs.declared.choice.ChoiceKey.{ChoiceKey}
use Rattle.gr_core.specs.declared.discussion.Discussion.{Discussion}
use Rattle.gr_core.specs.declared.resolution.Poll.{Poll}
use Rattle.gr_core.specs.declared.resolution.Resolution.{Resolution}
use Rattle.gr_core.specs.declared.resolution.Resolution.TheVariants.{Draft, Discussing, Voting, Closed, Cancelled}
use Rattle.gr_core.specs.declared.sponsor.Sponsorship.{Sponsorship}
use Rattle.gr_core.specs.Parts.Key.{sponsor_cmp}
use Rattle.gr_core.specs.Parts.Discussion.{end_of}
use Rattle.gr_core.specs.Parts.Resolution.{discussion_of, poll_of}
use Rattle.gr_core.specs.Parts.Choice.{ChoiceModel, Proposer, Developer, Leader, Committee, choices_of}
use Rattle.gr_core.specs.Parts.Sponsor.{is_active, sponsors_of_choice}
use Rattle.gr_core.specs.Desks.State.{State}
use Rattle.gr_sheet.specs.declared.choice.TheConstants.{LINE_FEED}
use Rattle.gr_sheet.specs.Date.{moment_text, IsShown}
use Rattle.gr_sheet.specs.Ballot.{called_lines}

-- ==== the resolution

abbrev pub stage_word : Resolution → List ℕ
stage_word Draft = codes "Draft"
stage_word (Discussing discussion) = codes "Discussing"
stage_word (Voting discussion poll) = codes "Voting"
stage_word (Closed discussion poll chosen) = codes "Closed"
stage_word (Cancelled discussion) = codes "Cancelled"

-- its number and its stage
abbrev pub status_head : ℕ → Resolution → List ℕ
status_head number resolution =
    concat (codes "Resolution " ∷ decimal number ∷ codes "\nStage: " ∷ stage_word resolution ∷ codes "\n" ∷ [])

-- from when to when it is or was discussed (Constitution, A.1): a draft is not yet
abbrev pub discussion_line : Option Discussion → List ℕ
discussion_line None = []
discussion_line (Some discussion) = concat (
    codes "Discussion: " ∷ moment_text discussion.start
    ∷ codes " to " ∷ moment_text (end_of discussion) ∷ codes "\n" ∷ [])

-- the poll that is held or was
abbrev pub poll_lines : Option Poll → List ℕ
poll_lines None = []
poll_lines (Some poll) = called_lines poll

-- ==== its choices

-- its number and its summary, and the majority ratio that it needs (Constitution, A.4.1)
abbrev pub title_lines : ChoiceKey × ChoiceModel → List ℕ
title_lines entry = concat (
    codes "Choice " ∷ decimal entry.0.number ∷ codes ": " ∷ entry.1.wording.summary ∷ codes "\n"
    ∷ codes "Ratio: " ∷ decimal entry.1.ratio ∷ codes "\n" ∷ [])

-- who proposes it (Constitution, 4.2.1)
abbrev pub proposer_line : Option Proposer → List ℕ
proposer_line None = codes "Proposer: none\n"
proposer_line (Some (Developer login)) = concat (codes "Proposer: developer " ∷ login ∷ codes "\n" ∷ [])
proposer_line (Some Leader) = codes "Proposer: leader\n"
proposer_line (Some Committee) = codes "Proposer: committee\n"

-- the logins of the active ones of these sponsors
abbrev pub active_logins : List (String Global × Sponsorship) → List (List ℕ)
active_logins sponsors = map (λ entry. string_bytes entry.0) (filter (λ entry. is_active entry.1) sponsors)

-- the logins of those who sponsor a choice now, in the order of their bytes
abbrev pub active_sponsors : FinMap sponsor_cmp Sponsorship → ChoiceKey → List (List ℕ)
active_sponsors sponsors choice =
    map (λ entry. entry.0.1) (filter (λ entry. is_active entry.1) (sponsors_of_choice sponsors choice))

-- how many they are, and who
abbrev pub sponsors_line : List (List ℕ) → List ℕ
sponsors_line logins = concat (
    codes "Sponsors: " ∷ decimal (length logins) ∷ flat_map (λ login. codes " " ++ login) logins ∷ codes "\n" ∷ [])

-- a moment under this name, if there is one
abbrev pub moment_line : List ℕ → Option ℕ → List ℕ
moment_line name None = name ++ codes ": no\n"
moment_line name (Some at) = concat (name ∷ codes ": " ∷ moment_text at ∷ codes "\n" ∷ [])

-- its place on the ballot, if it has one (Constitution, A.3.2)
abbrev pub place_line : Option ℕ → List ℕ
place_line None = codes "Place: none\n"
place_line (Some place) = concat (codes "Place: " ∷ decimal place ∷ codes "\n" ∷ [])

-- a text without its last byte, if that is a line feed
abbrev pub without_last_line_feed : List ℕ → List ℕ
without_last_line_feed text =
    if slice_index text (length text - 1) == LINE_FEED then take (length text - 1) text else text

-- the lines of a text: what line feeds part, where the last byte, if it is one, parts nothing
abbrev pub lines_of : List ℕ → List (List ℕ)
lines_of text = slice_split (λ byte. byte == LINE_FEED) (without_last_line_feed text)

abbrev pub bar_line : List ℕ → List ℕ
bar_line line = concat (codes "| " ∷ line ∷ codes "\n" ∷ [])

-- a choice: what is known of it, and its text
abbrev pub choice_lines : FinMap sponsor_cmp Sponsorship → ChoiceKey × ChoiceModel → List ℕ
choice_lines sponsors entry = concat (
    title_lines entry
    ∷ proposer_line entry.1.proposer
    ∷ sponsors_line (active_sponsors sponsors entry.0)
    ∷ moment_line (codes "Introduced") entry.1.introduced
    ∷ moment_line (codes "Short since") entry.1.short
    ∷ place_line entry.1.place
    ∷ flat_map bar_line (lines_of entry.1.wording.text) ∷ [])

-- moments that have a text, if there are any
abbrev pub IsShownIfAny : Option ℕ → Type 0
IsShownIfAny at = IfSome at IsShown

pub record AreShownMoments (choice : ChoiceModel) : Type 0 where
  pub introduced : IsShownIfAny choice.introduced
  pub short : IsShownIfAny choice.short

-- ==== the whole

-- the status of the resolution with this number
abbrev pub status_sheet : State → ℕ → Resolution → List ℕ
status_sheet s number resolution = concat (
    status_head number resolution
    ∷ discussion_line (discussion_of resolution)
    ∷ poll_lines (poll_of resolution)
    ∷ flat_map (choice_lines s.sponsors) (choices_of s.choices number) ∷ [])
