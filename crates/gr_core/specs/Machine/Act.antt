-- A command (this project's profile), without where its texts lie in memory, and what it names and brings.
use Rattle.std.specs.Prelude.{ℕ, ℤ, List, Option, Some, None, map, option_map, option_and_then, string_bytes}
use Rattle.std.specs.FinMap.{get}
use Rattle.gr_core.specs.declared.developer.Standing.{Standing}
use Rattle.gr_core.specs.declared.discussion.Discussion.{Discussion}
use Rattle.gr_core.specs.declared.resolution.Poll.{Poll}
use Rattle.gr_core.specs.declared.resolution.Resolution.{Resolution}
use Rattle.gr_core.specs.declared.choice.ChoiceKey.{ChoiceKey}
use Rattle.gr_core.specs.declared.command.Amendment.{Amendment}
use Rattle.gr_core.specs.declared.command.Command as rust
use Rattle.gr_core.specs.Machine.Import.{RollRow, roll_row}
use Rattle.gr_core.specs.Parts.Resolution.{present_discussion, present_poll}
use Rattle.gr_core.specs.Parts.Choice.{ChoiceModel, Proposer, proposer_of, login_of_proposer, Wording, wording_of}
use Rattle.gr_core.specs.Desks.State.{State}

pub data Act : Type 0 where
  SetDeveloper : (login name : List ℕ) (standing : Standing) → Act
  ImportRoll : (rows : List RollRow) → Act
  Propose : (proposer : Proposer) (wording : Wording) (ratio : ℕ) → Act
  AddChoice : (resolution : ℕ) (proposer : Proposer) (wording : Wording) (ratio : ℕ) → Act
  Sponsor : (choice : ChoiceKey) (login : List ℕ) → Act
  Unsponsor : (choice : ChoiceKey) (login : List ℕ) → Act
  Withdraw : (choice : ChoiceKey) → Act
  Adopt : (choice : ChoiceKey) (proposer : Proposer) → Act
  Amend : (choice : ChoiceKey) (amendment : Amendment) (wording : Wording) → Act
  Vary : (resolution : ℕ) (days : ℤ) → Act
  Call : (resolution : ℕ) (days : ℤ) → Act
  Vote : (resolution : ℕ) (login ranks token : List ℕ) → Act
  Close : (resolution : ℕ) → Act
  Cast : (resolution place : ℕ) → Act

abbrev pub act_of : rust.Command → Act
act_of (rust.TheVariants.SetDeveloper login name standing) =
    SetDeveloper (string_bytes login) (string_bytes name) standing
act_of (rust.TheVariants.ImportRoll rows) = ImportRoll (map roll_row rows.items)
act_of (rust.TheVariants.Propose proposer wording ratio) =
    Propose (proposer_of proposer) (wording_of wording) ratio
act_of (rust.TheVariants.AddChoice resolution proposer wording ratio) =
    AddChoice resolution (proposer_of proposer) (wording_of wording) ratio
act_of (rust.TheVariants.Sponsor choice login) = Sponsor choice (string_bytes login)
act_of (rust.TheVariants.Unsponsor choice login) = Unsponsor choice (string_bytes login)
act_of (rust.TheVariants.Withdraw choice) = Withdraw choice
act_of (rust.TheVariants.Adopt choice proposer) = Adopt choice (proposer_of proposer)
act_of (rust.TheVariants.Amend choice amendment wording) = Amend choice amendment (wording_of wording)
act_of (rust.TheVariants.Vary resolution days) = Vary resolution days
act_of (rust.TheVariants.Call resolution days) = Call resolution days
act_of (rust.TheVariants.Vote resolution login ranks token) =
    Vote resolution (string_bytes login) (string_bytes ranks) (string_bytes token)
act_of (rust.TheVariants.Close resolution) = Close resolution
act_of (rust.TheVariants.Cast resolution place) = Cast resolution place

-- the developer who acts
abbrev pub actor_of : Act → Option (List ℕ)
actor_of (Propose proposer wording ratio) = login_of_proposer proposer
actor_of (AddChoice resolution proposer wording ratio) = login_of_proposer proposer
actor_of (Sponsor choice login) = Some login
actor_of (Unsponsor choice login) = Some login
actor_of (Adopt choice proposer) = login_of_proposer proposer
actor_of (Vote resolution login ranks token) = Some login
actor_of other = None

-- the developer who acts and has to be current: a retired one may still withdraw as a sponsor
abbrev pub current_actor_of : Act → Option (List ℕ)
current_actor_of (Unsponsor choice login) = None
current_actor_of other = actor_of other

-- the login of the act, those of an import's rows aside
abbrev pub login_of : Act → Option (List ℕ)
login_of (SetDeveloper login name standing) = Some login
login_of other = actor_of other

-- the name that it brings, those of an import's rows aside
abbrev pub name_of : Act → Option (List ℕ)
name_of (SetDeveloper login name standing) = Some name
name_of other = None

-- the summary and the text that it brings
abbrev pub wording_of_act : Act → Option Wording
wording_of_act (Propose proposer wording ratio) = Some wording
wording_of_act (AddChoice resolution proposer wording ratio) = Some wording
wording_of_act (Amend choice amendment wording) = Some wording
wording_of_act other = None

-- the majority ratio that it brings
abbrev pub ratio_of : Act → Option ℕ
ratio_of (Propose proposer wording ratio) = Some ratio
ratio_of (AddChoice resolution proposer wording ratio) = Some ratio
ratio_of other = None

-- the days by which it varies a discussion
abbrev pub shift_of : Act → Option ℤ
shift_of (Vary resolution days) = Some days
shift_of other = None

-- the days for which it calls a vote
abbrev pub period_of : Act → Option ℤ
period_of (Call resolution days) = Some days
period_of other = None

-- the ranks of the ballot that it brings
abbrev pub ranks_of : Act → Option (List ℕ)
ranks_of (Vote resolution login ranks token) = Some ranks
ranks_of other = None

-- the token that goes into the receipt of that ballot
abbrev pub token_of : Act → Option (List ℕ)
token_of (Vote resolution login ranks token) = Some token
token_of other = None

-- the place that it chooses by the casting vote
abbrev pub place_of : Act → Option ℕ
place_of (Cast resolution place) = Some place
place_of other = None

-- the rows that it imports
abbrev pub import_of : Act → Option (List RollRow)
import_of (ImportRoll rows) = Some rows
import_of other = None

-- the choice on which it acts
abbrev pub choice_of : Act → Option ChoiceKey
choice_of (Sponsor choice login) = Some choice
choice_of (Unsponsor choice login) = Some choice
choice_of (Withdraw choice) = Some choice
choice_of (Adopt choice proposer) = Some choice
choice_of (Amend choice amendment wording) = Some choice
choice_of other = None

-- the resolution that it names
abbrev pub resolution_of : Act → Option ℕ
resolution_of (AddChoice resolution proposer wording ratio) = Some resolution
resolution_of (Vary resolution days) = Some resolution
resolution_of (Call resolution days) = Some resolution
resolution_of (Vote resolution login ranks token) = Some resolution
resolution_of (Close resolution) = Some resolution
resolution_of (Cast resolution place) = Some resolution
resolution_of other = option_map (λ choice. choice.resolution) (choice_of other)

-- ==== what the desk has of what the act names

abbrev pub resolution_at : State → Act → Option Resolution
resolution_at s act = option_and_then (get s.resolutions) (resolution_of act)

abbrev pub discussion_at : State → Act → Option Discussion
discussion_at s act = option_and_then present_discussion (resolution_at s act)

-- the poll that is held on the resolution that it names
abbrev pub poll_held_at : State → Act → Option Poll
poll_held_at s act = option_and_then present_poll (resolution_at s act)

abbrev pub choice_at : State → Act → Option ChoiceModel
choice_at s act = option_and_then (get s.choices) (choice_of act)
