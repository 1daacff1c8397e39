-- What an accepted act puts, and what is noted of it (this project's profile).
use Rattle.std.specs.Prelude.{ℕ, ◌+◌, zero, suc, ℤ, unsigned_abs, Bool, true, false, if◌then◌else◌, List, [], ◌∷◌, ◌++◌, map, length, filter, Option, Some, None, is_some, option_to_list, option_map}
use Rattle.std.specs.List.{flat_map}
use Rattle.std.specs.declared.cmp.Ordering.{Ordering}
use Rattle.std.specs.FinMap.{FinMap, get, insert, len}
use Rattle.gr_core.specs.declared.resolution.Poll.{Poll}
use Rattle.gr_core.specs.declared.resolution.Resolution.{Resolution}
use Rattle.gr_core.specs.declared.resolution.Resolution.TheVariants.{Draft, Discussing, Voting, Cancelled}
use Rattle.gr_core.specs.declared.choice.ChoiceKey.{ChoiceKey}
use Rattle.gr_core.specs.declared.sponsor.Sponsorship.{Sponsorship}
use Rattle.gr_core.specs.declared.sponsor.Sponsorship.TheVariants.{Active, Withdrawn}
use Rattle.gr_core.specs.declared.command.Amendment.{Amendment}
use Rattle.gr_core.specs.declared.command.Amendment.TheVariants.{Substantial}
use Rattle.gr_core.specs.declared.bookkeeping.Gain.{Gain}
use Rattle.gr_core.specs.declared.bookkeeping.Gain.TheVariants.{Nothing, Introduction}
use Rattle.gr_core.specs.declared.reply.Note.{Note}
use Rattle.gr_core.specs.declared.reply.Note.TheVariants as note
use Rattle.gr_core.specs.Parts.Key.{SponsorKey, BallotKey, choice_cmp, sponsor_cmp}
use Rattle.gr_core.specs.Parts.Developer.{current_count}
use Rattle.gr_core.specs.Machine.Import.{RollRow, developer_in, imported, counts_of, news_of}
use Rattle.gr_core.specs.Parts.Resolution.{end_of_voting, changed, shifted, closed, decided}
use Rattle.gr_core.specs.Parts.Choice.{ChoiceModel, Proposer, Developer, login_of_proposer, Wording, choice_key, choices_of}
use Rattle.gr_core.specs.Parts.Sponsor.{is_active_sponsor}
use Rattle.gr_core.specs.Parts.Receipt.{receipt_of}
use Rattle.gr_core.specs.Parts.Ballot.{new_ballot}
use Rattle.gr_core.specs.Machine.Map.{changed_at, with_rows}
use Rattle.gr_core.specs.Desks.State.{State}
use Rattle.gr_core.specs.Machine.Bookkeeping.{gain_at, after_gain, becomes_short, after_loss, is_live}
use Rattle.gr_core.specs.Machine.Act.{Act, SetDeveloper, ImportRoll, Propose, AddChoice, Sponsor, Unsponsor, Withdraw, Adopt, Amend, Vary, Call, Vote, Close, Cast}
use Rattle.gr_core.specs.Machine.Row.{RowModel, HeaderOf, DeveloperOf, ResolutionOf, ChoiceOf, SponsorOf, BallotOf}

-- ==== new rows

-- the number of a new resolution
abbrev pub next_resolution : State → ℕ
next_resolution s = len s.resolutions + 1

-- its first choice (Constitution, A.0.2)
abbrev pub first_choice_key : State → ChoiceKey
first_choice_key s = choice_key (next_resolution s) 1

-- the key of a new choice of this resolution
abbrev pub next_choice_key : State → ℕ → ChoiceKey
next_choice_key s resolution = choice_key resolution (length (choices_of s.choices resolution) + 1)

-- a choice that was just proposed (Constitution, A.0.2 and A.1.2)
abbrev pub new_choice : Proposer → Wording → ℕ → ChoiceModel
new_choice proposer wording ratio = record {
  proposer = Some proposer;
  wording = wording;
  ratio = ratio;
  introduced = None;
  short = None;
  place = None;
}

-- ==== what an act puts itself

-- a sponsor who becomes the proposer is a sponsor no more: only others sponsor a choice (Constitution, 4.2.1)
abbrev pub without_sponsor : FinMap sponsor_cmp Sponsorship → ChoiceKey → Option (List ℕ)
    → FinMap sponsor_cmp Sponsorship
without_sponsor sponsors choice None = sponsors
without_sponsor sponsors choice (Some login) =
    if is_active_sponsor sponsors (choice, login) then insert sponsors (choice, login) Withdrawn else sponsors

-- an amendment of an introduced choice under discussion changes the ballot (Constitution, A.1.4), unless it is minor
-- (Constitution, A.1.5)
abbrev pub changes_ballot : Amendment → Option Resolution → Option ChoiceModel → Bool
changes_ballot Substantial (Some (Discussing discussion)) (Some choice) = is_some choice.introduced
changes_ballot amendment resolution choice = false

-- the live choices of a resolution at a moment, in the order of their numbers
abbrev pub live_choices : FinMap choice_cmp ChoiceModel → ℕ → ℕ → List (ChoiceKey × ChoiceModel)
live_choices choices at resolution = filter (λ entry. is_live at entry.1) (choices_of choices resolution)

-- these choices with their places on a ballot, from this place on, in the order of their numbers (Constitution, A.3.2,
-- which leaves the order to the Secretary; that it is by number is this project's profile)
abbrev pub placed : ℕ → List (ChoiceKey × ChoiceModel) → List (ChoiceKey × ChoiceModel)
placed place [] = []
placed place (entry ∷ entries) = (entry.0, record entry.1 { place = Some place }) ∷ placed (place + 1) entries

-- A resolution with such choices is voted on (Constitution, A.3.1). Without any, it is cancelled (Constitution, A.2.4;
-- that this waits for the call is this project's profile).
abbrev pub called : List (ChoiceKey × ChoiceModel) → Poll → Resolution → Resolution
called [] poll (Discussing discussion) = Cancelled discussion
called (first ∷ others) poll (Discussing discussion) = Voting discussion poll
called live poll other = other

-- the poll of a call at this moment for so many days
abbrev pub poll_at : State → ℕ → ℤ → Poll
poll_at s at days = record { called = at; days = unsigned_abs days; developers = current_count s.developers }

-- the state with what the act puts itself
abbrev pub own : State → ℕ → Act → State
own s at (SetDeveloper login name standing) =
    record s { developers = insert s.developers login (record { name = name; standing = standing }) }
own s at (ImportRoll rows) = record s { developers = imported s.developers rows }
own s at (Propose proposer wording ratio) = record s {
  resolutions = insert s.resolutions (next_resolution s) Draft;
  choices = insert s.choices (first_choice_key s) (new_choice proposer wording ratio);
}
own s at (AddChoice resolution proposer wording ratio) =
    record s { choices = insert s.choices (next_choice_key s resolution) (new_choice proposer wording ratio) }
own s at (Sponsor choice login) = record s { sponsors = insert s.sponsors (choice, login) Active }
own s at (Unsponsor choice login) = record s { sponsors = insert s.sponsors (choice, login) Withdrawn }
own s at (Withdraw choice) =
    record s { choices = changed_at s.choices choice (λ row. record row { proposer = None }) }
own s at (Adopt choice proposer) = record s {
  choices = changed_at s.choices choice (λ row. record row { proposer = Some proposer });
  sponsors = without_sponsor s.sponsors choice (login_of_proposer proposer);
}
own s at (Amend choice amendment wording) = record s {
  resolutions =
      if changes_ballot amendment (get s.resolutions choice.resolution) (get s.choices choice)
      then changed_at s.resolutions choice.resolution (changed at)
      else s.resolutions;
  choices = changed_at s.choices choice (λ row. record row { wording = wording });
}
own s at (Vary resolution days) = record s { resolutions = changed_at s.resolutions resolution (shifted days) }
own s at (Call resolution days) = record s {
  resolutions = changed_at s.resolutions resolution (called (live_choices s.choices at resolution) (poll_at s at days));
  choices = with_rows s.choices (placed 1 (live_choices s.choices at resolution));
}
own s at (Vote resolution login ranks token) = record s {
  ballots = insert s.ballots (resolution, login)
      (new_ballot (get s.ballots (resolution, login)) resolution login ranks token);
}
own s at (Close resolution) = record s { resolutions = changed_at s.resolutions resolution closed }
own s at (Cast resolution place) = record s { resolutions = changed_at s.resolutions resolution (decided place) }

-- ==== the bookkeeping that follows, which is the same for each act

-- the choice that gains a proposer or a sponsor by the act
abbrev pub gaining : State → Act → Option ChoiceKey
gaining s (Propose proposer wording ratio) = Some (first_choice_key s)
gaining s (AddChoice resolution proposer wording ratio) = Some (next_choice_key s resolution)
gaining s (Sponsor choice login) = Some choice
gaining s (Adopt choice proposer) = Some choice
gaining s other = None

-- the choice that loses its proposer or a sponsor by the act
abbrev pub losing : Act → Option ChoiceKey
losing (Unsponsor choice login) = Some choice
losing (Withdraw choice) = Some choice
losing other = None

-- no act does both
abbrev pub booked : (gaining losing : Option ChoiceKey) → ℕ → State → State
booked (Some choice) losing at s = after_gain s at choice
booked None (Some choice) at s = after_loss s at choice
booked None None at s = s

-- the state with all that an accepted act puts, the header aside: its own, and then the bookkeeping
abbrev pub effect : State → ℕ → Act → State
effect s at act = booked (gaining s act) (losing act) at (own s at act)

-- one more act was accepted, at this moment
abbrev pub counted : State → ℕ → State
counted s at = record s { header = record s.header { accepted = s.header.accepted + 1; clock = at } }

-- ==== what is noted of it

-- of a call for this poll with so many live choices; the default option has a place as well
abbrev pub call_note : Poll → ℕ → Note
call_note poll zero = note.Cancelled
call_note poll (suc others) = note.Called (suc others + 1) (end_of_voting poll)

abbrev pub note_of : State → ℕ → Act → Note
note_of s at (ImportRoll rows) = note.Roll (counts_of s.developers rows)
note_of s at (Propose proposer wording ratio) = note.Resolution (next_resolution s)
note_of s at (AddChoice resolution proposer wording ratio) = note.Choice (next_choice_key s resolution).number
note_of s at (Call resolution days) = call_note (poll_at s at days) (length (live_choices s.choices at resolution))
note_of s at (Vote resolution login ranks token) = note.Receipt (receipt_of resolution login token)
note_of s at other = note.Done

-- ==== the rows of an accepted act: the keys that it puts, by table, and under each the row after it
-- Rows that it puts itself are there even where they say what was there, for example that of a
-- SetDeveloper: it was accepted, and it is counted. Those of the bookkeeping are there only where it
-- changes them, so a sponsor who changes nothing else does not copy the text of the choice. An import
-- has only the rows that the roll does not have yet, so one that comes twice puts the header alone.

-- the row of the roll that a row of an import puts
abbrev pub imported_row : RollRow → RowModel
imported_row row = DeveloperOf row.login (developer_in row)

-- the developers that it puts; of an import those that the roll does not have yet, in its order
abbrev pub developer_rows : State → Act → List RowModel
developer_rows s (SetDeveloper login name standing) =
    DeveloperOf login (record { name = name; standing = standing }) ∷ []
developer_rows s (ImportRoll rows) = map imported_row (news_of s.developers rows)
developer_rows s other = []

-- the key alone if the condition holds, and else none
abbrev pub only_if : {K : Type 0} → Bool → K → List K
only_if true key = key ∷ []
only_if false key = []

abbrev pub is_introduction : Gain → Bool
is_introduction Introduction = true
is_introduction other = false

abbrev pub is_gain : Gain → Bool
is_gain Nothing = false
is_gain other = true

-- the choice that gains by the act is introduced by it
abbrev pub introduces : State → ℕ → Act → ChoiceKey → Bool
introduces s at act choice = is_introduction (gain_at (own s at act) choice)

-- the resolutions that it puts
abbrev pub resolutions_put : State → ℕ → Act → List ℕ
resolutions_put s at (Propose proposer wording ratio) = next_resolution s ∷ []
resolutions_put s at (AddChoice resolution proposer wording ratio) =
    only_if (introduces s at (AddChoice resolution proposer wording ratio) (next_choice_key s resolution)) resolution
resolutions_put s at (Sponsor choice login) = only_if (introduces s at (Sponsor choice login) choice) choice.resolution
resolutions_put s at (Adopt choice proposer) =
    only_if (introduces s at (Adopt choice proposer) choice) choice.resolution
resolutions_put s at (Amend choice amendment wording) =
    only_if (changes_ballot amendment (get s.resolutions choice.resolution) (get s.choices choice)) choice.resolution
resolutions_put s at (Vary resolution days) = resolution ∷ []
resolutions_put s at (Call resolution days) = resolution ∷ []
resolutions_put s at (Close resolution) = resolution ∷ []
resolutions_put s at (Cast resolution place) = resolution ∷ []
resolutions_put s at other = []

-- the choices that it puts
abbrev pub choices_put : State → ℕ → Act → List ChoiceKey
choices_put s at (Propose proposer wording ratio) = first_choice_key s ∷ []
choices_put s at (AddChoice resolution proposer wording ratio) = next_choice_key s resolution ∷ []
choices_put s at (Sponsor choice login) = only_if (is_gain (gain_at (own s at (Sponsor choice login)) choice)) choice
choices_put s at (Unsponsor choice login) = only_if (becomes_short (own s at (Unsponsor choice login)) choice) choice
choices_put s at (Withdraw choice) = choice ∷ []
choices_put s at (Adopt choice proposer) = choice ∷ []
choices_put s at (Amend choice amendment wording) = choice ∷ []
choices_put s at (Call resolution days) = map (λ entry. entry.0) (live_choices s.choices at resolution)
choices_put s at other = []

-- the sponsors that it puts
abbrev pub sponsors_put : State → Act → List SponsorKey
sponsors_put s (Sponsor choice login) = (choice, login) ∷ []
sponsors_put s (Unsponsor choice login) = (choice, login) ∷ []
sponsors_put s (Adopt choice (Developer login)) = only_if (is_active_sponsor s.sponsors (choice, login)) (choice, login)
sponsors_put s other = []

-- the ballots that it puts
abbrev pub ballots_put : Act → List BallotKey
ballots_put (Vote resolution login ranks token) = (resolution, login) ∷ []
ballots_put other = []

-- the rows that a map has under these keys
abbrev pub rows_at : {K R : Type 0} {cmp : K → K → Ordering} → (K → R → RowModel) → FinMap cmp R → List K
    → List RowModel
rows_at row m keys = flat_map (λ key. option_to_list (option_map (row key) (get m key))) keys

-- the rows that an accepted act puts, the header aside: table by table, each key once and as it is after the act, those
-- of an import in its order
abbrev pub puts_by : State → ℕ → Act → List RowModel
puts_by s at act =
    developer_rows s act
    ++ rows_at ResolutionOf (effect s at act).resolutions (resolutions_put s at act)
    ++ rows_at ChoiceOf (effect s at act).choices (choices_put s at act)
    ++ rows_at SponsorOf (effect s at act).sponsors (sponsors_put s act)
    ++ rows_at BallotOf (effect s at act).ballots (ballots_put act)

-- the rows of an accepted act in their order, the header last
abbrev pub rows_by : State → ℕ → Act → List RowModel
rows_by s at act = puts_by s at act ++ HeaderOf (counted s at).header ∷ []
