-- The rows that a command puts, each under its key (this project's profile).
use Rattle.std.specs.Prelude.{ℕ, List, [], ◌∷◌, string_bytes}
use Rattle.std.specs.FinMap.{insert}
use Rattle.gr_core.specs.declared.header.Header.{Header}
use Rattle.gr_core.specs.declared.resolution.Resolution.{Resolution}
use Rattle.gr_core.specs.declared.choice.ChoiceKey.{ChoiceKey}
use Rattle.gr_core.specs.declared.sponsor.Sponsorship.{Sponsorship}
use Rattle.gr_core.specs.declared.change.Change.{Change}
use Rattle.gr_core.specs.declared.change.Change.TheVariants as rust
use Rattle.gr_core.specs.Parts.Key.{SponsorKey, BallotKey}
use Rattle.gr_core.specs.Parts.Developer.{DeveloperModel, developer_model}
use Rattle.gr_core.specs.Parts.Choice.{ChoiceModel, choice_model}
use Rattle.gr_core.specs.Parts.Ballot.{BallotModel, ballot_model}
use Rattle.gr_core.specs.Desks.State.{State}

-- one row of one table
pub data RowModel : Type 0 where
  HeaderOf : Header → RowModel
  DeveloperOf : (login : List ℕ) → DeveloperModel → RowModel
  ResolutionOf : (number : ℕ) → Resolution → RowModel
  ChoiceOf : ChoiceKey → ChoiceModel → RowModel
  SponsorOf : SponsorKey → Sponsorship → RowModel
  BallotOf : BallotKey → BallotModel → RowModel

-- where a row stands: its table, and its key there
pub data RowKey : Type 0 where
  TheHeader : RowKey
  DeveloperAt : (login : List ℕ) → RowKey
  ResolutionAt : (number : ℕ) → RowKey
  ChoiceAt : ChoiceKey → RowKey
  SponsorAt : SponsorKey → RowKey
  BallotAt : BallotKey → RowKey

abbrev pub row_key : RowModel → RowKey
row_key (HeaderOf header) = TheHeader
row_key (DeveloperOf login row) = DeveloperAt login
row_key (ResolutionOf number resolution) = ResolutionAt number
row_key (ChoiceOf key row) = ChoiceAt key
row_key (SponsorOf key sponsorship) = SponsorAt key
row_key (BallotOf key row) = BallotAt key

-- the row that a choice's key and the rest of it make
abbrev pub choice_of_entry : ChoiceKey × ChoiceModel → RowModel
choice_of_entry entry = ChoiceOf entry.0 entry.1

-- the row that a ballot's key and the rest of it make
abbrev pub ballot_of_entry : BallotKey × BallotModel → RowModel
ballot_of_entry entry = BallotOf entry.0 entry.1

-- the row of a change, without where it lies in memory
abbrev pub row_of : Change → RowModel
row_of (rust.Header header) = HeaderOf header
row_of (rust.Developer login developer) = DeveloperOf (string_bytes login) (developer_model developer)
row_of (rust.Resolution number resolution) = ResolutionOf number resolution
row_of (rust.Choice key choice) = ChoiceOf key (choice_model choice)
row_of (rust.Sponsor choice login sponsorship) = SponsorOf (choice, string_bytes login) sponsorship
row_of (rust.Ballot resolution login ballot) = BallotOf (resolution, string_bytes login) (ballot_model ballot)

-- the state with the row put under its key, in the place of the row that was there
abbrev pub put : State → RowModel → State
put s (HeaderOf header) = record s { header = header }
put s (DeveloperOf login row) = record s { developers = insert s.developers login row }
put s (ResolutionOf number resolution) = record s { resolutions = insert s.resolutions number resolution }
put s (ChoiceOf key row) = record s { choices = insert s.choices key row }
put s (SponsorOf key row) = record s { sponsors = insert s.sponsors key row }
put s (BallotOf key row) = record s { ballots = insert s.ballots key row }

-- the state with these rows put, the first of them first
abbrev pub put_all : State → List RowModel → State
put_all s [] = s
put_all s (row ∷ rows) = put_all (put s row) rows
