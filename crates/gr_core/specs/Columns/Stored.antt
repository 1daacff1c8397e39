-- The six tables of a desk as lists of rows, in any order (this project's profile).
use Rattle.std.specs.Prelude.{◌≡◌, ℕ, List, [], ◌∷◌, map, slice_get, Some, string_bytes, codes}
use Rattle.std.specs.List.{Contains}
use Rattle.std.specs.declared.cmp.Ordering.{Ordering}
use Rattle.std.specs.FinMap.{FinMap, get}
use Rattle.gr_core.specs.declared.rows.Rows.{Rows}
use Rattle.gr_core.specs.declared.rows.HeaderRow.{HeaderRow}
use Rattle.gr_core.specs.declared.rows.DeveloperRow as developer
use Rattle.gr_core.specs.declared.rows.ResolutionRow.{ResolutionRow}
use Rattle.gr_core.specs.declared.rows.ChoiceRow as choice
use Rattle.gr_core.specs.declared.rows.SponsorRow.{SponsorRow}
use Rattle.gr_core.specs.declared.rows.BallotRow as ballot
use Rattle.gr_core.specs.declared.unfit.Unfit.{Unfit}
use Rattle.gr_core.specs.declared.unfit.Unfit.TheVariants.{Damaged, Memory}
use Rattle.gr_core.specs.Columns.Fields.{Field, Number, Text, header_fields, developer_fields, resolution_fields, choice_fields, sponsor_fields, ballot_fields}
use Rattle.gr_core.specs.Columns.Fields.{FitsHeader, FitsResolution, FitsKey, FitsChoice, FitsBallot}
use Rattle.std.specs.Ordering.{nat_cmp}
use Rattle.gr_core.specs.declared.resolution.Resolution.{Resolution}
use Rattle.gr_core.specs.declared.sponsor.Sponsorship.{Sponsorship}
use Rattle.gr_core.specs.Parts.Key.{SponsorKey, BallotKey, text_cmp, choice_cmp, sponsor_cmp, ballot_cmp}
use Rattle.gr_core.specs.Parts.Developer.{DeveloperModel}
use Rattle.gr_core.specs.Parts.Choice.{ChoiceModel}
use Rattle.gr_core.specs.Parts.Ballot.{BallotModel}
use Rattle.gr_core.specs.Desks.State.{State}
use Rattle.gr_core.specs.Desks.Valid.{IsValid}

-- ==== rows as they came, without where they lie in memory

abbrev pub fields_of_header : HeaderRow → List Field
fields_of_header row = Number row.id ∷ Number row.version ∷ Number row.accepted ∷ Number row.clock ∷ []

abbrev pub fields_of_developer : developer.DeveloperRow → List Field
fields_of_developer row = Text (string_bytes row.login) ∷ Text (string_bytes row.name) ∷ Number row.active ∷ []

abbrev pub fields_of_resolution : ResolutionRow → List Field
fields_of_resolution row =
    Number row.number ∷ Number row.stage ∷ Number row.start ∷ Number row.changed ∷ Number row.shift
    ∷ Number row.called ∷ Number row.days ∷ Number row.devs ∷ Number row.chosen ∷ []

abbrev pub fields_of_choice : choice.ChoiceRow → List Field
fields_of_choice row =
    Number row.resolution ∷ Number row.number ∷ Number row.kind ∷ Text (string_bytes row.proposer)
    ∷ Text (string_bytes row.summary) ∷ Text (string_bytes row.body) ∷ Number row.ratio
    ∷ Number row.introduced ∷ Number row.short ∷ Number row.place ∷ []

abbrev pub fields_of_sponsor : SponsorRow → List Field
fields_of_sponsor row =
    Number row.resolution ∷ Number row.choice ∷ Text (string_bytes row.login) ∷ Number row.active ∷ []

abbrev pub fields_of_ballot : ballot.BallotRow → List Field
fields_of_ballot row =
    Number row.resolution ∷ Text (string_bytes row.login) ∷ Text (string_bytes row.ranks)
    ∷ Text (string_bytes row.receipt) ∷ Number row.received ∷ []

-- the six tables, by whose names what is defined of each is said once
pub data TableName : Type 0 where
  DeskTable DeveloperTable ResolutionTable ChoiceTable SponsorTable BallotTable : TableName

-- their rows
pub record Stored : Type 0 where
  pub desk : List (List Field)
  pub developers : List (List Field)
  pub resolutions : List (List Field)
  pub choices : List (List Field)
  pub sponsors : List (List Field)
  pub ballots : List (List Field)

-- those of one of them
abbrev pub table_rows : TableName → Stored → List (List Field)
table_rows DeskTable rows = rows.desk
table_rows DeveloperTable rows = rows.developers
table_rows ResolutionTable rows = rows.resolutions
table_rows ChoiceTable rows = rows.choices
table_rows SponsorTable rows = rows.sponsors
table_rows BallotTable rows = rows.ballots

abbrev pub stored : Rows → Stored
stored rows = record {
  desk = map fields_of_header rows.desk.items;
  developers = map fields_of_developer rows.developers.items;
  resolutions = map fields_of_resolution rows.resolutions.items;
  choices = map fields_of_choice rows.choices.items;
  sponsors = map fields_of_sponsor rows.sponsors.items;
  ballots = map fields_of_ballot rows.ballots.items;
}

-- ==== which rows are those of a state

-- no row stands at two places
abbrev pub EachOnce : List (List Field) → Type 0
EachOnce rows = (i j : ℕ) (row : List Field) → slice_get rows i ≡ Some row → slice_get rows j ≡ Some row → i ≡ j

-- the rows of a table, each once and in any order
pub record AreRowsOf {K V : Type 0} {cmp : K → K → Ordering} (fields : K × V → List Field) (table : FinMap cmp V)
    (rows : List (List Field)) : Type 0 where
  -- each is that of an entry
  pub known : (row : List Field) → Contains rows row
      → (key : K) × (value : V) × (get table key ≡ Some value) × (fields (key, value) ≡ row)
  -- no entry is left out
  pub whole : (key : K) (value : V) → get table key ≡ Some value → Contains rows (fields (key, value))
  pub once : EachOnce rows

-- The rows of this state, and no others, where those of ballots have these fields. It has a field for
-- each table, as Stored has: the maps have keys and rows of five types, and no function of a name of
-- a table gives all of them.
pub record HasRowsBy (fields : BallotKey × BallotModel → List Field) (s : State) (rows : Stored) : Type 0 where
  pub desk : rows.desk ≡ header_fields s.header ∷ []
  pub developers : AreRowsOf developer_fields s.developers rows.developers
  pub resolutions : AreRowsOf resolution_fields s.resolutions rows.resolutions
  pub choices : AreRowsOf choice_fields s.choices rows.choices
  pub sponsors : AreRowsOf sponsor_fields s.sponsors rows.sponsors
  pub ballots : AreRowsOf fields s.ballots rows.ballots

-- the rows of this state, and no others
abbrev pub HasRows : State → Stored → Type 0
HasRows = HasRowsBy ballot_fields

-- ==== what columns can keep of the tables

abbrev pub EachEntry : {K V : Type 0} {cmp : K → K → Ordering} → FinMap cmp V → (K → V → Type 0) → Type 0
EachEntry {K} {V} table P = (key : K) (value : V) → get table key ≡ Some value → P key value

-- texts and a standing, whatever they are
abbrev pub FitsDeveloper : List ℕ → DeveloperModel → Type 0
FitsDeveloper login row = Unit {0}

abbrev pub FitsSponsor : SponsorKey → Sponsorship → Type 0
FitsSponsor key sponsorship = FitsKey key.0

abbrev pub FitsVoter : BallotKey → BallotModel → Type 0
FitsVoter key row = FitsBallot key.0 row

-- the state is one that columns can keep
pub record Fits (s : State) : Type 0 where
  pub header : FitsHeader s.header
  pub resolutions : EachEntry s.resolutions FitsResolution
  pub choices : EachEntry s.choices FitsChoice
  pub sponsors : EachEntry s.sponsors FitsSponsor
  pub ballots : EachEntry s.ballots FitsVoter

-- a table that has these rows, and nothing that columns cannot keep
pub record IsTableOf {K V : Type 0} {cmp : K → K → Ordering} (fields : K × V → List Field) (FitsEntry : K → V → Type 0)
    (kept : List (List Field)) (table : FinMap cmp V) : Type 0 where
  pub rows : AreRowsOf fields table kept
  pub fits : EachEntry table FitsEntry

-- what is printed where rows make no desk
abbrev pub unfit_text : Unfit → List ℕ
unfit_text Damaged = codes "the rows of no valid desk"
unfit_text Memory = codes "out of memory"

abbrev pub IsRollOf : List (List Field) → FinMap text_cmp DeveloperModel → Type 0
IsRollOf = IsTableOf developer_fields FitsDeveloper

abbrev pub AreResolutionsOf : List (List Field) → FinMap nat_cmp Resolution → Type 0
AreResolutionsOf = IsTableOf resolution_fields FitsResolution

abbrev pub AreChoicesOf : List (List Field) → FinMap choice_cmp ChoiceModel → Type 0
AreChoicesOf = IsTableOf choice_fields FitsChoice

abbrev pub AreSponsorsOf : List (List Field) → FinMap sponsor_cmp Sponsorship → Type 0
AreSponsorsOf = IsTableOf sponsor_fields FitsSponsor

abbrev pub AreBallotsOf : List (List Field) → FinMap ballot_cmp BallotModel → Type 0
AreBallotsOf = IsTableOf ballot_fields FitsVoter

abbrev pub HaveNoRoll : List (List Field) → Type 0
HaveNoRoll rows = (roll : FinMap text_cmp DeveloperModel) → ¬ (IsRollOf rows roll)

abbrev pub HaveNoResolutions : List (List Field) → Type 0
HaveNoResolutions rows = (resolutions : FinMap nat_cmp Resolution) → ¬ (AreResolutionsOf rows resolutions)

abbrev pub HaveNoChoices : List (List Field) → Type 0
HaveNoChoices rows = (choices : FinMap choice_cmp ChoiceModel) → ¬ (AreChoicesOf rows choices)

abbrev pub HaveNoSponsors : List (List Field) → Type 0
HaveNoSponsors rows = (sponsors : FinMap sponsor_cmp Sponsorship) → ¬ (AreSponsorsOf rows sponsors)

abbrev pub HaveNoBallots : List (List Field) → Type 0
HaveNoBallots rows = (ballots : FinMap ballot_cmp BallotModel) → ¬ (AreBallotsOf rows ballots)

-- two valid states with the same rows are one
abbrev pub RowsTellTheState : Type 0
RowsTellTheState = (s t : State) (rows : Stored) → IsValid s → IsValid t → HasRows s rows → HasRows t rows → s ≡ t
