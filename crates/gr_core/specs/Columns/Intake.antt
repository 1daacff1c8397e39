-- Rows of the six tables that are taken one at a time, and what an intake knows of those that it took (this project's
-- profile).
use Rattle.std.specs.Prelude.{◌≡◌, ◌<◌, List, [], ◌∷◌, ◌++◌, length}
use Rattle.gr_core.specs.declared.rows.Row.{Row}
use Rattle.gr_core.specs.declared.rows.Row.TheVariants as row
use Rattle.gr_core.specs.declared.intake.Condition.{Condition}
use Rattle.gr_core.specs.declared.intake.Condition.TheVariants.{Kept, Damaged, Spent}
use Rattle.gr_core.specs.declared.intake.header_rows.HeaderRows.{HeaderRows}
use Rattle.gr_core.specs.declared.intake.header_rows.HeaderRows.TheVariants.{Nothing, One, Several}
use Rattle.gr_core.specs.declared.intake.Intake.{Intake}
use Rattle.gr_core.specs.declared.header.Header.{Header}
use Rattle.gr_core.specs.InMemory.Tables.{state_of}
use Rattle.gr_core.specs.Columns.Fields.{Field, header_fields, FitsHeader}
use Rattle.gr_core.specs.Desks.State.{State}
use Rattle.gr_core.specs.Columns.Stored.{TableName, DeskTable, DeveloperTable, ResolutionTable, ChoiceTable}
use Rattle.gr_core.specs.Columns.Stored.{SponsorTable, BallotTable}
use Rattle.gr_core.specs.Columns.Stored.{Stored, Fits, HasRows, fields_of_header, fields_of_developer, fields_of_resolution}
use Rattle.gr_core.specs.Columns.Stored.{fields_of_choice, fields_of_sponsor, fields_of_ballot}
use Rattle.gr_core.specs.Columns.Stored.{IsRollOf, AreResolutionsOf, AreChoicesOf, AreSponsorsOf, AreBallotsOf}

-- ==== rows of any table

-- the rows with more, after those of one table
abbrev pub with_more : TableName → Stored → List (List Field) → Stored
with_more DeskTable rows more = record rows { desk = rows.desk ++ more }
with_more DeveloperTable rows more = record rows { developers = rows.developers ++ more }
with_more ResolutionTable rows more = record rows { resolutions = rows.resolutions ++ more }
with_more ChoiceTable rows more = record rows { choices = rows.choices ++ more }
with_more SponsorTable rows more = record rows { sponsors = rows.sponsors ++ more }
with_more BallotTable rows more = record rows { ballots = rows.ballots ++ more }

-- what a row of this version says is what it has in its columns
abbrev pub as_it_is : List Field → List Field
as_it_is fields = fields

-- the rows with one more, after those of its table
abbrev pub with_row : Stored → Row → Stored
with_row rows (row.Header it) = with_more DeskTable rows (fields_of_header it ∷ [])
with_row rows (row.Developer it) = with_more DeveloperTable rows (fields_of_developer it ∷ [])
with_row rows (row.Resolution it) = with_more ResolutionTable rows (fields_of_resolution it ∷ [])
with_row rows (row.Choice it) = with_more ChoiceTable rows (fields_of_choice it ∷ [])
with_row rows (row.Sponsor it) = with_more SponsorTable rows (fields_of_sponsor it ∷ [])
with_row rows (row.Ballot it) = with_more BallotTable rows (fields_of_ballot it ∷ [])

-- the rows of each table, and others after them
abbrev pub joined : Stored → Stored → Stored
joined rows more = record {
  desk = rows.desk ++ more.desk;
  developers = rows.developers ++ more.developers;
  resolutions = rows.resolutions ++ more.resolutions;
  choices = rows.choices ++ more.choices;
  sponsors = rows.sponsors ++ more.sponsors;
  ballots = rows.ballots ++ more.ballots;
}

abbrev pub nothing_taken : Stored
nothing_taken = record { desk = []; developers = []; resolutions = []; choices = []; sponsors = []; ballots = [] }

-- ==== what an intake knows of the rows that it took

-- the rows of the table `desk`
abbrev pub AreHeaderRows : HeaderRows → List (List Field) → Type 0
AreHeaderRows Nothing rows = rows ≡ []
AreHeaderRows (One row) rows = rows ≡ fields_of_header row ∷ []
AreHeaderRows Several rows = 1 < length rows

-- the tables have the rows
pub record AreKept (rows : Stored) (intake : Intake) : Type 0 where
  pub developers : IsRollOf rows.developers intake.roll
  pub resolutions : AreResolutionsOf rows.resolutions intake.resolutions
  pub choices : AreChoicesOf rows.choices intake.choices
  pub sponsors : AreSponsorsOf rows.sponsors intake.sponsors
  pub ballots : AreBallotsOf rows.ballots intake.ballots

-- no desk has the rows, whatever comes after them
abbrev pub AreDamaged : Stored → Type 0
AreDamaged rows = (s : State) (behind : Stored) → Fits s → ¬ (HasRows s (joined rows behind))

-- what became of the rows: of a spent intake nothing is known
abbrev pub HasBecome : Condition → Stored → Intake → Type 0
HasBecome Kept rows intake = AreKept rows intake
HasBecome Damaged rows intake = AreDamaged rows
HasBecome Spent rows intake = ⊥

-- the intake has taken these rows, those of each table in this order
pub record HasTaken (rows : Stored) (intake : Intake) : Type 0 where
  pub desk : AreHeaderRows intake.desk rows.desk
  pub others : HasBecome intake.condition rows intake

-- memory was refused for a row, and the intake takes no more
abbrev pub IsSpent : Intake → Type 0
IsSpent intake = intake.condition ≡ Spent

-- the rows say this header, and the tables have the others
pub record IsHeaderOf (rows : Stored) (intake : Intake) (header : Header) : Type 0 where
  pub desk : rows.desk ≡ header_fields header ∷ []
  pub fits : FitsHeader header
  pub kept : AreKept rows intake

-- the state with this header and the tables of the intake
abbrev pub taken_with : Header → Intake → State
taken_with header intake =
    state_of header intake.roll intake.resolutions intake.choices intake.sponsors intake.ballots
