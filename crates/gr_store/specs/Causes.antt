-- Why the database fails, where it does not want memory: by its disk, or by what it has and is asked.
use Rattle.std.specs.Prelude.{◌≡◌, ◌⊎◌, ⊤, ℕ, false, List, [], ◌∷◌, map, codes, Option, Result, Ok, Err}
use Rattle.sqlite_disk.specs.Disk.{MoreFaults}
use Rattle.sqlite_value.specs.Order.{Row}
use Rattle.sqlite_catalog.specs.Change.{is_used}
use Rattle.sqlite_schema.specs.declared.schema.Schema.{Schema}
use Rattle.sqlite_schema.specs.declared.schema.Table.{Table}
use Rattle.sqlite_schema.specs.declared.schema.Keys.TheVariants.{Enforced}
use Rattle.sqlite_resolve.specs.declared.compiled.Compiled.{Compiled}
use Rattle.sqlite_resolve.specs.declared.error.CompileError.{CompileError}
use Rattle.sqlite_rules.specs.Lists.{Has}
use Rattle.sqlite.specs.declared.error.Error.{Error}
use Rattle.sqlite.specs.declared.error.Error.TheVariants.{SqliteFailure}
use Rattle.sqlite.specs.declared.error.ErrorCode.TheVariants.{OutOfMemory}
use Rattle.sqlite.specs.declared.run.Mode.{Mode}
use Rattle.sqlite.specs.Does.{Does}
use Rattle.sqlite.specs.Effect.{Database, RefusesToRead}
use Rattle.sqlite.specs.Listing.{understood, reads_listing, IsSourceOf}
use Rattle.sqlite.specs.State.{State, text_of}
use Rattle.gr_core.specs.Columns.Fields.{FitsHeader, FitsResolution, FitsChoice, row_fields}
use Rattle.gr_core.specs.Machine.Row as core
use Rattle.gr_core.specs.Machine.Row.{put_all}
use Rattle.gr_core.specs.Desks.State as desks
use Rattle.gr_core.specs.Desks.State.{new_state, with_ballots_before}
use Rattle.gr_core.specs.Desks.Version1.{lifted}
use Rattle.gr_store.specs.Schema.{desk_text, developer_text, resolution_text, choice_text, sponsor_text, ballot_text}
use Rattle.gr_store.specs.Schema.{desk_table, developer_table, resolution_table, choice_table, sponsor_table}
use Rattle.gr_store.specs.Schema.{ballot_table}
use Rattle.gr_store.specs.Rows.{value_of}
use Rattle.gr_store.specs.Own.{HasOwnTables, HasOwnTablesWith}
use Rattle.gr_store.specs.Clears.{ballot1_clear}
use Rattle.gr_store.specs.Migrates.{PutsBallots, tables_beside, without_ballots}
use Rattle.gr_store.specs.Version1.{HoldsValid1, OwnsValid1}
use Rattle.gr_store.specs.Puts.{desk_put, developer_put, resolution_put, choice_put, sponsor_put, ballot_put}
use Rattle.gr_store.specs.Makes.{MakesTable, MakesDesk}
use Rattle.gr_store.specs.Commits.{PutsRow}
use Rattle.gr_store.specs.Selects.{desk_select, developer_select, resolution_select, choice_select, sponsor_select}
use Rattle.gr_store.specs.Selects.{ballot_select}

-- Between these states the disk failed or refused once more, or a failure of it had shut the connection before.
abbrev pub DiskFails : State → State → Type 0
DiskFails old new = MoreFaults old.faults new.faults ⊎ (old.is_open ≡ false)

-- the engine wants memory
abbrev pub IsMemory : Error → Type 0
IsMemory e = e ≡ SqliteFailure OutOfMemory

-- an error of the engine is running out of memory, the disk failed, or this is so
abbrev pub IsCaused : State → State → Type 0 → Error → Type 0
IsCaused old new Other e = IsMemory e ⊎ (DiskFails old new ⊎ Other)

-- ---- texts that write

-- how the engine writes: each foreign key holds at once
abbrev pub writing : Mode
writing = record { keys = Enforced; in_doubt = false; may_wait = false }

-- What the text means under the schema is refused, by a rule of the schema, or has a value that is too big to be kept;
-- or it means nothing there.
abbrev pub RefusesText : Option ℕ → List ℕ → Row → Database → Result Compiled CompileError → Type 0
RefusesText limit text values db (Ok c) =
    (stop : Option Error) × Does limit writing values db (text_of text c) c.returning c.command (Err stop)
RefusesText limit text values db (Err fault) = ⊤

-- the database refuses the text with these values
abbrev pub IsTextRefused : Option ℕ → List ℕ → Row → Database → Type 0
IsTextRefused limit text values db = RefusesText limit text values db (understood db.schema text)

-- the numbers of the row are not too great for their columns
abbrev pub FitsColumns : core.RowModel → Type 0
FitsColumns (core.HeaderOf header) = FitsHeader header
FitsColumns (core.ResolutionOf number resolution) = FitsResolution number resolution
FitsColumns (core.ChoiceOf key row) = FitsChoice key row
FitsColumns _ = ⊤

-- the text that puts it
abbrev pub put_text : core.RowModel → List ℕ
put_text (core.HeaderOf header) = desk_put
put_text (core.DeveloperOf login row) = developer_put
put_text (core.ResolutionOf number resolution) = resolution_put
put_text (core.ChoiceOf key row) = choice_put
put_text (core.SponsorOf key sponsorship) = sponsor_put
put_text (core.BallotOf key row) = ballot_put

-- the row cannot be put: a number is too great for its column, or the database refuses it
abbrev pub CannotPut : Option ℕ → core.RowModel → Database → Type 0
CannotPut limit row db = (¬ (FitsColumns row)) ⊎ IsTextRefused limit (put_text row) (map value_of (row_fields row)) db

-- one of the rows cannot, after those before it
abbrev pub CannotPutAll : {schema : Schema} → HasOwnTables schema → Option ℕ → List core.RowModel → Database → Type 0
CannotPutAll own limit [] db = ⊥
CannotPutAll own limit (row ∷ rows) db =
    CannotPut limit row db ⊎ ((next : Database) × PutsRow own row db next × CannotPutAll own limit rows next)

-- the six tables in their order, each with the text that makes it
abbrev pub six_tables : List (List ℕ × Table)
six_tables =
    (desk_text, desk_table) ∷ (developer_text, developer_table) ∷ (resolution_text, resolution_table)
    ∷ (choice_text, choice_table) ∷ (sponsor_text, sponsor_table) ∷ (ballot_text, ballot_table) ∷ []

-- one of the tables cannot be made, after those before it
abbrev pub CannotMakeAll : Option ℕ → List (List ℕ × Table) → Database → Type 0
CannotMakeAll limit [] db = ⊥
CannotMakeAll limit (made ∷ more) db =
    IsTextRefused limit made.0 [] db ⊎ ((next : Database) × MakesTable made.1 db next × CannotMakeAll limit more next)

-- one of the six tables cannot be made, or the header of a new desk cannot be put in them
abbrev pub CannotMakeDesk : Option ℕ → Database → Type 0
CannotMakeDesk limit db =
    CannotMakeAll limit six_tables db
    ⊎ ((made : Database) × MakesDesk db made × CannotPut limit (core.HeaderOf new_state.header) made)

-- ballots of the desk, those on the first resolutions, cannot be put
abbrev pub CannotPutBallots : {schema : Schema} → HasOwnTables schema → Option ℕ → desks.State → Database → Type 0
CannotPutBallots own limit s db =
    (number : ℕ) × (rows : List core.RowModel) × (put_all (without_ballots s) rows ≡ with_ballots_before number s)
    × CannotPutAll own limit rows db

-- the header or a ballot of the desk cannot be put, or the rows of the table of ballots of version 1 be taken out
abbrev pub CannotRewrite : {ballots : Table} {old made : Database} → HasOwnTablesWith ballots old.schema
    → MakesTable ballot_table old made → Option ℕ → desks.State → Type 0
CannotRewrite {made = made} own makes limit s =
    CannotPut limit (core.HeaderOf s.header) made
    ⊎ ((header : Database) × PutsRow (tables_beside own makes) (core.HeaderOf s.header) made header
    × (CannotPutBallots (tables_beside own makes) limit s header
    ⊎ ((filled : Database) × PutsBallots (tables_beside own makes) s header filled
    × IsTextRefused limit ballot1_clear [] filled)))

-- the table of ballots of this version cannot be made for the desk, or the rest be done in it
abbrev pub CannotMove : Option ℕ → desks.State → (old : Database) {ballots : Table}
    → HasOwnTablesWith ballots old.schema → Type 0
CannotMove limit s old own =
    IsTextRefused limit ballot_text [] old
    ⊎ ((made : Database) × (makes : MakesTable ballot_table old made) × CannotRewrite own makes limit s)

-- nor can it for the desk of version 1 that the database holds, as it is in this version, where the name of the table
-- is not taken
abbrev pub CannotMigrate : Option ℕ → (old : Database) → OwnsValid1 old → Type 0
CannotMigrate limit old tables =
    (is_used old.schema (codes "ballot2") ≡ false)
    × (desk1 : HoldsValid1 old) × CannotMove limit (lifted desk1.0) old (tables desk1).has.own

-- ---- texts that read

-- the engine stops the select, as by a limit on its steps
abbrev pub IsStopped : Option ℕ → List ℕ → Database → Type 0
IsStopped limit text db =
    (c : Compiled) × (understood db.schema text ≡ Ok c)
    × (source : Database) × IsSourceOf (reads_listing db.schema text) db source
    × (e : Error) × RefusesToRead limit c.command source [] e

-- it stops one of the six, that of ballots by this text
abbrev pub CannotSelectBy : List ℕ → Option ℕ → Database → Type 0
CannotSelectBy ballots limit db =
    (text : List ℕ) × Has (desk_select ∷ developer_select ∷ resolution_select ∷ choice_select ∷ sponsor_select
    ∷ ballots ∷ []) text × IsStopped limit text db

abbrev pub CannotSelect : Option ℕ → Database → Type 0
CannotSelect = CannotSelectBy ballot_select
