-- What is known of the six tables one by one is known of each.
use Rattle.std.proofs.Common.{List, ℕ}
use Rattle.std.specs.Prelude.{codes}
use Rattle.sqlite.specs.Effect.{Database}
use Rattle.gr_core.specs.Columns.Stored.{TableName, DeskTable, DeveloperTable, ResolutionTable, ChoiceTable}
use Rattle.gr_core.specs.Columns.Stored.{SponsorTable, BallotTable, Stored, table_rows}
use Rattle.sqlite_schema.specs.declared.schema.Schema.{Schema}
use Rattle.gr_store.specs.Columns.{ballot_kinds}
use Rattle.gr_store.specs.Holds.{HaveKindsWith, SelectsOthersBy}
use Rattle.gr_store.specs.Schema.{HasSixTablesWith}
use Rattle.gr_store.specs.Selects.{HasOneAnswer, SelectsFields, ballot_select, selects_with, desk_select, developer_select, resolution_select}
use Rattle.gr_store.specs.Selects.{choice_select, sponsor_select}

abbrev pub HasSixTables : Schema → Type 0
HasSixTables = HasSixTablesWith (codes "ballot2")

-- those of version 1
abbrev pub HasSixTables1 : Schema → Type 0
HasSixTables1 = HasSixTablesWith (codes "ballot")

abbrev pub SelectsOthers : Stored → Database → Type 0
SelectsOthers = SelectsOthersBy ballot_select

abbrev pub HaveKinds : Stored → Type 0
HaveKinds = HaveKindsWith ballot_kinds

-- the answers to each select differ in the order of their rows alone
abbrev pub HasOneDeskBy : List ℕ → Database → Type 0
HasOneDeskBy text db = (name : TableName) → HasOneAnswer (selects_with text name) db

abbrev pub HasOneDesk : Database → Type 0
HasOneDesk = HasOneDeskBy ballot_select

-- the answers of the five selects after that of `desk`
pub others_selected : (text : List ℕ) (rows : Stored) (db : Database) → SelectsFields developer_select db rows.developers
    → SelectsFields resolution_select db rows.resolutions → SelectsFields choice_select db rows.choices
    → SelectsFields sponsor_select db rows.sponsors → SelectsFields text db rows.ballots → SelectsOthersBy text rows db
others_selected text rows db developers resolutions choices sponsors ballots DeskTable other = absurd other
others_selected text rows db developers resolutions choices sponsors ballots DeveloperTable other = developers
others_selected text rows db developers resolutions choices sponsors ballots ResolutionTable other = resolutions
others_selected text rows db developers resolutions choices sponsors ballots ChoiceTable other = choices
others_selected text rows db developers resolutions choices sponsors ballots SponsorTable other = sponsors
others_selected text rows db developers resolutions choices sponsors ballots BallotTable other = ballots

-- with that of `desk`, they are those of all six
pub all_selected : (text : List ℕ) (rows : Stored) (db : Database) → SelectsFields desk_select db rows.desk
    → SelectsOthersBy text rows db → (name : TableName) → SelectsFields (selects_with text name) db (table_rows name rows)
all_selected text rows db desk others DeskTable = desk
all_selected text rows db desk others DeveloperTable = others DeveloperTable tt
all_selected text rows db desk others ResolutionTable = others ResolutionTable tt
all_selected text rows db desk others ChoiceTable = others ChoiceTable tt
all_selected text rows db desk others SponsorTable = others SponsorTable tt
all_selected text rows db desk others BallotTable = others BallotTable tt
