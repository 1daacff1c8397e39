-- Which schemas have the six tables with their columns, and that there the answers of the six selects differ in the
-- order of their rows alone.
use Rattle.gr_core.specs.Columns.Stored.{DeskTable, DeveloperTable, ResolutionTable, ChoiceTable}
use Rattle.gr_core.specs.Columns.Stored.{SponsorTable, BallotTable}
use Rattle.std.proofs.Common.{◌≡◌, ℕ, true, is_some, List, Some, refl, subst, IsPermutation}
use Rattle.sqlite_schema.specs.Names.{table_named}
use Rattle.std.proofs.lemmas.List.Sorted.{IsPermutation-sym, IsPermutation-trans}
use Rattle.sqlite_value.specs.Order.{Row}
use Rattle.sqlite_schema.specs.declared.schema.Schema.{Schema}
use Rattle.sqlite_schema.specs.declared.schema.Table.{Table}
use Rattle.sqlite.specs.Effect.{Database}
use Rattle.gr_store.specs.Own.{HasOwnTables, HasOwnTablesWith, IsBallotTable1}
use Rattle.gr_store.specs.Schema.{desk_table, ballot_table, HasSixTablesWith}
use Rattle.gr_store.specs.Tabled.{HasTable, HasTables, HasColumnsOf, HasColumns1, HasColumnsWith, in_tree}
use Rattle.gr_store.specs.Selects.{Selects, HasOneAnswer, desk_select, ballot1_select}
use Rattle.gr_store.proofs.TableRows.EachTable.{HasOneDesk, HasOneDeskBy}
use Rattle.gr_store.specs.SelectedTables.{HasPlainAnswer}
use Rattle.gr_store.proofs.Reading.NamedColumns.{has_columns}
use Rattle.gr_store.proofs.Reading.TableSelects.{desk_selected, developer_selected, resolution_selected, choice_selected, sponsor_selected, ballot1_selected}
use Rattle.gr_store.proofs.Reading.SelectAnswers.{desk_selected_any, developer_selected_any, resolution_selected_any, choice_selected_any, sponsor_selected_any, ballot_selected_any}

-- two permutations of one list are such of one another
alike : (text : List ℕ) (db : Database) (rows : List Row) → ((answer : List Row) → Selects text db answer → IsPermutation rows answer) → HasOneAnswer text db
alike text db rows each one two first second =
    IsPermutation-trans _ _ _ (IsPermutation-sym _ _ (each one first)) (each two second)

pub one_header_row : (db : Database) → HasTable db.schema desk_table → HasOneAnswer desk_select db
one_header_row db has = alike _ db _ (λ rows h. desk_selected_any db rows has h)

-- and it is a query there
pub plain_desk : (db : Database) → HasTable db.schema desk_table → HasPlainAnswer desk_select db
plain_desk db has = desk_selected.plain db (has_columns has)

-- and so is each of the others
pub right_tables : (db : Database) → HasTables db.schema → HasOneDesk db
right_tables db has DeskTable = one_header_row db (has DeskTable)
right_tables db has DeveloperTable = alike _ db _ (λ rows h. developer_selected_any db rows (has DeveloperTable) h)
right_tables db has ResolutionTable = alike _ db _ (λ rows h. resolution_selected_any db rows (has ResolutionTable) h)
right_tables db has ChoiceTable = alike _ db _ (λ rows h. choice_selected_any db rows (has ChoiceTable) h)
right_tables db has SponsorTable = alike _ db _ (λ rows h. sponsor_selected_any db rows (has SponsorTable) h)
right_tables db has BallotTable = alike _ db _ (λ rows h. ballot_selected_any db rows (has BallotTable) h)

-- tables as their texts define them have their columns
pub columns_of : (schema : Schema) → HasTables schema → HasColumnsWith ballot_table schema
columns_of schema has name = has_columns (has name)

-- and tables with their columns, those of version 1, are selected so too
pub right_columns1 : (db : Database) → HasColumns1 db.schema → HasOneDeskBy ballot1_select db
right_columns1 db has DeskTable = (desk_selected.plain db (has DeskTable)).one
right_columns1 db has DeveloperTable = (developer_selected.plain db (has DeveloperTable)).one
right_columns1 db has ResolutionTable = (resolution_selected.plain db (has ResolutionTable)).one
right_columns1 db has ChoiceTable = (choice_selected.plain db (has ChoiceTable)).one
right_columns1 db has SponsorTable = (sponsor_selected.plain db (has SponsorTable)).one
right_columns1 db has BallotTable = (ballot1_selected.plain db (has BallotTable)).one

-- a table of its own is one that the schema has
pub right_of : (schema : Schema) → HasOwnTables schema → HasTables schema
right_of schema own name = (own name).has

-- such tables of version 1 have the columns of that version, whatever further columns that of ballots has
pub columns1 : {ballots : Table} (schema : Schema) → IsBallotTable1 ballots → HasOwnTablesWith ballots schema
    → HasColumns1 schema
columns1 {ballots} schema is own BallotTable =
    let has = (own BallotTable).has in
    record {
      at = has.at;
      other = in_tree ballots has.tree;
      named = subst (λ name. table_named schema name ≡ Some has.at) is.name has.named;
      is = has.is;
      columns = is.columns;
      first = has.first;
      below = has.below;
    }
columns1 schema is own DeskTable = has_columns (own DeskTable).has
columns1 schema is own DeveloperTable = has_columns (own DeveloperTable).has
columns1 schema is own ResolutionTable = has_columns (own ResolutionTable).has
columns1 schema is own ChoiceTable = has_columns (own ChoiceTable).has
columns1 schema is own SponsorTable = has_columns (own SponsorTable).has

-- a table that the schema has with its columns has its name there
pub has_name : {table : Table} (schema : Schema) → HasColumnsOf schema table → is_some (table_named schema table.name) ≡ true
has_name schema has = rw has.named refl

-- and so have the six
pub there_are : {table : Table} (schema : Schema) → HasColumnsWith table schema → HasSixTablesWith table.name schema
there_are schema has = record {
  desk = rw (has DeskTable).named refl;
  developer = rw (has DeveloperTable).named refl;
  resolution = rw (has ResolutionTable).named refl;
  choice = rw (has ChoiceTable).named refl;
  sponsor = rw (has SponsorTable).named refl;
  ballot = rw (has BallotTable).named refl;
}
