-- What the six selects answer, wherever the schema has a table with these columns: those of each of its rows, once, and
-- there is such an answer.
use Rattle.std.proofs.Common.{◌≡◌, ◌∙◌, ℕ, ◌+◌, List, [], ◌∷◌, map, length, Ok, Err, false, refl, sym, ap, ap₂, subst, IsPermutation}
use Rattle.std.specs.List.{range_with_len, enumerate_from}
use Rattle.sqlite_value.specs.declared.value.Value.TheVariants.{Null}
use Rattle.sqlite_value.specs.Order.{Row, column}
use Rattle.sqlite_sql.specs.Program.{overlay}
use Rattle.sqlite_schema.specs.declared.schema.Column.{Column}
use Rattle.sqlite_schema.specs.declared.schema.Table.{Table}
use Rattle.sqlite_schema.specs.Names.{place_of}
use Rattle.sqlite_resolve.specs.declared.compiled.Compiled.{Compiled}
use Rattle.sqlite_resolve.specs.Lowering.{Checked}
use Rattle.sqlite_resolve.specs.Compile.{compiled}
use Rattle.sqlite_resolve.specs.Scope.{Name}
use Rattle.sqlite.specs.Effect.{Database, Answers}
use Rattle.sqlite.specs.Listing.{understood, reads_listing, misses_table, IsSourceOf}
use Rattle.gr_store.specs.Schema.{desk_table, developer_table, resolution_table, choice_table, sponsor_table, ballot_table}
use Rattle.gr_store.specs.Schema.{ballot1_table}
use Rattle.gr_store.specs.Rows.{columns_of}
use Rattle.gr_store.specs.Tabled.{HasTable, HasColumnsOf}
use Rattle.gr_store.specs.Selects.{Selects, desk_select, developer_select, resolution_select, choice_select, sponsor_select, ballot_select}
use Rattle.gr_store.specs.Selects.{ballot1_select}
use Rattle.gr_store.proofs.Reading.ColumnQueries.{Found, program_of, values_of, each_once, has_answer, no_tables}
use Rattle.gr_store.proofs.Reading.NamedColumns.{has_columns}
use Rattle.gr_store.proofs.Reading.CompiledSelects.{AsksForTable, Selecting, shown_columns, key_columns, found_in_order, compiles, accepts}
use Rattle.gr_store.proofs.Reading.SelectTexts.{desk_asks, developer_asks, resolution_asks, choice_asks, sponsor_asks, ballot_asks, ballot1_asks}

-- a text that is compiled misses no table
not_missing : (table : Table) (found keys : List Found) (r : Checked Compiled) → Selecting table found keys r
    → misses_table r ≡ false
not_missing table found keys (Ok c) is = refl
not_missing table found keys (Err e) is = absurd is

chosen : (table : Table) (found keys : List Found) (r : Checked Compiled) → Selecting table found keys r
    → (c : Compiled) × (r ≡ Ok c) × Selecting table found keys (Ok c)
chosen table found keys (Ok c) is = (c, refl, is)
chosen table found keys (Err e) is = absurd is

-- the columns of a table in their order
values_in_order : (table : Table) (at : ℕ) (cs : List Column) (row : Row)
    → values_of table (enumerate_from at cs) row ≡ map (λ at. column row (place_of table at)) (range_with_len at (length cs))
values_in_order table at [] row = refl
values_in_order table at (c ∷ cs) row =
    ap (λ values. column row (place_of table at) ∷ values) (values_in_order table (at + 1) cs row)

rows_in_order : (table : Table) (rows : List Row)
    → map (values_of table (enumerate_from 0 table.columns)) rows ≡ map (columns_of table) rows
rows_in_order table [] = refl
rows_in_order table (row ∷ rows) = ap₂ ◌∷◌ (values_in_order table 0 table.columns row) (rows_in_order table rows)

module _ (text : List ℕ) (table : Table) (keys : List Name) (asks : AsksForTable text table keys) (db : Database)
    (has : HasColumnsOf db.schema table) where
  abbrev shown : List Found
  shown = shown_columns text table keys asks db.schema has

  abbrev ordered : List Found
  ordered = key_columns text table keys asks db.schema has

  pub selecting : Selecting has.other shown ordered (compiled db.schema text)
  selecting = compiles text table keys asks db.schema has

  pub unlisted : reads_listing db.schema text ≡ false
  unlisted = not_missing has.other shown ordered (compiled db.schema text) selecting

  pub known : understood db.schema text ≡ compiled db.schema text
  unfolding understood
  known = rw unlisted refl

  pub statement : (c : Compiled) × (compiled db.schema text ≡ Ok c) × Selecting has.other shown ordered (Ok c)
  statement = chosen has.other shown ordered (compiled db.schema text) selecting

  -- an answer has these columns of each row of the tree, once
  pub selected : (rows : List Row) → Selects text db rows
      → IsPermutation (map (values_of has.other shown) (db.trees has.other.tree)) rows
  selected rows h =
      let means : Selecting has.other shown ordered (Ok h.statement) = subst (Selecting has.other shown ordered)
      (sym known ∙ h.is) selecting in
      let source : h.source ≡ db = subst (λ b. IsSourceOf b db h.source) unlisted h.read in
      let reads : Answers db (program_of has.other shown ordered) [] rows = rw (means.2, means.0, source) at h.answer in
      let each = each_once has.other shown ordered (overlay db.trees []) Null rows (reads.answer Null) in
      subst (λ l. IsPermutation (map (values_of has.other shown) l) rows) (no_tables db.trees has.other.tree) each

  answered : (rows : List Row) × Selects text db rows
  answered =
      let some = has_answer has.other shown ordered (overlay db.trees []) in
      let typed = accepts text table keys asks db.schema has in
      let reads : Answers db (program_of has.other shown ordered) [] some.0 = record { typed = typed; answer = some.1 } in (
        some.0,
        record {
          statement = statement.0;
          is = known ∙ statement.1;
          source = db;
          read = subst (λ b. IsSourceOf b db db) (sym unlisted) refl;
          now = 0;
          answer = rw (statement.2.2, statement.2.0) reads;
        },
      )

-- of a table as its text defines it that is all columns in their order
selected_all : (text : List ℕ) (table : Table) (keys : List Name) → AsksForTable text table keys → (db : Database)
    → (has : HasTable db.schema table) (rows : List Row) → Selects text db rows
    → IsPermutation (map (columns_of table) (db.trees has.tree)) rows
selected_all text table keys asks db has rows h =
    let each = selected text table keys asks db (has_columns has) rows h in
    let all = found_in_order text table keys asks db.schema (has_columns has) refl in
    subst (λ l. IsPermutation l rows) (rows_in_order table (db.trees has.tree))
    (subst (λ found. IsPermutation (map (values_of table found) (db.trees has.tree)) rows) all each)

-- ---- desk

pub desk_selected_any : (db : Database) (rows : List Row) (has : HasTable db.schema desk_table)
    → Selects desk_select db rows
    → IsPermutation (map (columns_of desk_table) (db.trees has.tree)) rows
desk_selected_any db rows has h = selected_all _ _ _ desk_asks db has rows h

pub desk_answered_any : (db : Database) → HasTable db.schema desk_table
    → (rows : List Row) × Selects desk_select db rows
desk_answered_any db has = answered _ _ _ desk_asks db (has_columns has)

-- ---- developer

pub developer_selected_any : (db : Database) (rows : List Row) (has : HasTable db.schema developer_table)
    → Selects developer_select db rows
    → IsPermutation (map (columns_of developer_table) (db.trees has.tree)) rows
developer_selected_any db rows has h = selected_all _ _ _ developer_asks db has rows h

pub developer_answered_any : (db : Database) → HasTable db.schema developer_table
    → (rows : List Row) × Selects developer_select db rows
developer_answered_any db has = answered _ _ _ developer_asks db (has_columns has)

-- ---- resolution

pub resolution_selected_any : (db : Database) (rows : List Row) (has : HasTable db.schema resolution_table)
    → Selects resolution_select db rows
    → IsPermutation (map (columns_of resolution_table) (db.trees has.tree)) rows
resolution_selected_any db rows has h = selected_all _ _ _ resolution_asks db has rows h

pub resolution_answered_any : (db : Database) → HasTable db.schema resolution_table
    → (rows : List Row) × Selects resolution_select db rows
resolution_answered_any db has = answered _ _ _ resolution_asks db (has_columns has)

-- ---- choice

pub choice_selected_any : (db : Database) (rows : List Row) (has : HasTable db.schema choice_table)
    → Selects choice_select db rows
    → IsPermutation (map (columns_of choice_table) (db.trees has.tree)) rows
choice_selected_any db rows has h = selected_all _ _ _ choice_asks db has rows h

pub choice_answered_any : (db : Database) → HasTable db.schema choice_table
    → (rows : List Row) × Selects choice_select db rows
choice_answered_any db has = answered _ _ _ choice_asks db (has_columns has)

-- ---- sponsor

pub sponsor_selected_any : (db : Database) (rows : List Row) (has : HasTable db.schema sponsor_table)
    → Selects sponsor_select db rows
    → IsPermutation (map (columns_of sponsor_table) (db.trees has.tree)) rows
sponsor_selected_any db rows has h = selected_all _ _ _ sponsor_asks db has rows h

pub sponsor_answered_any : (db : Database) → HasTable db.schema sponsor_table
    → (rows : List Row) × Selects sponsor_select db rows
sponsor_answered_any db has = answered _ _ _ sponsor_asks db (has_columns has)

-- ---- ballot

pub ballot_selected_any : (db : Database) (rows : List Row) (has : HasTable db.schema ballot_table)
    → Selects ballot_select db rows
    → IsPermutation (map (columns_of ballot_table) (db.trees has.tree)) rows
ballot_selected_any db rows has h = selected_all _ _ _ ballot_asks db has rows h

pub ballot_answered_any : (db : Database) → HasTable db.schema ballot_table
    → (rows : List Row) × Selects ballot_select db rows
ballot_answered_any db has = answered _ _ _ ballot_asks db (has_columns has)

-- ---- ballot, of version 1

pub ballot1_selected_any : (db : Database) (rows : List Row) (has : HasTable db.schema ballot1_table)
    → Selects ballot1_select db rows
    → IsPermutation (map (columns_of ballot1_table) (db.trees has.tree)) rows
ballot1_selected_any db rows has h = selected_all _ _ _ ballot1_asks db has rows h

pub ballot1_answered_any : (db : Database) → HasTable db.schema ballot1_table
    → (rows : List Row) × Selects ballot1_select db rows
ballot1_answered_any db has = answered _ _ _ ballot1_asks db (has_columns has)
