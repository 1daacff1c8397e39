-- What a SELECT of a table's columns is compiled to, wherever the schema has a table with these columns.
use Rattle.std.proofs.Common.{◌≡◌, ℕ, ◌+◌, ◌<◌, true, List, [], Option, Some, None, Ok, Err, map, length, refl, ap, subst, arith}
use Rattle.std.specs.List.{enumerate_from}
use Rattle.std.proofs.lemmas.Bool.{lt-leb}
use Rattle.sqlite_ast.specs.declared.Statement.{Statement}
use Rattle.sqlite_ast.specs.declared.Statement.TheVariants as written
use Rattle.sqlite_syntax.specs.declared.statement.Parsed.{Parsed}
use Rattle.sqlite_schema.specs.declared.schema.Schema.{Schema}
use Rattle.sqlite_schema.specs.declared.schema.Table.{Table}
use Rattle.sqlite_schema.specs.declared.command.Command.TheVariants as command
use Rattle.sqlite_typing.specs.Types.{accepts_program}
use Rattle.sqlite_resolve.specs.declared.compiled.Compiled.{Compiled}
use Rattle.sqlite_resolve.specs.Lowering.{Checked, and_then}
use Rattle.sqlite_resolve.specs.Compile as compile
use Rattle.sqlite_resolve.specs.Scope.{Name}
use Rattle.gr_store.specs.Tabled.{HasColumns, HasColumnsOf}
use Rattle.gr_store.proofs.Reading.ColumnQueries.{Found, query_of, program_of, names_of}
use Rattle.gr_store.proofs.Reading.WrittenSelects.{Written, written_of, select_of, AreNamed, is_select}
use Rattle.gr_store.proofs.Reading.NamedColumns.{find_all, as_many, same_found, are_shown}
use Rattle.gr_store.proofs.Reading.ResolvedSelects.{read_as, accepts_from_table}

-- what is written in a SELECT, and the formats in which the text wants the time
abbrev pub written_by : List Name → Statement → Option (Written × List Name)
written_by formats (written.Select s) = Some (written_of s, formats)
written_by formats _ = None

abbrev pub written_in : Checked Parsed → Option (Written × List Name)
written_in (Ok p) = written_by p.formats p.statement
written_in (Err e) = None

-- the text asks for each column of each row of the table, by its name, in the order of the columns `keys`
pub record AsksForTable (text : List ℕ) (table : Table) (keys : List Name) : Type 0 where
  pub reads : written_in (compile.first text) ≡ Some (select_of table.name (names_of table) keys, [])
  pub named : AreNamed table.columns (enumerate_from 0 table.columns) (names_of table)
  pub ordered : (other : Table) → HasColumns other (names_of table) → HasColumns other keys
  pub few : length (names_of table) + length keys < 100000

-- it is compiled to the query of these columns of the table
abbrev pub Selecting : Table → List Found → List Found → Checked Compiled → Type 0
Selecting table found keys (Ok c) =
    (c.command ≡ command.Select (program_of table found keys) (map (λ c. c.1.name) found)) × (c.returning ≡ None)
    × (c.formats ≡ [])
Selecting table found keys (Err e) = ⊥

both_of : {A B : Type 0} (p q : A × B) → Some p ≡ Some q → (p.0 ≡ q.0) × (p.1 ≡ q.1)
both_of {A = A} {B = B} p q h = let same : p ≡ q = cc in (ap (λ (p : A × B). p.0) same, ap (λ (p : A × B). p.1) same)

module _ (text : List ℕ) (table : Table) (keys : List Name) (asks : AsksForTable text table keys) (schema : Schema)
    (has : HasColumnsOf schema table) where
  pub finds_shown : (found : List Found) × AreNamed has.other.columns found (names_of table)
  finds_shown = find_all has.other (names_of table) has.columns

  pub finds_keys : (sorted : List Found) × AreNamed has.other.columns sorted keys
  finds_keys = find_all has.other keys (asks.ordered has.other has.columns)

  abbrev pub shown_columns : List Found
  shown_columns = finds_shown.0

  abbrev pub key_columns : List Found
  key_columns = finds_keys.0

  -- those of a table that has them in their order
  pub found_in_order : has.other.columns ≡ table.columns → shown_columns ≡ enumerate_from 0 table.columns
  found_in_order same =
      same_found table.columns shown_columns (enumerate_from 0 table.columns) (names_of table)
      (subst (λ columns. AreNamed columns shown_columns (names_of table)) same finds_shown.1) asks.named

  pub accepts : accepts_program schema [] (query_of has.other shown_columns key_columns) [] ≡ true
  accepts =
      accepts_from_table schema has.at table.name has.other has.is shown_columns key_columns (lt-leb _ _ has.below)
      has.first
      (are_shown has.other shown_columns key_columns (names_of table) keys finds_shown.1 finds_keys.1)

  few : length shown_columns + length key_columns < 100000
  few =
      let shown = as_many has.other.columns shown_columns (names_of table) finds_shown.1 in
      let ordered = as_many has.other.columns key_columns keys finds_keys.1 in
      omega (arith, asks.few)

  of_statement : (p : Parsed) (s : Statement) → p.statement ≡ s
      → written_by p.formats s ≡ Some (select_of table.name (names_of table) keys, [])
      → Selecting has.other shown_columns key_columns
      (and_then (compile.planned schema p) (λ plan. Ok (compile.with_command p plan)))
  unfolding compile.planned compile.meaning compile.returning compile.timed compile.command
  of_statement p (written.Select s) is reads =
      let both = both_of {A = Written} {B = List Name} (written_of s, p.formats)
      (select_of table.name (names_of table) keys, []) reads in
      let select = is_select has.other.columns table.name (names_of table) keys shown_columns key_columns s
      finds_shown.1 finds_keys.1 both.0 in
      let read = read_as schema has.at table.name has.other has.is shown_columns key_columns s select has.named few
      accepts in
      rw (is, both.1, read) (refl, refl, refl)
  of_statement p _ is reads = absurd (cc)

  of_parsed : (r : Checked Parsed) → written_in r ≡ Some (select_of table.name (names_of table) keys, [])
      → Selecting has.other shown_columns key_columns
      (and_then r (λ p. and_then (compile.planned schema p) (λ plan. Ok (compile.with_command p plan))))
  of_parsed (Ok p) reads = of_statement p p.statement refl reads
  of_parsed (Err e) reads = absurd (cc)

  pub compiles : Selecting has.other shown_columns key_columns (compile.compiled schema text)
  unfolding compile.compiled
  compiles = of_parsed (compile.first text) asks.reads
