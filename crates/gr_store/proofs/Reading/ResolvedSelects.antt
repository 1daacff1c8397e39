-- How a SELECT of columns of one table is resolved, wherever a schema has the table.
use Rattle.std.proofs.Common.{◌≡◌, ℕ, pos, negsuc, ◌+◌, ◌-◌, ◌<◌, ◌^◌, ◌==◌, find, nat_le, Bool, true, false, List, [], ◌∷◌, ◌++◌, Some, None, ◌&&◌, Ok, slice_get, length, map, refl, ap, sym, ◌∙◌, arith, lt-ltb, append-nil, append_assoc}
use Rattle.std.specs.Bool.{⊤}
use Rattle.std.specs.List.{position_from}
use Rattle.sqlite_value.specs.declared.keys.Key.{Key}
use Rattle.sqlite_sql.specs.Term.{Term, lit}
use Rattle.sqlite_ast.specs.declared.Origin.{Origin}
use Rattle.sqlite_ast.specs.declared.Origin.TheVariants as origin
use Rattle.sqlite_ast.specs.declared.Source.{Source, out-Source}
use Rattle.sqlite_ast.specs.declared.Core.{Core, out-Core}
use Rattle.sqlite_ast.specs.declared.Sort.{Sort, out-Sort}
use Rattle.sqlite_ast.specs.declared.Select.{Select, out-Select}
use Rattle.sqlite_ast.specs.declared.Expr.{Expr, out-Expr}
use Rattle.sqlite_ast.specs.declared.Expr.TheOpen.{Expr-F, Shown-F}
use Rattle.sqlite_ast.specs.declared.Shown.{Shown, out-Shown}
use Rattle.sqlite_ast.specs.Layer.{Layer, ShownLayer}
use Rattle.sqlite_schema.specs.declared.schema.Schema.{Schema}
use Rattle.sqlite_schema.specs.declared.schema.Table.{Table}
use Rattle.sqlite_schema.specs.declared.schema.Column.{Column}
use Rattle.sqlite_schema.specs.Names.{same_name, table_named, column_named}
use Rattle.sqlite_resolve.specs.declared.scope.Bound.{Bound}
use Rattle.sqlite_resolve.specs.declared.scope.Output.{Output}
use Rattle.sqlite_resolve.specs.declared.scope.Found.TheVariants as found
use Rattle.sqlite_resolve.specs.declared.body.Body.{Body}
use Rattle.sqlite_resolve.specs.declared.state.State.{State}
use Rattle.sqlite_resolve.specs.declared.state.Carried.{Carried}
use Rattle.sqlite_resolve.specs.Lowering as lowering
use Rattle.sqlite_resolve.specs.Scope as scope
use Rattle.sqlite_resolve.specs.Scope.{Name, Context}
use Rattle.sqlite_resolve.specs.Expr as expr
use Rattle.sqlite_resolve.specs.Expr.{lower}
use Rattle.sqlite_draft.specs.declared.join.Step.TheVariants.{Inner}
use Rattle.sqlite_resolve.specs.Select as select
use Rattle.sqlite_resolve.specs.Program as program
use Rattle.sqlite_resolve.specs.Program.{Building, Shown as Shown'}
use Rattle.sqlite_schema.specs.declared.program.Table.{Table as Let}
use Rattle.sqlite_resolve.specs.declared.select.Clauses.{Clauses}
use Rattle.sqlite_draft.specs.declared.query.Draft.{Draft}
use Rattle.sqlite_typing.specs.Types.{accepts_program, shows, row_classes}
use Rattle.sqlite_resolve.specs.Compile as compile
use Rattle.sqlite_schema.specs.declared.command.Command.TheVariants as command
use Rattle.sqlite_sql.specs.Query.{inner, end}
use Rattle.sqlite_value.specs.declared.value.Value.TheVariants.{Int}
use Rattle.sqlite_resolve.specs.Select.{outermost}
use Rattle.sqlite_resolve.specs.Body as body
use Rattle.sqlite_resolve.specs.Order as order
use Rattle.gr_store.proofs.Reading.ColumnQueries.{Found, column_in, sorted_by, query_of, program_of}

-- ---- what is written

-- a bare name, which is that of a column
abbrev pub NamesColumn : List Column → ℕ → Column → Layer → Type 0
NamesColumn columns at c (Expr-F.Column None name) =
    (position_from (λ c. same_name c.name name) 0 columns ≡ Some at) × (slice_get columns at ≡ Some c)
NamesColumn columns at c _ = ⊥

abbrev pub ShowsColumn : List Column → ℕ → Column → ShownLayer → Type 0
ShowsColumn columns at c (Shown-F.One e None text) = NamesColumn columns at c (out-Expr e)
ShowsColumn columns at c _ = ⊥

-- these of the columns
abbrev pub ShowsColumns : List Column → List Found → List Shown → Type 0
ShowsColumns columns [] [] = ⊤
ShowsColumns columns (c ∷ cs) (s ∷ shown) =
    ShowsColumn columns c.0 c.1 (out-Shown s) × ShowsColumns columns cs shown
ShowsColumns columns _ _ = ⊥

abbrev pub SortsBy : List Column → List Found → List Sort → Type 0
SortsBy columns [] [] = ⊤
SortsBy columns (c ∷ keys) (s ∷ sorts) =
    NamesColumn columns c.0 c.1 (out-Expr (out-Sort s).key) × ((out-Sort s).descending ≡ false)
    × ((out-Sort s).nulls_first ≡ None) × SortsBy columns keys sorts
SortsBy columns _ _ = ⊥

-- FROM names the table alone
abbrev pub IsFrom : Name → Origin Select → Type 0
IsFrom name (origin.Table written) = written ≡ name
IsFrom name (origin.Query s) = ⊥

abbrev pub ReadsTable : Name → List Source → Type 0
ReadsTable name (s ∷ []) =
    IsFrom name (out-Source s).origin × ((out-Source s).alias ≡ None) × ((out-Source s).is_left ≡ false)
    × ((out-Source s).on ≡ None) × ((out-Source s).using ≡ [])
ReadsTable name _ = ⊥

-- a SELECT of some of the columns of the table with this name, in the order of the columns `keys`
pub record IsSelect (columns : List Column) (name : Name) (found keys : List Found) (s : Select) : Type 0 where
  pub with : (out-Select s).with ≡ []
  pub others : (out-Select s).others ≡ []
  pub limit : (out-Select s).limit ≡ None
  pub offset : (out-Select s).offset ≡ None
  pub sorts : SortsBy columns keys (out-Select s).order
  pub distinct : (out-Core (out-Select s).first).distinct ≡ false
  pub filter : (out-Core (out-Select s).first).filter ≡ None
  pub group : (out-Core (out-Select s).first).group ≡ []
  pub having : (out-Core (out-Select s).first).having ≡ None
  pub shows : ShowsColumns columns found (out-Core (out-Select s).first).shown
  pub reads : ReadsTable name (out-Core (out-Select s).first).from

-- ---- the state between expressions

abbrev pub quiet : ℕ → Carried → State
quiet budget last = record { next = 2; steps = []; aggregates = []; budget = budget; written = None; last = last }

-- the query of a table alone, which shows these terms
abbrev draft_from : Table → List Found → List Term → Draft
draft_from table keys shown = record {
  from = inner table.tree end;
  filter = [];
  group = None;
  project = shown;
  distinct = false;
  collations = [];
  order = map (sorted_by table) keys;
  limit = lit (Int (negsuc 0));
  offset = lit (Int (pos 0));
}

module _ (schema : Schema) (place : ℕ) (name : Name) (table : Table) (has : slice_get schema.tables place ≡ Some table) where
  abbrev bound : Bound
  bound = record { name = name; table = place; slot = 1; shared = [] }

  abbrev seen : List Output → Bool → Context
  seen shown may_aggregate = record {
    schema = schema;
    levels = record { tables = bound ∷ []; shown = shown } ∷ [];
    may_aggregate = may_aggregate;
    may_alias = true;
  }

  finds : (shown : List Output) (may : Bool) (written : Name) (at : ℕ) → column_named table written ≡ Some at
      → scope.find (seen shown may) None written ≡ Ok (found.Column 1 place at)
  unfolding scope.find scope.in_level scope.only scope.hit scope.column_in scope.is_among
  finds shown may written at named = rw (has, named) refl

  reads_column : (shown : List Output) (may : Bool) (written : Name) (at : ℕ) (c : Column)
      → column_named table written ≡ Some at
      → slice_get table.columns at ≡ Some c → (s : State)
      → scope.column (seen shown may) None written s
      ≡ Ok (column_in table at, record s { last = scope.declared table at c })
  unfolding scope.column scope.term_of scope.column_at
  reads_column shown may written at c named there s = rw (finds shown may written at named, has, there) refl

  lowers : (shown : List Output) (may : Bool) (at : ℕ) (c : Column) (e : Expr) (layer : Layer) → out-Expr e ≡ layer
      → NamesColumn table.columns at c layer → (budget : ℕ) (last : Carried) → 1 < budget
      → lower (seen shown may) e (quiet budget last)
      ≡ Ok (column_in table at, quiet (budget - 1) (scope.declared table at c))
  unfolding expr.lower_to expr.node expr.opened expr.passes lowering.spend lowering.begin lowering.finish
  lowers shown may at c e (Expr-F.Column None written) is names budget last enough =
      rw (lt-ltb 1 budget enough, is, reads_column shown may written at c names.0 names.1) refl
  lowers shown may at c e _ is names budget last enough = absurd names

  heads : (shown : List Output) (may : Bool) (at : ℕ) (c : Column) (e : Expr) (text : Name) (layer : Layer)
      → out-Expr e ≡ layer
      → NamesColumn table.columns at c layer → body.heading (seen shown may) e text ≡ c.name
  unfolding body.heading body.declared
  heads shown may at c e text (Expr-F.Column None written) is names =
      rw (is, finds shown may written at names.0, has, names.1) refl
  heads shown may at c e text _ is names = absurd names

  is_column : (at : ℕ) (c : Column) (e : Expr) (layer : Layer) → out-Expr e ≡ layer
      → NamesColumn table.columns at c layer
      → body.is_column e ≡ true
  unfolding body.is_column
  is_column at c e (Expr-F.Column None written) is names = rw is refl
  is_column at c e _ is names = absurd names

  abbrev output_of : ℕ → Column → Output
  output_of at c = record {
    name = c.name;
    is_alias = false;
    is_column = true;
    term = column_in table at;
    carried = scope.declared table at c;
  }

  abbrev outputs_of : List Found → List Output
  outputs_of = map (λ c. output_of c.0 c.1)

  shows_column : (done : List Output) (may : Bool) (at : ℕ) (c : Column) (layer : ShownLayer)
      → ShowsColumn table.columns at c layer
      → (budget : ℕ) (last : Carried) → 1 < budget
      → body.shown_at lower (seen [] may) (bound ∷ []) done layer (quiet budget last)
      ≡ Ok (done ++ output_of at c ∷ [], quiet (budget - 1) (scope.declared table at c))
  shows_column done may at c (Shown-F.One e None text) shows budget last enough =
      rw (
        lowers [] may at c e (out-Expr e) refl shows budget last enough,
        heads [] may at c e text (out-Expr e) refl shows,
        is_column at c e (out-Expr e) refl shows,
      ) refl
  shows_column done may at c _ shows budget last enough = absurd shows

  -- the columns, and enough of the budget is left
  shows_columns : (room : ℕ) (done : List Output) (may : Bool) (cs : List Found) (shown : List Shown)
      → ShowsColumns table.columns cs shown → (budget : ℕ) (last : Carried) → length cs + room < budget
      → (left : ℕ) × (carried : Carried)
      × (body.outputs_from lower (seen [] may) (bound ∷ []) done shown (quiet budget last)
      ≡ Ok (done ++ outputs_of cs, quiet left carried)) × (room < left)
  unfolding body.shown
  shows_columns room done may [] [] shows budget last enough =
      (budget, last, ap (λ outputs. Ok (outputs, quiet budget last)) (sym (append-nil done)), omega arith)
  shows_columns room done may (c ∷ cs) (s ∷ shown) shows budget last enough =
      let more = shows_columns room (done ++ output_of c.0 c.1 ∷ []) may cs shown shows.1 (budget - 1)
      (scope.declared table c.0 c.1) (omega arith) in (
        more.0,
        more.1,
        rw (shows_column done may c.0 c.1 (out-Shown s) shows.0 budget last (omega arith))
            (more.2 ∙ ap (λ outputs. Ok (outputs, quiet more.0 more.1))
            (append_assoc done (output_of c.0 c.1 ∷ []) (outputs_of cs))),
        more.3,
      )
  shows_columns room done may _ _ shows budget last enough = absurd shows

  -- ---- ORDER BY

  -- no column of the result is an alias
  no_alias : (test : Output → Bool) (cs : List Found) (from : ℕ)
      → position_from (λ o. o.is_alias && test o) from (outputs_of cs) ≡ None
  no_alias test [] from = refl
  no_alias test (c ∷ cs) from = no_alias test cs (from + 1)

  module _ (at : ℕ) (c : Column) (e : Expr) where
    peels : (layer : Layer) → out-Expr e ≡ layer → NamesColumn table.columns at c layer → order.peeled e ≡ e
    unfolding order.peeled
    peels (Expr-F.Column None written) is names = rw is refl
    peels _ is names = absurd names

    not_alias : (layer : Layer) → out-Expr e ≡ layer → NamesColumn table.columns at c layer → (cs : List Found)
        → order.alias_in (outputs_of cs) e ≡ None
    unfolding order.alias_in
    not_alias (Expr-F.Column None written) is names cs = rw is (no_alias (λ o. same_name o.name written) cs 0)
    not_alias _ is names cs = absurd names

    not_numeral : (layer : Layer) → out-Expr e ≡ layer → NamesColumn table.columns at c layer
        → order.is_numeral e ≡ false
    unfolding order.is_numeral
    not_numeral (Expr-F.Column None written) is names = rw is refl
    not_numeral _ is names = absurd names

    not_collated : (layer : Layer) → out-Expr e ≡ layer → NamesColumn table.columns at c layer
        → order.written_on e ≡ None
    unfolding order.written_on
    not_collated (Expr-F.Column None written) is names = rw is refl
    not_collated _ is names = absurd names

  sorts_by : (may : Bool) (done : List (Term × Key)) (at : ℕ) (c : Column) (s : Sort)
      → NamesColumn table.columns at c (out-Expr (out-Sort s).key)
      → (out-Sort s).descending ≡ false → (out-Sort s).nulls_first ≡ None → (cs : List Found) (budget : ℕ) (last : Carried) → 1 < budget
      → order.sort lower (seen (outputs_of cs) may) (outputs_of cs) done s (quiet budget last)
      ≡ Ok (done ++ sorted_by table (at, c) ∷ [], quiet (budget - 1) (scope.declared table at c))
  unfolding order.sort order.key order.collation_of order.placed
  sorts_by may done at c s names up nulls cs budget last enough =
      rw (
        peels at c (out-Sort s).key (out-Expr (out-Sort s).key) refl names,
        not_alias at c (out-Sort s).key (out-Expr (out-Sort s).key) refl names cs,
        lowers (outputs_of cs) may at c (out-Sort s).key (out-Expr (out-Sort s).key) refl names budget last enough,
        not_numeral at c (out-Sort s).key (out-Expr (out-Sort s).key) refl names,
        not_collated at c (out-Sort s).key (out-Expr (out-Sort s).key) refl names,
        up,
        nulls,
      ) refl

  sorts_all : (room : ℕ) (may : Bool) (done : List (Term × Key)) (keys : List Found) (sorts : List Sort)
      → SortsBy table.columns keys sorts
      → (cs : List Found) (budget : ℕ) (last : Carried) → length keys + room < budget
      → (left : ℕ) × (carried : Carried)
      × (order.sorts_from lower (seen (outputs_of cs) may) (outputs_of cs) done sorts (quiet budget last)
      ≡ Ok (done ++ map (sorted_by table) keys, quiet left carried)) × (room < left)
  sorts_all room may done [] [] by cs budget last enough =
      (budget, last, ap (λ order. Ok (order, quiet budget last)) (sym (append-nil done)), omega arith)
  sorts_all room may done (c ∷ keys) (s ∷ sorts) by cs budget last enough =
      let more = sorts_all room may (done ++ sorted_by table c ∷ []) keys sorts by.3 cs (budget - 1)
      (scope.declared table c.0 c.1) (omega arith) in (
        more.0,
        more.1,
        rw (sorts_by may done c.0 c.1 s by.0 by.1 by.2 cs budget last (omega arith))
            (more.2 ∙ ap (λ order. Ok (order, quiet more.0 more.1))
            (append_assoc done (sorted_by table c ∷ []) (map (sorted_by table) keys))),
        more.3,
      )
  sorts_all room may done _ _ by cs budget last enough = absurd by

  -- ---- the result

  shown_terms : (cs : List Found) → map (λ o. o.term) (outputs_of cs) ≡ map (λ c. column_in table c.0) cs
  shown_terms [] = refl
  shown_terms (c ∷ cs) = ap (λ terms. column_in table c.0 ∷ terms) (shown_terms cs)

  shown_names : (cs : List Found) → map (λ o. o.name) (outputs_of cs) ≡ map (λ c. c.1.name) cs
  shown_names [] = refl
  shown_names (c ∷ cs) = ap (λ names. c.1.name ∷ names) (shown_names cs)

  pub accepts_from_table : (found keys : List Found) → nat_le (2 ^ 31) table.tree ≡ false
      → find (λ t. t.tree == table.tree) schema.tables ≡ Some table
      → shows [] (query_of table found keys) (Some (row_classes table ∷ [])) ≡ true
      → accepts_program schema [] (query_of table found keys) [] ≡ true
  accepts_from_table found keys below first typed = rw (below, first, typed) refl

  -- ---- FROM and WHERE

  from_named : (written : Name) → table_named schema written ≡ Some place → (o : Origin Select) → IsFrom written o
      → body.table_in schema 1 o ≡ Ok (written, place)
  unfolding body.table_in
  from_named written named (origin.Table other) is = rw (is, named) refl
  from_named written named (origin.Query s) is = absurd is

  binds : table_named schema name ≡ Some place → (from : List Source) → ReadsTable name from → (budget : ℕ)
      → body.bounds schema from (lowering.fresh 1 budget) ≡ Ok (bound ∷ [], quiet budget lowering.nothing)
  unfolding body.bounds body.bound lowering.take_slot
  binds named (s ∷ []) reads budget =
      rw (from_named name named (out-Source s).origin reads.0, reads.1, reads.4) refl
  binds named _ reads budget = absurd reads

  begins_plain : (written : Name) (from : List Source) → ReadsTable written from → body.begins_with_on from ≡ false
  begins_plain written (s ∷ []) reads = rw (reads.3, reads.4) refl
  begins_plain written _ reads = absurd reads

  joins_one : (written : Name) (shown : List Output) (from : List Source) → ReadsTable written from → (s : State)
      → body.joins lower (seen shown false) (bound ∷ []) from s
      ≡ Ok (record { steps = Inner table.tree ∷ []; filter = [] }, s)
  unfolding body.joins body.join body.shared body.inner_join body.tests
  joins_one written shown (source ∷ []) reads s =
      rw (begins_plain written (source ∷ []) reads, has, reads.2, reads.3) refl
  joins_one written shown _ reads s = absurd reads

  module _ (found keys : List Found) (s : Select) (is : IsSelect table.columns name found keys s)
      (named : table_named schema name ≡ Some place) where
    abbrev core : Core
    core = (out-Select s).first

    abbrev all : List Output
    all = outputs_of found

    matches : (state : State)
        → body.matching lower (outermost schema) (record { tables = bound ∷ []; shown = all }) core state
        ≡ Ok (record { steps = Inner table.tree ∷ []; filter = [] }, state)
    unfolding body.matching body.tests
    matches state = rw (joins_one name all (out-Core core).from is.reads state, is.filter) refl

    abbrev the_body : Body
    the_body = record { level = record { tables = bound ∷ []; shown = all }; steps = Inner table.tree ∷ []; filter = [] }

    whole_body : (room budget : ℕ) → length found + room < budget
        → (left : ℕ) × (carried : Carried) × (body.body lower (outermost schema) core (lowering.fresh 1 budget)
        ≡ Ok (the_body, quiet left carried))
        × (room < left)
    unfolding body.body body.result body.outputs
    whole_body room budget enough =
        let columns = shows_columns room [] true found
        (out-Core core).shown is.shows budget lowering.nothing enough in (
          columns.0,
          columns.1,
          rw (binds named (out-Core core).from is.reads budget, columns.2, matches (quiet columns.0 columns.1)) refl,
          columns.3,
        )

    abbrev clauses : Clauses
    clauses = record {
      body = the_body;
      is_grouped = false;
      keys = [];
      collations = [];
      having = [];
      order = map (sorted_by table) keys;
    }

    parts_are : (budget : ℕ) → length found + length keys < budget
        → (left : ℕ) × (carried : Carried)
        × (select.parts schema core (out-Select s).order (lowering.fresh 1 budget) ≡ Ok (clauses, quiet left carried))
    unfolding select.parts select.having order.keys order.sorts body.tests
    parts_are budget enough =
        let whole = whole_body (length keys) budget enough in
        let sorts = sorts_all 0 false [] keys (out-Select s).order is.sorts found whole.0 whole.1
        (omega (arith, whole.3)) in
        (sorts.0, sorts.1, rw (whole.2, is.group, is.having, sorts.2) refl)

    abbrev no_limit : Term × Term
    no_limit = (lit (Int (negsuc 0)), lit (Int (pos 0)))

    abbrev draft : Draft
    draft = draft_from table keys (map (λ o. o.term) all)

    abbrev what_is_shown : Shown'
    what_is_shown = (draft, map (λ o. o.name) all, map (λ o. o.carried.collation) all)

    named_as : length found + length keys < 100000
        → select.named schema core (out-Select s).order no_limit ≡ Ok what_is_shown
    unfolding select.named select.assembled select.ungrouped
    named_as enough = let parts = parts_are 100000 enough in rw (parts.2, is.distinct) refl

    module _ (query : Schema → Select → Building Shown') where
      source_named : (o : Origin Select) → IsFrom name o → (lets : List Let)
          → program.source query schema schema 1 o lets ≡ Ok (schema, lets)
      unfolding program.source
      source_named (origin.Table other) from lets = refl
      source_named (origin.Query q) from lets = absurd from

      sources_as : (from : List Source) → ReadsTable name from → (lets : List Let)
          → program.sources query schema from lets ≡ Ok (schema, lets)
      unfolding program.sources
      sources_as (one ∷ []) reads lets = rw (source_named (out-Source one).origin reads.0 lets) refl
      sources_as _ reads lets = absurd reads

    module _ (enough : length found + length keys < 100000) where
      no_paging : select.paging schema s ≡ Ok no_limit
      unfolding select.paging select.constant_or
      no_paging = rw (is.limit, is.offset) refl

      single_as : (query : Schema → Select → Building Shown') (lets : List Let)
          → program.single query schema core (out-Select s).order no_limit lets ≡ Ok ((what_is_shown, schema), lets)
      unfolding program.single program.viewing
      single_as query lets = rw (sources_as query (out-Core core).from is.reads lets, named_as enough) refl

      query_as : program.query schema s ≡ Ok (what_is_shown, [])
      unfolding program.query program.query_to program.level program.with program.whole program.alone
      query_as = rw (is.with, no_paging, is.others, single_as (program.query_to 15) []) refl

      module _ (accepts : accepts_program schema [] (query_of table found keys) [] ≡ true) where
        program_as : program.program schema [] draft ≡ Ok (program_of table found keys)
        unfolding program.program
        program_as = rw (shown_terms found, accepts) refl

        pub read_as : compile.read schema s ≡ Ok (command.Select (program_of table found keys) (map (λ c. c.1.name) found))
        unfolding compile.read
        read_as = rw (query_as, program_as, shown_names found) refl
