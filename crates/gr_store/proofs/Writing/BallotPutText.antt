-- What the text that puts a ballot means, computed once, wherever a schema has the table of its own.
use Rattle.std.proofs.Common.{◌≡◌, ℕ, ◌<◌, ◌==◌, List, [], ◌∷◌, length, map, filter, find, Bool, true, false, ◌&&◌, Option, Some, None, option_map, slice_get, refl, ap, inl, inr, pos, negsuc, Ok, Err, codes, string_bytes, ◌-◌, lt-ltb, arith}
use Rattle.std.proofs.lemmas.Bool.{cases_Bool, lt-leb}
use Rattle.sqlite_value.specs.declared.keys.Order.{Order}
use Rattle.sqlite_value.specs.Keys.{plain}
use Rattle.sqlite_value.specs.Order.{Row, column}
use Rattle.sqlite_schema.specs.declared.schema.Schema.{Schema}
use Rattle.sqlite_schema.specs.declared.schema.Table.{Table}
use Rattle.sqlite_schema.specs.declared.schema.Index.{Index}
use Rattle.sqlite_schema.specs.declared.command.Conflict.TheVariants.{Abort}
use Rattle.sqlite_schema.specs.Rules.{guards}
use Rattle.sqlite_resolve.specs.Compile.{first}
use Rattle.sqlite_resolve.specs.Given.{given, is_key_at, are_among, with_given, nested, at_rowid, do_update}
use Rattle.sqlite_resolve.specs.Write as write
use Rattle.sqlite_resolve.specs.Write.{updated_in, level_of}
use Rattle.sqlite_resolve.specs.Scope as scope
use Rattle.sqlite_resolve.specs.Scope.{Name, Context}
use Rattle.sqlite_resolve.specs.Expr as expr
use Rattle.sqlite_resolve.specs.Expr.{lower}
use Rattle.sqlite_resolve.specs.Body as body
use Rattle.sqlite_resolve.specs.Reach as reach
use Rattle.sqlite_resolve.specs.Lowering as lowering
use Rattle.sqlite_resolve.specs.Lowering.{fresh, max_budget}
use Rattle.sqlite_resolve.specs.declared.scope.Found.TheVariants as found
use Rattle.sqlite_resolve.specs.declared.state.State.{State}
use Rattle.sqlite_resolve.specs.declared.state.Carried.{Carried}
use Rattle.sqlite_ast.specs.declared.Expr.{Expr, out-Expr}
use Rattle.sqlite_ast.specs.declared.Expr.TheOpen.{Expr-F}
use Rattle.sqlite_schema.specs.Names.{same_name}
use Rattle.gr_store.proofs.Reading.ResolvedSelects.{quiet}
use Rattle.sqlite_resolve.specs.Lowering.{Checked, and_then}
use Rattle.sqlite_ast.specs.declared.Statement.{Statement}
use Rattle.sqlite_ast.specs.declared.Statement.TheVariants as written
use Rattle.sqlite_syntax.specs.declared.statement.Parsed.{Parsed}
use Rattle.sqlite_draft.specs.declared.query.Draft.{Draft}
use Rattle.sqlite_value.specs.declared.keys.Collation.TheVariants.{Binary}
use Rattle.sqlite_value.specs.declared.value.Value.TheVariants.{Null, Int}
use Rattle.sqlite_sql.specs.declared.ops.BinaryOp.TheVariants.{Compare}
use Rattle.sqlite_sql.specs.declared.ops.CompareOp.TheVariants.{Eq}
use Rattle.sqlite_sql.specs.Term.{Term, lit, col, op2}
use Rattle.sqlite_sql.specs.Query.{inner, end}
use Rattle.sqlite_tied.specs.Compute.{everything}
use Rattle.gr_core.specs.Columns.Fields.{Field, Number, Text}
use Rattle.gr_core.specs.declared.rows.BallotRow.{BallotRow}
use Rattle.gr_core.specs.Columns.Stored.{fields_of_ballot}
use Rattle.gr_store.specs.Rows.{value_of, HasFields}
use Rattle.gr_store.specs.Schema.{ballot_table}
use Rattle.gr_store.specs.Tabled.{in_tree}
use Rattle.gr_store.specs.Own.{HasOwnTable}
use Rattle.gr_store.specs.Puts.{ballot_put}
use Rattle.gr_store.proofs.Writing.GrownSchema.{got_last}
use Rattle.gr_store.proofs.Writing.InsertLemmas.{IsInsertText, kept_source}
use Rattle.gr_store.proofs.Writing.CompiledInserts.{UpsertsIn, upserts_text}
use Rattle.gr_store.proofs.Writing.UpsertLemmas.{IsUpserting, meets_by_key, unique_by_key, clause_of, updating}

abbrev pub ballot_terms : List Term
ballot_terms = lit Null ∷ col 0 0 ∷ col 0 1 ∷ col 0 2 ∷ col 0 3 ∷ col 0 4 ∷ []

-- the rowid and the key of the row that is there, and the other columns of the one that was tried
abbrev pub ballot_cells : List Term
ballot_cells = col 1 0 ∷ col 1 1 ∷ col 1 2 ∷ col 0 9 ∷ col 0 10 ∷ col 0 11 ∷ []

-- the fields of the key
abbrev pub ballot_key : BallotRow → List Field
ballot_key row = Number row.resolution ∷ Text (string_bytes row.login) ∷ []

-- ---- its key

first_columns : List (List ℕ × Order) → List ℕ
first_columns [] = []
first_columns (k ∷ keys) = k.0

-- the key that ON CONFLICT names is that of the one unique index
key_found : (table : Table) (at key : List ℕ) (indexes : List Index)
    → map {B = List ℕ × Order} (λ i. (i.columns, i.order)) (filter (λ i. guards i table) indexes) ≡ (key, plain) ∷ []
    → ((i : Index) → guards i table ≡ true → i.columns ≡ key → is_key_at table at i ≡ true)
    → ((i : Index) → guards i table ≡ false → is_key_at table at i ≡ false)
    → option_map (λ i. i.columns) (find (is_key_at table at) indexes) ≡ Some key
unfolding first_columns
key_found table at key [] is fits spares = absurd (cc)
key_found table at key (i ∷ indexes) is fits spares = elim (cases_Bool (guards i table)) [
  | inl mine ↦ let columns : i.columns ≡ key = ap first_columns (rw mine at is) in rw (fits i mine columns) (ap Some columns)
  | inr other ↦ rw (spares i other) (key_found table at key indexes (rw other at is) fits spares)
]

both : (a b c d e : Bool) → a && b ≡ true → c ≡ true → d ≡ true → e ≡ true → (a && b && c && d && e) ≡ true
both true true c d e h x y z = rw (x, y, z) refl
both true false c d e h x y z = absurd (cc)
both false b c d e h x y z = absurd (cc)

none : (a b c d e : Bool) → a && b ≡ false → (a && b && c && d && e) ≡ false
none true true c d e h = absurd (cc)
none true false c d e h = refl
none false b c d e h = refl

-- the places of the key
abbrev key_places : List ℕ
key_places = 1 ∷ 2 ∷ []

ballot_key_found : (schema : Schema) (own : HasOwnTable schema ballot_table)
    → option_map (λ i. i.columns) (find (is_key_at (in_tree ballot_table own.has.tree) key_places) schema.indexes) ≡ Some key_places
unfolding is_key_at
ballot_key_found schema own =
    let placed = in_tree ballot_table own.has.tree in
    key_found placed key_places key_places schema.indexes own.keys
    (λ i mine columns. both i.is_unique (i.table == placed.tree) (length i.columns == length key_places)
    (are_among key_places i.columns) (are_among i.columns key_places) mine
    (ap (λ l. length l == length key_places) columns) (ap (are_among key_places) columns) (ap (λ l. are_among l key_places) columns))
    (λ i other. none i.is_unique (i.table == placed.tree) (length i.columns == length key_places)
    (are_among key_places i.columns) (are_among i.columns key_places) other)

-- the draft of the update
abbrev ballot_draft : ℕ → Draft
ballot_draft tree = record {
  from = inner tree end;
  filter = op2 (Compare Eq Binary) (col 1 0) (col 0 5) ∷ [];
  group = None;
  project = col 1 0 ∷ ballot_cells;
  distinct = false;
  collations = [];
  order = [];
  limit = lit (Int (negsuc 0));
  offset = lit (Int (pos 0));
}

-- the statement sets these three columns to those of the row that was tried
abbrev SetsThree : List (Name × Expr) → Type 0
SetsThree ((one, e) ∷ (two, f) ∷ (three, h) ∷ []) =
    (one ≡ codes "ranks") × (out-Expr e ≡ Expr-F.Column (Some (codes "excluded")) (codes "ranks"))
    × (two ≡ codes "receipt") × (out-Expr f ≡ Expr-F.Column (Some (codes "excluded")) (codes "receipt"))
    × (three ≡ codes "received") × (out-Expr h ≡ Expr-F.Column (Some (codes "excluded")) (codes "received"))
SetsThree _ = ⊥

abbrev SetsBy : Statement → Type 0
SetsBy (written.Insert _ name columns rows (u ∷ []) []) = SetsThree u.sets × (u.filter ≡ None)
SetsBy _ = ⊥

abbrev SetsIn : Checked Parsed → Type 0
SetsIn (Ok p) = SetsBy p.statement
SetsIn (Err e) = ⊥

ballot_sets : SetsIn (first ballot_put)
unfolding everything
ballot_sets = ((refl, refl, refl, refl, refl, refl), refl)

module _ (schema : Schema) (at last tree : ℕ) (beside : slice_get schema.tables last ≡ Some (given (in_tree ballot_table tree) 5)) where
  abbrev placed : Table
  placed = in_tree ballot_table tree

  abbrev cx : Context
  cx = nested schema (level_of at (codes "ballot2")) (record {
    tables = record { name = codes "excluded"; table = last; slot = 0; shared = [] } ∷ [];
    shown = [];
  })

  found_ranks : scope.find cx (Some (codes "excluded")) (codes "ranks") ≡ Ok (found.Column 0 last 8)
  unfolding scope.find scope.in_level scope.only scope.hit scope.column_in scope.is_rowid same_name given
  found_ranks = rw beside refl

  found_receipt : scope.find cx (Some (codes "excluded")) (codes "receipt") ≡ Ok (found.Column 0 last 9)
  unfolding scope.find scope.in_level scope.only scope.hit scope.column_in scope.is_rowid same_name given
  found_receipt = rw beside refl

  found_received : scope.find cx (Some (codes "excluded")) (codes "received") ≡ Ok (found.Column 0 last 10)
  unfolding scope.find scope.in_level scope.only scope.hit scope.column_in scope.is_rowid same_name given
  found_received = rw beside refl

  abbrev plain_text : Carried
  plain_text = record { collation = Some Binary; is_written = false }

  reads_ranks : (s : State) → scope.column cx (Some (codes "excluded")) (codes "ranks") s ≡ Ok (col 0 9, record s { last = plain_text })
  unfolding scope.column scope.term_of scope.column_at given
  reads_ranks s = rw (found_ranks, beside) refl

  reads_receipt : (s : State) → scope.column cx (Some (codes "excluded")) (codes "receipt") s ≡ Ok (col 0 10, record s { last = plain_text })
  unfolding scope.column scope.term_of scope.column_at given
  reads_receipt s = rw (found_receipt, beside) refl

  reads_received : (s : State) → scope.column cx (Some (codes "excluded")) (codes "received") s ≡ Ok (col 0 11, record s { last = plain_text })
  unfolding scope.column scope.term_of scope.column_at given
  reads_received s = rw (found_received, beside) refl

  lowers : (e : Expr) (t : Option Name) (name : Name) (term : Term) (carried : Carried) → out-Expr e ≡ Expr-F.Column t name
      → ((s : State) → scope.column cx t name s ≡ Ok (term, record s { last = carried })) → (budget : ℕ) (last : Carried) → 1 < budget
      → lower cx e (quiet budget last) ≡ Ok (term, quiet (budget - 1) carried)
  unfolding expr.lower_to expr.node expr.opened expr.passes lowering.spend lowering.begin lowering.finish
  lowers e t name term carried is reads budget last enough = rw (lt-ltb 1 budget enough, is, reads) refl

  all_set : (sets : List (Name × Expr)) → SetsThree sets
      → write.assigned cx placed sets (fresh 2 max_budget)
      ≡ Ok ((3 ∷ 4 ∷ 5 ∷ [], col 0 9 ∷ col 0 10 ∷ col 0 11 ∷ []), quiet 99997 plain_text)
  unfolding write.assigned write.sets write.with_place write.place same_name reach.any_scans
  all_set ((one, e) ∷ (two, f) ∷ (three, h) ∷ []) is =
      rw (
        is.0,
        is.2,
        is.4,
        lowers e (Some (codes "excluded")) (codes "ranks") (col 0 9) plain_text is.1 reads_ranks 100000 lowering.nothing (omega arith),
        lowers f (Some (codes "excluded")) (codes "receipt") (col 0 10) plain_text is.3 reads_receipt 99999 plain_text (omega arith),
        lowers h (Some (codes "excluded")) (codes "received") (col 0 11) plain_text is.5 reads_received 99998 plain_text (omega arith),
      ) refl
  all_set _ is = absurd is

  updates : (sets : List (Name × Expr)) → SetsThree sets
      → and_then (updated_in cx placed sets None) (λ d. Ok (at_rowid 5 d)) ≡ Ok (ballot_draft tree)
  unfolding write.updated_in write.picked write.row write.cell write.given_or write.absent write.leaves_computed body.tests
  updates sets is = rw (all_set sets is) refl

-- the query of the update is that one
abbrev DoesBy : Schema → ℕ → Table → ℕ → Draft → Statement → Type 0
DoesBy schema at table base d (written.Insert _ name columns rows (u ∷ []) []) = do_update schema at table base u ≡ Ok d
DoesBy schema at table base d _ = ⊥

abbrev DoesIn : Schema → ℕ → Table → ℕ → Draft → Checked Parsed → Type 0
DoesIn schema at table base d (Ok p) = DoesBy schema at table base d p.statement
DoesIn schema at table base d (Err e) = ⊥

does_statement : (schema : Schema) (own : HasOwnTable schema ballot_table) (s : Statement) → SetsBy s
    → DoesBy schema own.has.at (in_tree ballot_table own.has.tree) 5 (ballot_draft own.has.tree) s
unfolding do_update
does_statement schema own (written.Insert _ name columns rows (u ∷ []) []) is =
    let placed = in_tree ballot_table own.has.tree in
    rw is.1 (updates (with_given schema placed 5) own.has.at (length schema.tables) own.has.tree (got_last schema.tables (given placed 5)) u.sets is.0)
does_statement schema own _ is = absurd is

does_parsed : (schema : Schema) (own : HasOwnTable schema ballot_table) (r : Checked Parsed) → SetsIn r
    → DoesIn schema own.has.at (in_tree ballot_table own.has.tree) 5 (ballot_draft own.has.tree) r
does_parsed schema own (Ok p) is = does_statement schema own p.statement is
does_parsed schema own (Err e) is = absurd is

ballot_does : (schema : Schema) (own : HasOwnTable schema ballot_table)
    → DoesIn schema own.has.at (in_tree ballot_table own.has.tree) 5 (ballot_draft own.has.tree) (first ballot_put)
ballot_does schema own = does_parsed schema own (first ballot_put) ballot_sets

ballot_inserts : (schema : Schema) (own : HasOwnTable schema ballot_table)
    → UpsertsIn schema (in_tree ballot_table own.has.tree) own.has.at ballot_terms key_places (ballot_draft own.has.tree)
    (updating own.has.tree 5 ballot_cells) (first ballot_put)
unfolding everything
ballot_inserts schema own =
    let placed = in_tree ballot_table own.has.tree in (
      refl,
      (
        refl,
        refl,
        refl,
        rw (ballot_key_found schema own) refl,
        refl,
        ballot_does schema own,
        rw (lt-leb _ _ own.has.below, own.has.first) refl,
      ),
    )

pub ballot_puts : (schema : Schema) (own : HasOwnTable schema ballot_table)
    → IsInsertText schema ballot_put own.has.at Abort ballot_terms (clause_of (in_tree ballot_table own.has.tree) 5 ballot_cells ∷ [])
ballot_puts schema own =
    upserts_text schema (in_tree ballot_table own.has.tree) own.has.at ballot_terms own.has.named own.has.is refl
    key_places (ballot_draft own.has.tree) (updating own.has.tree 5 ballot_cells) ballot_put (ballot_inserts schema own)

ballot_keyed : (table : ℕ) (row : Row) (fields : List Field) → HasFields (in_tree ballot_table table) row fields
    → (its : List Field) × (map (column row) (1 ∷ 2 ∷ []) ≡ map value_of its)
ballot_keyed table row [] has = absurd (cc)
ballot_keyed table row (one ∷ []) has = absurd (cc)
ballot_keyed table row (one ∷ two ∷ more) has = (one ∷ two ∷ [], cc)

pub ballot_upserting : (schema : Schema) (own : HasOwnTable schema ballot_table) (row : BallotRow)
    → IsUpserting schema (in_tree ballot_table own.has.tree) ballot_terms 5 ballot_cells (fields_of_ballot row) (ballot_key row)
ballot_upserting schema own row = record {
  given = record {
    uncounted = refl;
    wide = refl;
    one = refl;
    cast = λ rows. kept_source (in_tree ballot_table own.has.tree) _ _ refl refl;
    mended = kept_source (in_tree ballot_table own.has.tree) _ _ refl refl;
    number = λ rows. refl;
    has = λ rows. refl;
  };
  meets = meets_by_key schema (in_tree ballot_table own.has.tree) own.keys refl refl;
  unique = unique_by_key schema (in_tree ballot_table own.has.tree) own.keys;
  keyed = ballot_keyed own.has.tree;
  stands = λ id. refl;
  has = λ id. refl;
  new_is = λ rows. (_, refl);
  reads = λ rows id. refl;
  changes = λ rows id other same. cc;
  kept = λ id. kept_source (in_tree ballot_table own.has.tree) _ _ refl refl;
}
