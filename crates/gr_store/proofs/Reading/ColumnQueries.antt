-- What a query of some columns of a table, in the order of some of them, answers.
use Rattle.std.proofs.Common.{◌≡◌, ℕ, pos, negsuc, Bool, true, false, List, [], ◌∷◌, map, None, refl, sym, ap, ap₂, subst, subst₂, ◌∙◌, IsPermutation, IsSorted, nat_le, unwrap_or, if◌then◌else◌, ◌^◌}
use Rattle.std.proofs.lemmas.List.Concat.{flat_map_single}
use Rattle.std.proofs.lemmas.List.Sorted.{IsPermutation-map}
use Rattle.sqlite_value.specs.declared.value.Value.{Value}
use Rattle.sqlite_value.specs.declared.value.Value.TheVariants.{Int}
use Rattle.sqlite_value.specs.declared.keys.Key.{Key}
use Rattle.sqlite_value.specs.Order.{Row, column}
use Rattle.sqlite_value.specs.Keys.{ascending}
use Rattle.sqlite_trees.specs.Tree.{Trees}
use Rattle.sqlite_sql.specs.Term.{Term, Env, lit, col, eval_all}
use Rattle.sqlite_sql.specs.Query.{Query, inner, end, matches_as, output, output_cmp, Output, IsAnswerAs, IsSureAnswer}
use Rattle.sqlite_sql.specs.Program.{overlay}
use Rattle.sqlite_sql.proofs.QueryLemmas.{output_cmp_total}
use Rattle.sqlite_schema.specs.declared.schema.Table.{Table}
use Rattle.sqlite_schema.specs.declared.schema.Column.{Column}
use Rattle.sqlite_schema.specs.declared.program.Program.{Program}
use Rattle.sqlite_schema.specs.Names.{place_of}
use Rattle.sqlite_resolve.specs.Lowering.{alone}
use Rattle.sqlite_resolve.specs.Scope.{declared}
use Rattle.gr_store.proofs.Reading.SortedLists.{can_be_sorted}

-- a column with its place in the table
abbrev pub Found : Type 0
Found = ℕ × Column

-- the column at a place, where a row of the table has it
abbrev pub column_in : Table → ℕ → Term
column_in table at = col 1 (place_of table at)

-- by the collation of the column
abbrev pub sorted_by : Table → Found → Term × Key
sorted_by table c = (column_in table c.0, ascending (alone (declared table c.0 c.1)))

-- these columns of each row, in the order of the columns `keys`
abbrev pub query_of : Table → List Found → List Found → Query
query_of table found keys = record {
  from = inner table.tree end;
  filter = [];
  group = None;
  project = map (λ c. column_in table c.0) found;
  distinct = false;
  collations = [];
  order = map (sorted_by table) keys;
  limit = lit (Int (negsuc 0));
  offset = lit (Int (pos 0));
}

abbrev pub program_of : Table → List Found → List Found → Program
program_of table found keys = record { lets = []; body = query_of table found keys }

abbrev pub names_of : Table → List (List ℕ)
names_of table = map (λ c. c.name) table.columns

-- what a row has in these columns
abbrev pub values_of : Table → List Found → Row → Row
values_of table found row = map (λ c. column row (place_of table c.0)) found

-- ---- the query

-- what a row of the table matches: no parameters, and the row
abbrev matched : Row → Env
matched row = [] ∷ row ∷ []

abbrev outputs_of : Table → List Found → List Found → List Row → List Output
outputs_of table found keys rows = map (output (query_of table found keys)) (map matched rows)

abbrev shown : List Output → List Row
shown = map (λ o. o.1)

eval_columns : (table : Table) (row : Row) (found : List Found)
    → eval_all (map (λ c. column_in table c.0) found) (matched row) ≡ values_of table found row
eval_columns table row [] = refl
eval_columns table row (c ∷ more) = ap (λ r. column row (place_of table c.0) ∷ r) (eval_columns table row more)

-- each row shows its columns
shown_each : (table : Table) (found keys : List Found) (rows : List Row)
    → shown (outputs_of table found keys rows) ≡ map (values_of table found) rows
shown_each table found keys [] = refl
shown_each table found keys (row ∷ rows) =
    ap₂ ◌∷◌ (eval_columns table row found) (shown_each table found keys rows)

-- a query that computes no table first reads those of the database
pub no_tables : (db : Trees) (t : ℕ) → overlay db [] t ≡ db t
no_tables db t = go (nat_le (2 ^ 31) t)
  where
    go : (b : Bool) → unwrap_or (if b then None else None) (db t) ≡ db t
    go true = refl
    go false = refl

module _ (table : Table) (found keys : List Found) (db : Trees) where
  -- whatever stands for a SUM that overflows, each row is matched once
  matches_each : (lost : Value) → matches_as lost db [] (inner table.tree end) ([] ∷ []) ≡ map matched (db table.tree)
  matches_each lost = flat_map_single matched (db table.tree)

  pub each_once : (lost : Value) (rows : List Row) → IsAnswerAs lost (query_of table found keys) db [] rows
      → IsPermutation (map (values_of table found) (db table.tree)) rows
  each_once lost rows h =
      let outputs = outputs_of table found keys (db table.tree) in
      let staged : h.staged ≡ map matched (db table.tree) = h.grouped ∙ matches_each lost in
      let kept : h.kept ≡ outputs = h.distinct ∙ ap (map (output (query_of table found keys))) staged in
      let same : IsPermutation outputs h.ordered = subst (λ k. IsPermutation k h.ordered) kept h.same in
      let moved = IsPermutation-map (λ (o : Output). o.1) outputs h.ordered same in
      subst₂ IsPermutation (shown_each table found keys (db table.tree)) (sym h.shown) moved

  -- the outputs can be put in the order asked for
  in_order : (ordered : List Output) × IsPermutation (outputs_of table found keys (db table.tree)) ordered
      × IsSorted (output_cmp (query_of table found keys)) ordered
  in_order = can_be_sorted (output_cmp (query_of table found keys)) (output_cmp_total (query_of table found keys)) _

  pub has_answer : (rows : List Row) × IsSureAnswer (query_of table found keys) db [] rows
  has_answer = (
    shown in_order.0,
    λ lost. record {
      staged = map matched (db table.tree);
      grouped = sym (matches_each lost);
      kept = outputs_of table found keys (db table.tree);
      distinct = refl;
      ordered = in_order.0;
      same = in_order.1;
      sorted = in_order.2;
      shown = refl;
    },
  )
