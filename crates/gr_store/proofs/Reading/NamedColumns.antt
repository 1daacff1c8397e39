-- The columns that names find in a table, wherever it has them, and that each has a type.
use Rattle.std.proofs.Common.{◌≡◌, ℕ, suc, ◌+◌, Bool, true, false, cond, if◌then◌else◌, List, [], ◌∷◌, ◌++◌, Option, Some, None, is_some, IsSome, map, slice_get, length, refl, ap, ap₂, inl, inr, arith, add-one}
use Rattle.std.specs.List.{position_from, list_all, AllByRecursion}
use Rattle.std.proofs.lemmas.Option.{slice_get_cases, slice_get-map}
use Rattle.sqlite_schema.specs.declared.schema.Column.{Column}
use Rattle.sqlite_schema.specs.declared.schema.Schema.{Schema}
use Rattle.sqlite_schema.specs.declared.schema.Table.{Table}
use Rattle.sqlite_schema.specs.Names.{same_name, is_key}
use Rattle.sqlite_sql.specs.Term.{Term}
use Rattle.sqlite_typing.specs.Types.{shows, row_classes, class_in, term_class}
use Rattle.sqlite_resolve.specs.Scope.{Name}
use Rattle.sqlite_catalog.proofs.StepLemmas.{same_itself}
use Rattle.sqlite_rules.proofs.RowLemmas.{position_within}
use Rattle.gr_store.specs.Tabled.{HasTable, HasColumns, HasColumnsOf, in_tree}
use Rattle.gr_store.proofs.Reading.ColumnQueries.{Found, column_in, sorted_by, query_of}
use Rattle.gr_store.proofs.Reading.WrittenSelects.{AreNamed}

abbrev found_at : ℕ → Column → Found
found_at at c = (at, c)

find_one : (columns : List Column) (test : Column → Bool) → IsSome (position_from test 0 columns)
    → (c : Found) × (position_from test 0 columns ≡ Some c.0) × (slice_get columns c.0 ≡ Some c.1)
find_one columns test there = go (position_from test 0 columns) refl there
  where
    go : (o : Option ℕ) → position_from test 0 columns ≡ o → IsSome o
        → (c : Found) × (position_from test 0 columns ≡ Some c.0) × (slice_get columns c.0 ≡ Some c.1)
    go (Some at) is some = elim (slice_get_cases columns at).1 [
      | inl here ↦ (found_at at here.0, is, here.2)
      | inr past ↦ absurd (omega (arith, position_within test columns 0 at is, past.0))
    ]
    go None is some = absurd (cc)

pub find_all : (table : Table) (names : List Name) → HasColumns table names
    → (found : List Found) × AreNamed table.columns found names
find_all table [] has = ([], tt)
find_all table (name ∷ names) has =
    let one = find_one table.columns (λ c. same_name c.name name) has.0 in
    let more = find_all table names has.1 in
    (one.0 ∷ more.0, ((one.1, one.2), more.1))

pub as_many : (columns : List Column) (found : List Found) (names : List Name) → AreNamed columns found names
    → length found ≡ length names
as_many columns [] [] named = refl
as_many columns (c ∷ found) (name ∷ names) named = ap suc (as_many columns found names named.1)
as_many columns _ _ named = absurd named

-- a name finds one column alone
pub same_found : (columns : List Column) (found others : List Found) (names : List Name) → AreNamed columns found names
    → AreNamed columns others names → found ≡ others
same_found columns [] [] [] one two = refl
same_found columns (c ∷ found) (d ∷ others) (name ∷ names) one two =
    let same : c.0 ≡ d.0 = cc in
    let is : c.1 ≡ d.1 = cc in
    ap₂ ◌∷◌ (ap₂ found_at same is) (same_found columns found others names one.1 two.1)
same_found columns [] [] (name ∷ names) one two = absurd one
same_found columns [] (d ∷ others) [] one two = absurd two
same_found columns [] (d ∷ others) (name ∷ names) one two = absurd one
same_found columns (c ∷ found) [] (name ∷ names) one two = absurd two
same_found columns (c ∷ found) _ [] one two = absurd one

-- all names are found, where the first place is this one
abbrev pub AreFound : ℕ → List Column → List Name → Type 0
AreFound from columns names = AllByRecursion (λ name. IsSome (position_from (λ c. same_name c.name name) from columns)) names

-- a column more in front hides none of them
find_behind : (c : Column) (cs : List Column) (from : ℕ) (names : List Name) → AreFound (from + 1) cs names
    → AreFound from (c ∷ cs) names
find_behind c cs from [] there = tt
find_behind c cs from (name ∷ names) there = (
  go (same_name c.name name) (position_from (λ c. same_name c.name name) (from + 1) cs) there.0,
  find_behind c cs from names there.1,
)
  where
    go : (b : Bool) (o : Option ℕ) → IsSome o → IsSome (cond b (Some from) o)
    go true o more = refl
    go false o more = more

pub find_itself : (cs : List Column) (from : ℕ) → AreFound from cs (map (λ c. c.name) cs)
find_itself [] from = tt
find_itself (c ∷ cs) from =
    (rw (same_itself c.name) refl, find_behind c cs from (map (λ c. c.name) cs) (find_itself cs (from + 1)))

-- columns more after them hide none of them
find_before : (cs more : List Column) (from : ℕ) → AreFound from (cs ++ more) (map (λ c. c.name) cs)
find_before [] more from = tt
find_before (c ∷ cs) more from =
    (rw (same_itself c.name) refl, find_behind c (cs ++ more) from (map (λ c. c.name) cs) (find_before cs more (from + 1)))

-- nor do more of them in front
pub find_between : (front cs more : List Column) (from : ℕ)
    → AreFound from (front ++ (cs ++ more)) (map (λ c. c.name) cs)
find_between [] cs more from = find_before cs more from
find_between (c ∷ front) cs more from =
    find_behind c (front ++ (cs ++ more)) from (map (λ c. c.name) cs) (find_between front cs more (from + 1))

-- a table as its text defines it has its columns
abbrev pub has_columns : {schema : Schema} {table : Table} → HasTable schema table → HasColumnsOf schema table
has_columns {table = table} has = record {
  at = has.at;
  other = in_tree table has.tree;
  named = has.named;
  is = has.is;
  columns = find_itself table.columns 0;
  first = has.first;
  below = has.below;
}

-- ---- each of them has a type

module _ (table : Table) where
  abbrev has_type : Term → Bool
  has_type t = is_some (term_class [] (row_classes table ∷ []) t)

  typed_one : (c : Found) → slice_get table.columns c.0 ≡ Some c.1 → has_type (column_in table c.0) ≡ true
  typed_one c there = go (is_key table.key c.0)
    where
      go : (b : Bool) → is_some (slice_get (row_classes table) (if b then 0 else c.0 + 1)) ≡ true
      go true = refl
      go false = rw (add-one, slice_get-map class_in table.columns c.0, there) refl

  typed_all : (found : List Found) (names : List Name) → AreNamed table.columns found names
      → list_all has_type (map (λ c. column_in table c.0) found) ≡ true
  typed_all [] [] named = refl
  typed_all (c ∷ found) (name ∷ names) named = rw (typed_one c named.0.1, typed_all found names named.1) refl
  typed_all _ _ named = absurd named

  typed_keys : (keys : List Found) (names : List Name) → AreNamed table.columns keys names
      → list_all has_type (map (λ k. k.0) (map (sorted_by table) keys)) ≡ true
  typed_keys [] [] named = refl
  typed_keys (c ∷ keys) (name ∷ names) named = rw (typed_one c named.0.1, typed_keys keys names named.1) refl
  typed_keys _ _ named = absurd named

  pub are_shown : (found sorted : List Found) (names keys : List Name) → AreNamed table.columns found names
      → AreNamed table.columns sorted keys
      → shows [] (query_of table found sorted) (Some (row_classes table ∷ [])) ≡ true
  are_shown found sorted names keys named are = rw (typed_all found names named, typed_keys sorted keys are) refl
