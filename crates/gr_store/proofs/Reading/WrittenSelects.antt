-- What of a SELECT can be computed from its text alone, and that it makes it a select of a table's columns.
use Rattle.std.proofs.Common.{◌≡◌, ℕ, zero, Bool, false, List, [], ◌∷◌, Option, Some, None, is_some, slice_get, length, map, refl, ap}
use Rattle.std.specs.Bool.{⊤}
use Rattle.std.specs.List.{position_from}
use Rattle.sqlite_ast.specs.declared.Origin.{Origin}
use Rattle.sqlite_ast.specs.declared.Origin.TheVariants as origin
use Rattle.sqlite_ast.specs.declared.Source.{Source, out-Source}
use Rattle.sqlite_ast.specs.declared.Core.{out-Core}
use Rattle.sqlite_ast.specs.declared.Sort.{Sort, out-Sort}
use Rattle.sqlite_ast.specs.declared.Select.{Select, out-Select}
use Rattle.sqlite_ast.specs.declared.Expr.{out-Expr}
use Rattle.sqlite_ast.specs.declared.Expr.TheOpen.{Expr-F, Shown-F}
use Rattle.sqlite_ast.specs.declared.Shown.{Shown, out-Shown}
use Rattle.sqlite_ast.specs.Layer.{Layer, ShownLayer}
use Rattle.sqlite_schema.specs.declared.schema.Column.{Column}
use Rattle.sqlite_schema.specs.Names.{same_name}
use Rattle.sqlite_resolve.specs.Scope.{Name}
use Rattle.gr_store.proofs.Reading.ResolvedSelects.{NamesColumn, ShowsColumn, ShowsColumns, SortsBy, IsFrom, ReadsTable, IsSelect}
use Rattle.gr_store.proofs.Reading.ColumnQueries.{Found}

abbrev pub written_name : Layer → Option Name
written_name (Expr-F.Column None name) = Some name
written_name _ = None

abbrev pub shown_name : ShownLayer → Option Name
shown_name (Shown-F.One e None text) = written_name (out-Expr e)
shown_name _ = None

abbrev pub key_name : Bool → Option Bool → Layer → Option Name
key_name false None layer = written_name layer
key_name _ _ _ = None

abbrev pub from_name : Option Name → Bool → Bool → ℕ → Origin Select → Option Name
from_name None false false zero (origin.Table name) = Some name
from_name _ _ _ _ _ = None

abbrev pub sort_name : Sort → Option Name
sort_name s = key_name (out-Sort s).descending (out-Sort s).nulls_first (out-Expr (out-Sort s).key)

abbrev pub source_name : Source → Option Name
source_name s =
    from_name (out-Source s).alias (out-Source s).is_left (is_some (out-Source s).on) (length (out-Source s).using)
    (out-Source s).origin

-- the names in a SELECT, and what else it has
pub record Written : Type 0 where
  pub shown : List (Option Name)
  pub from : List (Option Name)
  pub order : List (Option Name)
  pub with : ℕ
  pub others : ℕ
  pub limit : Bool
  pub offset : Bool
  pub distinct : Bool
  pub filter : Bool
  pub group : ℕ
  pub having : Bool

abbrev pub written_of : Select → Written
written_of s = record {
  shown = map (λ s. shown_name (out-Shown s)) (out-Core (out-Select s).first).shown;
  from = map source_name (out-Core (out-Select s).first).from;
  order = map sort_name (out-Select s).order;
  with = length (out-Select s).with;
  others = length (out-Select s).others;
  limit = is_some (out-Select s).limit;
  offset = is_some (out-Select s).offset;
  distinct = (out-Core (out-Select s).first).distinct;
  filter = is_some (out-Core (out-Select s).first).filter;
  group = length (out-Core (out-Select s).first).group;
  having = is_some (out-Core (out-Select s).first).having;
}

-- a select of columns of a table by their names, in the order of the columns `keys`, and no more
abbrev pub select_of : Name → List Name → List Name → Written
select_of table names keys = record {
  shown = map (λ name. Some name) names;
  from = Some table ∷ [];
  order = map (λ name. Some name) keys;
  with = 0;
  others = 0;
  limit = false;
  offset = false;
  distinct = false;
  filter = false;
  group = 0;
  having = false;
}

-- a column is found by a name
abbrev pub IsNamed : List Column → Found → Name → Type 0
IsNamed columns c name =
    (position_from (λ d. same_name d.name name) 0 columns ≡ Some c.0) × (slice_get columns c.0 ≡ Some c.1)

-- and each by its own
abbrev pub AreNamed : List Column → List Found → List Name → Type 0
AreNamed columns [] [] = ⊤
AreNamed columns (c ∷ cs) (name ∷ names) = IsNamed columns c name × AreNamed columns cs names
AreNamed columns _ _ = ⊥

none_of : {A : Type 0} (o : Option A) → is_some o ≡ false → o ≡ None
none_of None h = refl
none_of (Some x) h = absurd (cc)

empty_of : {A : Type 0} (l : List A) → length l ≡ 0 → l ≡ []
empty_of [] h = refl
empty_of (x ∷ l) h = absurd (cc)

module _ (columns : List Column) where
  names_one : (c : Found) (name : Name) (layer : Layer) → written_name layer ≡ Some name → IsNamed columns c name
      → NamesColumn columns c.0 c.1 layer
  names_one c name (Expr-F.Column None written) is named =
      let same : written ≡ name = cc in (rw same named.0, named.1)
  names_one c name _ is named = absurd (cc)

  shows_one : (c : Found) (name : Name) (layer : ShownLayer) → shown_name layer ≡ Some name → IsNamed columns c name
      → ShowsColumn columns c.0 c.1 layer
  shows_one c name (Shown-F.One e None text) is named = names_one c name (out-Expr e) is named
  shows_one c name _ is named = absurd (cc)

  shows_all : (cs : List Found) (names : List Name) (shown : List Shown) → AreNamed columns cs names
      → map (λ s. shown_name (out-Shown s)) shown ≡ map (λ name. Some name) names → ShowsColumns columns cs shown
  shows_all [] [] [] named is = tt
  shows_all (c ∷ cs) (name ∷ names) (s ∷ shown) named is =
      (shows_one c name (out-Shown s) (cc) named.0, shows_all cs names shown named.1 (cc))
  shows_all [] [] (s ∷ shown) named is = absurd (cc)
  shows_all (c ∷ cs) (name ∷ names) [] named is = absurd (cc)
  shows_all _ _ _ named is = absurd named

  sort_one : (c : Found) (name : Name) (descending : Bool) (nulls : Option Bool) (layer : Layer)
      → IsNamed columns c name → key_name descending nulls layer ≡ Some name
      → NamesColumn columns c.0 c.1 layer × (descending ≡ false) × (nulls ≡ None)
  sort_one c name false None layer named is = (names_one c name layer is named, refl, refl)
  sort_one c name _ _ layer named is = absurd (cc)

  sorts_all : (cs : List Found) (names : List Name) (sorts : List Sort) → AreNamed columns cs names
      → map sort_name sorts ≡ map (λ name. Some name) names → SortsBy columns cs sorts
  sorts_all [] [] [] named is = tt
  sorts_all (c ∷ cs) (name ∷ names) (s ∷ sorts) named is =
      let one = sort_one c name (out-Sort s).descending (out-Sort s).nulls_first (out-Expr (out-Sort s).key) named.0 (cc) in
      (one.0, one.1, one.2, sorts_all cs names sorts named.1 (cc))
  sorts_all [] [] (s ∷ sorts) named is = absurd (cc)
  sorts_all (c ∷ cs) (name ∷ names) [] named is = absurd (cc)
  sorts_all _ _ _ named is = absurd named

from_one : (name : Name) (alias : Option Name) (is_left on : Bool) (using : ℕ) (o : Origin Select)
    → from_name alias is_left on using o ≡ Some name
    → IsFrom name o × (alias ≡ None) × (is_left ≡ false) × (on ≡ false) × (using ≡ 0)
from_one name None false false zero (origin.Table written) is = (cc, refl, refl, refl, refl)
from_one name _ _ _ _ _ is = absurd (cc)

reads_one : (name : Name) (from : List Source) → map source_name from ≡ Some name ∷ [] → ReadsTable name from
reads_one name (s ∷ []) is =
    let one = from_one name (out-Source s).alias (out-Source s).is_left (is_some (out-Source s).on)
    (length (out-Source s).using) (out-Source s).origin (cc) in
    (one.0, one.1, one.2, none_of _ one.3, empty_of _ one.4)
reads_one name _ is = absurd (cc)

pub is_select : (columns : List Column) (table : Name) (names keys : List Name) (found sorted : List Found) (s : Select)
    → AreNamed columns found names → AreNamed columns sorted keys
    → written_of s ≡ select_of table names keys → IsSelect columns table found sorted s
is_select columns table names keys found sorted s named are is = record {
  with = empty_of _ (ap (λ w. w.with) is);
  others = empty_of _ (ap (λ w. w.others) is);
  limit = none_of _ (ap (λ w. w.limit) is);
  offset = none_of _ (ap (λ w. w.offset) is);
  sorts = sorts_all columns sorted keys (out-Select s).order are (ap (λ w. w.order) is);
  distinct = ap (λ w. w.distinct) is;
  filter = none_of _ (ap (λ w. w.filter) is);
  group = empty_of _ (ap (λ w. w.group) is);
  having = none_of _ (ap (λ w. w.having) is);
  shows = shows_all columns found names (out-Core (out-Select s).first).shown named (ap (λ w. w.shown) is);
  reads = reads_one table (out-Core (out-Select s).first).from (ap (λ w. w.from) is);
}
