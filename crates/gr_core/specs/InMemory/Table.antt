-- A table in memory as a finite map: by the values that its keys tell, to its rows without where they lie in memory.
use denote.Ref.{Bor}
use Rattle.std.specs.Prelude.{◌≡◌, List, [], ◌∷◌, ◌++◌, map, Option, Some, None, MatchOption}
use Rattle.std.specs.List.{All}
use Rattle.std.specs.declared.cmp.Ordering.{Ordering}
use Rattle.std.specs.FinMap.{FinMap, from_entries}
use Rattle.std.specs.BTreeMap.{BTreeMap, IsEmpty, IsOrdered, Updates, get, values}
use Rattle.gr_core.specs.Parts.Key.{pair_cmp}

-- the key and the row of an entry
abbrev pub entry_by : {K V J R : Type 0} → (K → J) → (V → R) → K × V → J × R
entry_by key_of row_of entry = (key_of entry.0, row_of entry.1)

-- the entries of a table that was looked up: none where there is none
abbrev pub entries_in : {K V : Type 0} → Option (Bor (BTreeMap K V)) → List (K × V)
entries_in None = []
entries_in (Some table) = table.now.entries

-- the map that the entries of a table make
abbrev pub table_of : {K V J R : Type 0} (cmp : J → J → Ordering) → (K → J) → (V → R) → BTreeMap K V → FinMap cmp R
table_of cmp key_of row_of table = from_entries (map (entry_by key_of row_of) table.entries)

-- the rows of a table that stands under a key of another one, each under that key and its own
abbrev pub rows_under : {L V A B R : Type 0} → (L → B) → (V → R) → A → List (L × V) → List ((A × B) × R)
rows_under second row_of key entries = map (λ entry. ((key, second entry.0), row_of entry.1)) entries

-- the rows of a table of tables, each under both its keys
abbrev pub flat_rows : {K L V A B R : Type 0} → (K → A) → (L → B) → (V → R)
    → List (K × BTreeMap L V) → List ((A × B) × R)
flat_rows first second row_of [] = []
flat_rows first second row_of (entry ∷ entries) =
    rows_under second row_of (first entry.0) entry.1.entries ++ flat_rows first second row_of entries

-- the map that a table of tables makes
abbrev pub two_levels_of : {K L V A B R : Type 0} (P : A → A → Ordering) (Q : B → B → Ordering)
    → (K → A) → (L → B) → (V → R) → BTreeMap K (BTreeMap L V) → FinMap (pair_cmp P Q) R
two_levels_of P Q first second row_of table = from_entries (flat_rows first second row_of table.entries)

-- a table of tables in order, and each table in it
pub record AreOrdered {K L V : Type 0} (P : K → K → Ordering) (Q : L → L → Ordering)
    (table : BTreeMap K (BTreeMap L V)) : Type 0 where
  pub outer : IsOrdered P table
  pub inner : All (IsOrdered Q) (values table)

-- The row is put into the table under its first key: into an empty one where there was none.
pub record PutsUnder {K L V : Type 0} (P : K → K → Ordering) (Q : L → L → Ordering)
    (old new : BTreeMap K (BTreeMap L V)) (first : K) (second : L) (row : V) : Type 0 where
  pub before : BTreeMap L V
  pub found : MatchOption (get P old first) (IsEmpty before) (λ part. before ≡ part)
  pub after : BTreeMap L V
  pub puts : Updates Q before after second (Some row)
  pub under : Updates P old new first (Some after)

-- The table keeps its rows: its entries stay, or those of the table under the first key do, which was written.
pub record KeepsUnder {K L V : Type 0} (P : K → K → Ordering)
    (old new : BTreeMap K (BTreeMap L V)) (first : K) : Type 0 where
  pub before : BTreeMap L V
  pub after : BTreeMap L V
  pub found : get P old first ≡ Some before
  pub same : after.entries ≡ before.entries
  pub under : Updates P old new first (Some after)
