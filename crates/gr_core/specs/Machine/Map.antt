-- Changes of finite maps: of the row of a key that is there, and by rows put under their keys.
use Rattle.std.specs.Prelude.{List, [], ◌∷◌, Option, Some, None}
use Rattle.std.specs.declared.cmp.Ordering.{Ordering}
use Rattle.std.specs.FinMap.{FinMap, get, insert}

abbrev pub changed_where : {K R : Type 0} {cmp : K → K → Ordering} → FinMap cmp R → K → (R → R) → Option R
    → FinMap cmp R
changed_where m key change None = m
changed_where m key change (Some row) = insert m key (change row)

-- the map with the row of this key changed so, if it has one
abbrev pub changed_at : {K R : Type 0} {cmp : K → K → Ordering} → FinMap cmp R → K → (R → R) → FinMap cmp R
changed_at m key change = changed_where m key change (get m key)

-- the map with these rows put under their keys
abbrev pub with_rows : {K R : Type 0} {cmp : K → K → Ordering} → FinMap cmp R → List (K × R) → FinMap cmp R
with_rows m [] = m
with_rows m (row ∷ rows) = with_rows (insert m row.0 row.1) rows
