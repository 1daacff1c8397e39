-- A tree that holds a map answers the rows of the map, and one whose answer has the rows of a map holds it.
use Rattle.std.proofs.Common.{◌≡◌, ℕ, List, [], ◌∷◌, map, Some, refl, sym, ap, ◌∙◌, inl, inr}
use Rattle.std.proofs.Common.{zero, suc, IsTrue, Less, Equal, option_map, subst, subst₂}
use Rattle.std.proofs.Common.{IsPermutation}
use Rattle.std.specs.List.{AllByRecursion, slice_get}
use Rattle.std.specs.declared.cmp.Ordering.{Ordering}
use Rattle.std.specs.FinMap.{FinMap}
use Rattle.std.proofs.lemmas.Option.{slice_get-map}
use Rattle.std.proofs.lemmas.Cmp.{tied_itself}
use Rattle.std.proofs.lemmas.List.Elements.{All-from_recursion, recursion_from_All}
use Rattle.std.proofs.lemmas.List.Sorted.{IsPermutation-map, IsPermutation-sym}
use Rattle.std.proofs.lemmas.List.Sorted.{All-permutation}
use Rattle.sqlite_value.specs.Order.{Row, value_cmp}
use Rattle.sqlite_value.proofs.OrderLemmas.{value_cmp_total}
use Rattle.sqlite_trees.specs.Tree.{IsTable, rowid}
use Rattle.sqlite_trees.specs.View.{is_int}
use Rattle.sqlite_trees.proofs.ListLemmas.{all-slice_get}
use Rattle.sqlite_schema.specs.declared.schema.Table.{Table}
use Rattle.sqlite_rules.specs.Lists.{Has}
use Rattle.sqlite_rules.proofs.ListLemmas.{all_has, all_from, has_got, has_contained, contains_had}
use Rattle.sqlite_rules.proofs.ProbeLemmas.{mapped_has, has_mapped}
use Rattle.gr_core.specs.Columns.Fields.{Field}
use Rattle.gr_core.specs.Columns.Stored.{AreRowsOf}
use Rattle.gr_store.specs.Rows.{value_of, HasFields, columns_of}
use Rattle.gr_store.proofs.TableRows.StateInTrees.{HoldsMap}
use Rattle.gr_store.proofs.TableRows.ReorderedRows.{IsOnce, rows_moved}
use Rattle.gr_store.proofs.TableRows.FieldsReadBack.{fields_in, fields_back, rows_back, HasValues, values_back}

-- what stands in a mapped list comes of what stands there
got_back : {X Y : Type 0} (f : X → Y) (xs : List X) (i : ℕ) (y : Y) → slice_get (map f xs) i ≡ Some y
    → (x : X) × (slice_get xs i ≡ Some x) × (f x ≡ y)
got_back f [] i y at = absurd (cc)
got_back f (x ∷ xs) zero y at = (x, refl, cc)
got_back f (x ∷ xs) (suc i) y at = got_back f xs i y at

-- the first row of a table does not come again, since the rowids rise
alone : (row : Row) (rows : List Row) → IsTable (row ∷ rows) → (j : ℕ) (x : Row) → Some row ≡ Some x
    → slice_get rows j ≡ Some x → ⊥
alone row rows rising j x first at =
    let less : value_cmp (rowid row) (rowid x) ≡ Less
    = all-slice_get (λ r. value_cmp (rowid row) (rowid r) ≡ Less) rows j x at rising.0 in
    let same : row ≡ x = cc in
    let tie : value_cmp (rowid row) (rowid x) ≡ Equal
    = ap (λ r. value_cmp (rowid row) (rowid r)) (sym same) ∙ tied_itself value_cmp_total (rowid row) in
    let never : ⊥ = cc in never

-- so each row stands at one place
ascends_once : (rows : List Row) → IsTable rows → IsOnce rows
ascends_once [] rising i j x at_i at_j = absurd (cc)
ascends_once (row ∷ rows) rising zero zero x at_i at_j = refl
ascends_once (row ∷ rows) rising zero (suc j) x at_i at_j = absurd (alone row rows rising j x at_i at_j)
ascends_once (row ∷ rows) rising (suc i) zero x at_i at_j = absurd (alone row rows rising i x at_j at_i)
ascends_once (row ∷ rows) rising (suc i) (suc j) x at_i at_j = ap suc (ascends_once rows rising.1 i j x at_i at_j)

module _ {K V : Type 0} {cmp : K → K → Ordering} (table : Table) (fields : K × V → List Field) (m : FinMap cmp V)
    (rows : List Row) where
  abbrev fields_at : Row → List Field
  fields_at row = fields_in (columns_of table row)

  each_read : (more : List Row) → map fields_in (map (columns_of table) more) ≡ map fields_at more
  each_read [] = refl
  each_read (row ∷ more) = ap (λ l. fields_at row ∷ l) (each_read more)

  -- a row that has these fields shows them
  shows : (row : Row) (these : List Field) → HasFields table row these → fields_at row ≡ these
  shows row these has = ap fields_in has ∙ fields_back these

  -- ---- from the tree to an answer

  module _ (held : HoldsMap table fields m rows) where
    known_at : (row : Row) → Has rows row → HasValues (columns_of table row)
    known_at row there =
        let it = held.known row there in
        let these = fields (it.0, it.1) in
        it.3 ∙ ap (map value_of) (sym (shows row these it.3))

    rows_shown : AreRowsOf fields m (map fields_at rows)
    rows_shown = record {
      known = λ these there.
          let at = has_mapped fields_at rows these (has_contained (map fields_at rows) these there) in
          let it = held.known at.0 at.1 in
          (it.0, it.1, it.2, sym (shows at.0 (fields (it.0, it.1)) it.3) ∙ sym at.2);
      whole = λ key value got.
          let it = held.whole key value got in
          let there = mapped_has fields_at rows it.0 it.1 in
          contains_had (map fields_at rows) (fields (key, value))
          (subst (Has (map fields_at rows)) (shows it.0 (fields (key, value)) it.2) there);
      once = λ i j these at_i at_j.
          let a = got_back fields_at rows i these at_i in
          let b = got_back fields_at rows j these at_j in
          let has_a = has_got rows i a.0 a.1 in
          let has_b = has_got rows j b.0 b.1 in
          let columns = known_at a.0 has_a ∙ ap (map value_of) (a.2 ∙ sym b.2) ∙ sym (known_at b.0 has_b) in
          let same : a.0 ≡ b.0 = held.once a.0 b.0 has_a has_b columns in
          ascends_once rows held.ordered i j a.0 a.1 (b.1 ∙ ap Some (sym same));
    }

    -- an answer that has the columns of each row has the rows of the map
    pub rows_answered : (answer : List Row) → IsPermutation (map (columns_of table) rows) answer
        → (kept : List (List Field)) × (answer ≡ map (map value_of) kept) × AreRowsOf fields m kept
    rows_answered answer same = (map fields_in answer, values_back answer whole, are)
      where
        from_known : (values : Row) → Has (map (columns_of table) rows) values → HasValues values
        from_known values there =
            let at = has_mapped (columns_of table) rows values there in
            subst HasValues (sym at.2) (known_at at.0 at.1)

        whole : AllByRecursion HasValues answer
        whole =
            let before = all_from HasValues (map (columns_of table) rows) from_known in
            recursion_from_All HasValues answer
            (All-permutation HasValues _ answer same (All-from_recursion HasValues _ before))

        are : AreRowsOf fields m (map fields_in answer)
        are =
            let read = IsPermutation-map fields_in (map (columns_of table) rows) answer same in
            rows_moved fields m (map fields_at rows) (map fields_in answer)
            (subst (λ l. IsPermutation l (map fields_in answer)) (each_read rows) read) rows_shown

  -- ---- from an answer to the tree

  module _ (kept : List (List Field)) (same : IsPermutation (map (columns_of table) rows) (map (map value_of) kept))
      (are : AreRowsOf fields m kept) where
    all_values : (these : List (List Field)) → AllByRecursion HasValues (map (map value_of) these)
    all_values [] = tt
    all_values (one ∷ more) = (ap (map value_of) (sym (fields_back one)), all_values more)

    valued : (row : Row) → Has rows row → HasValues (columns_of table row)
    valued row there =
        let back = IsPermutation-sym _ _ same in
        let all = All-permutation HasValues _ (map (columns_of table) rows) back
        (All-from_recursion HasValues _ (all_values kept)) in
        all_has HasValues _ (columns_of table row) (recursion_from_All HasValues _ all)
        (mapped_has (columns_of table) rows row there)

    rows_read : AreRowsOf fields m (map fields_at rows)
    rows_read =
        let read = IsPermutation-map fields_in _ _ same in
        let moved_back : IsPermutation (map fields_at rows) kept
        = subst₂ IsPermutation (each_read rows) (rows_back kept) read in
        rows_moved fields m kept (map fields_at rows) (IsPermutation-sym _ _ moved_back) are

    -- a tree whose columns are the rows of the map holds it
    pub rows_hold : IsTable rows → AllByRecursion (λ row. IsTrue (is_int (rowid row))) rows
        → HoldsMap table fields m rows
    rows_hold ordered numbered = record {
      ordered = ordered;
      numbered = numbered;
      known = λ row there.
          let shown = mapped_has fields_at rows row there in
          let it = rows_read.known (fields_at row) (contains_had (map fields_at rows) (fields_at row) shown) in
          (it.0, it.1, it.2, valued row there ∙ ap (map value_of) (sym it.3));
      whole = λ key value got.
          let there = rows_read.whole key value got in
          let at = has_mapped fields_at rows (fields (key, value)) (has_contained (map fields_at rows) _ there) in
          (at.0, at.1, valued at.0 at.1 ∙ ap (map value_of) (sym at.2));
      once = λ a b has_a has_b e.
          let at_a = place rows a has_a in
          let at_b = place rows b has_b in
          let one = slice_get-map fields_at rows at_a.0 ∙ ap (option_map fields_at) at_a.1 in
          let two = slice_get-map fields_at rows at_b.0 ∙ ap (option_map fields_at) at_b.1 in
          let there = rows_read.once at_a.0 at_b.0 (fields_at a) one (two ∙ ap (λ c. Some (fields_in c)) (sym e)) in
          let both : Some a ≡ Some b = sym at_a.1 ∙ ap (slice_get rows) there ∙ at_b.1 in
          cc;
    }
      where
        place : (xs : List Row) (x : Row) → Has xs x → (i : ℕ) × (slice_get xs i ≡ Some x)
        place [] x there = absurd there
        place (y ∷ xs) x (inl e) = (zero, ap Some (sym e))
        place (y ∷ xs) x (inr later) = let at = place xs x later in (suc at.0, at.1)
