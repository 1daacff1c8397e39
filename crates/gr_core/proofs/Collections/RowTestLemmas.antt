-- Tests of each row of a table: what they tell of the finite map that the table makes.
use Rattle.std.proofs.Common.{◌≡◌, ℕ, ◌<◌, ◌↔◌, Bool, true, false, cond, IsTrue, List, [], ◌∷◌, ◌++◌, map, length, Some, refl, sym, ap, ◌∙◌, subst}
use Rattle.std.specs.Prelude.{unwrap_or}
use Rattle.std.specs.Bool.{MatchBool}
use Rattle.std.specs.List.{AllWithin, HoldsAt}
use Rattle.std.specs.List.{All, AllByRecursion}
use Rattle.std.specs.declared.cmp.Ordering.{Ordering}
use Rattle.std.specs.Ordering.{eq_by_cmp}
use Rattle.std.specs.Cmp.{IsTotalOrder}
use Rattle.std.specs.BTreeMap.{BTreeMap}
use Rattle.std.specs.FinMap.{FinMap, IsAntisymmetric, get, get-entries, entries, entries_sorted, find}
use Rattle.std.proofs.lemmas.List.Elements.{All-append, All-from_all_within, All-from_recursion, All-head, All-tail, All-weaker, recursion_from_All}
use Rattle.std.proofs.lemmas.Iterator.Search.{true_from_All}
use Rattle.gr_core.specs.InMemory.Table.{rows_under, flat_rows}
use Rattle.gr_core.proofs.Collections.EntryLemmas.{all_found}
use Rattle.gr_core.proofs.Collections.ListLemmas.{each_more}
use Rattle.gr_core.proofs.Collections.PresenceLemmas.{not_false, not_None}
use Rattle.gr_core.proofs.Collections.TableLemmas.{tied}
use Rattle.gr_core.proofs.Collections.WalkLemmas.{all-mapped}

-- what holds of an element in two ways holds of each in both
pub all_same : {X : Type 0} (P Q : X → Type 0) (xs : List X) → ((x : X) → P x ↔ Q x) → All P xs ↔ All Q xs
all_same P Q xs same = (All-weaker P Q (λ x. (same x).0) xs, All-weaker Q P (λ x. (same x).1) xs)

-- a walk that ended with the first element that fails tells whether P holds of each
pub told_of_each : {X : Type 0} (P : X → Type 0) (told : Bool) (xs : List X)
    → MatchBool told (AllWithin P xs 0 (length xs)) ((k : ℕ) × (k < length xs) × HoldsAt (λ x. ¬ (P x)) xs k)
    → IsTrue told ↔ All P xs
told_of_each P true xs found = (λ yes. All-from_all_within P xs found, λ all. refl)
told_of_each P false xs found = (
  λ no. absurd (not_false no),
  λ all. true_from_All P (λ x. ¬ (P x)) false xs (λ x holds fails. fails holds) found all,
)

-- P holds of each row of the map
abbrev pub EachRow : {J R : Type 0} {cmp : J → J → Ordering} → FinMap cmp R → (J × R → Type 0) → Type 0
EachRow {J} {R} m P = (key : J) (row : R) → get m key ≡ Some row → P (key, row)

module _ {J R : Type 0} {cmp : J → J → Ordering} (total : IsTotalOrder cmp) (only : IsAntisymmetric cmp) (P : J × R → Type 0) where
  of_found : (es : List (J × R)) → All P es → (key : J) (row : R) → find cmp key es ≡ Some row → P (key, row)
  of_found [] all key row is = absurd (not_None row is)
  of_found (e ∷ es) all key row is =
      elim (eq_by_cmp cmp key e.0) as (λ b. eq_by_cmp cmp key e.0 ≡ b → cond b (Some e.1) (find cmp key es) ≡ Some row → P (key, row)) [
        | true ↦ λ same found.
            let rows : e.1 ≡ row = ap (λ o. unwrap_or o row) found in
            subst (λ (entry : J × R). P entry) (λ i. (sym (only key e.0 (tied _ same)) i, rows i)) (All-head P e es all)
        | false ↦ λ other found. of_found es (All-tail P e es all) key row found
      ] refl is

  -- what holds of each entry holds of each row, and the other way round
  pub each_row : (m : FinMap cmp R) → All P (entries m) ↔ EachRow m P
  each_row m = (
    λ all key row is. of_found (entries m) all key row (sym (get-entries m key) ∙ is),
    λ each. All-from_recursion P (entries m)
        (each_more (λ e. find cmp e.0 (entries m) ≡ Some e.1) P (λ e is. each e.0 e.1 (get-entries m e.0 ∙ is)) (entries m)
        (all_found total (entries m) (entries_sorted m))),
  )

  pub each_row_of : (es : List (J × R)) (m : FinMap cmp R) → es ≡ entries m → All P es ↔ EachRow m P
  each_row_of es m is = subst (λ these. All P these ↔ EachRow m P) (sym is) (each_row m)

-- both ways, one after the other
pub both_ways : {A B C : Type 0} → A ↔ B → B ↔ C → A ↔ C
both_ways ab bc = (λ a. bc.0 (ab.0 a), λ c. ab.1 (bc.1 c))

each_mapped : {A B : Type 0} (P : B → Type 0) (f : A → B) (xs : List A) → All (λ x. P (f x)) xs → AllByRecursion P (map f xs)
each_mapped P f [] all = tt
each_mapped P f (x ∷ xs) all = (All-head (λ x. P (f x)) x xs all, each_mapped P f xs (All-tail (λ x. P (f x)) x xs all))

-- what holds of each element as it is mapped holds of each element of the mapped list
mapped-all : {A B : Type 0} (P : B → Type 0) (f : A → B) (xs : List A) → All (λ x. P (f x)) xs → All P (map f xs)
mapped-all P f xs all = All-from_recursion P (map f xs) (each_mapped P f xs all)

split_each : {A : Type 0} (P : A → Type 0) (xs ys : List A) → AllByRecursion P (xs ++ ys) → AllByRecursion P xs × AllByRecursion P ys
split_each P [] ys all = (tt, all)
split_each P (x ∷ xs) ys all = let rest = split_each P xs ys all.1 in ((all.0, rest.0), rest.1)

-- A table in memory whose entries show the rows of a map: what holds of each entry as it is shown holds of each row, and
-- the other way round.
module _ {A J R : Type 0} {cmp : J → J → Ordering} (total : IsTotalOrder cmp) (only : IsAntisymmetric cmp) (shows : A → J × R) (P : J × R → Type 0) where
  pub each_shown : (es : List A) (m : FinMap cmp R) → map shows es ≡ entries m → All (λ e. P (shows e)) es ↔ EachRow m P
  each_shown es m is =
      both_ways (λ all. subst (All P) is (mapped-all P shows es all), λ all. all-mapped P shows es (subst (All P) (sym is) all))
      (each_row total only P m)

-- what holds of each row that stands under a first part
abbrev pub EachUnder : {K L V A B R : Type 0} → (K → A) → (L → B) → (V → R) → ((A × B) × R → Type 0) → K × BTreeMap L V → Type 0
EachUnder first second row_of P entry = All (λ inner. P ((first entry.0, second inner.0), row_of inner.1)) entry.1.entries

-- The same of a table of tables.
module _ {K L V A B R : Type 0} {cmp : A × B → A × B → Ordering} (total : IsTotalOrder cmp) (only : IsAntisymmetric cmp)
    (first : K → A) (second : L → B) (row_of : V → R) (P : (A × B) × R → Type 0) where
  abbrev Under : K × BTreeMap L V → Type 0
  Under = EachUnder first second row_of P

  flat_all : (es : List (K × BTreeMap L V)) → AllByRecursion Under es → All P (flat_rows first second row_of es)
  flat_all [] all = All-from_recursion P [] tt
  flat_all (e ∷ es) all =
      All-append P (rows_under second row_of (first e.0) e.1.entries) (flat_rows first second row_of es)
      (mapped-all P (λ inner. ((first e.0, second inner.0), row_of inner.1)) e.1.entries all.0) (flat_all es all.1)

  flat_each : (es : List (K × BTreeMap L V)) → AllByRecursion P (flat_rows first second row_of es) → AllByRecursion Under es
  flat_each [] all = tt
  flat_each (e ∷ es) all =
      let parts = split_each P (rows_under second row_of (first e.0) e.1.entries) (flat_rows first second row_of es) all in (
        all-mapped P (λ inner. ((first e.0, second inner.0), row_of inner.1)) e.1.entries
            (All-from_recursion P (rows_under second row_of (first e.0) e.1.entries) parts.0),
        flat_each es parts.1,
      )

  pub each_flat : (es : List (K × BTreeMap L V)) (m : FinMap cmp R) → flat_rows first second row_of es ≡ entries m
      → All Under es ↔ EachRow m P
  each_flat es m is =
      both_ways (
        λ all. subst (All P) is (flat_all es (recursion_from_All Under es all)),
        λ all. All-from_recursion Under es (flat_each es (recursion_from_All P (flat_rows first second row_of es) (subst (All P) (sym is) all))),
      ) (each_row total only P m)
