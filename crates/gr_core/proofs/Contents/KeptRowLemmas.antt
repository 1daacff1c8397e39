-- The rows that a table keeps, and the choices that a resolution keeps, while rows change under their keys.
use Rattle.std.proofs.Common.{◌≡◌, ℕ, Bool, true, false, cond, List, [], ◌∷◌, map, length, suc, Some, None, option_map, refl, sym, ap, ◌∙◌}
use Rattle.std.specs.Prelude.{nat_eq}
use Rattle.std.specs.List.{cons_option}
use lib.Dec.{T}
use Rattle.std.specs.declared.cmp.Ordering.{Ordering}
use Rattle.std.specs.declared.cmp.Ordering.TheVariants.{Equal}
use Rattle.std.specs.Ordering.{is_lt, eq_by_cmp}
use Rattle.std.specs.Cmp.{IsTotalOrder}
use Rattle.std.specs.FinMap.{FinMap, IsAntisymmetric, get, entries, entries_sorted, get-entries, find, is_sorted}
use Rattle.std.specs.FinMap.Entries.{below_all, same_entries, find-where_key, is_sorted-where_key}
use Rattle.gr_core.specs.declared.choice.ChoiceKey.{ChoiceKey}
use Rattle.gr_core.specs.Parts.Key.{choice_cmp}
use Rattle.gr_core.specs.Parts.Choice.{ChoiceModel, choices_of}
use Rattle.gr_core.specs.Desks.Valid.{places_of}
use Rattle.gr_core.proofs.Collections.TableLemmas.{both, former, latter, tied}
use Rattle.gr_core.proofs.Collections.PairKeys.{choice_total, choice_only}
use Rattle.gr_core.proofs.Contents.ChoiceKeys.{same_number}
use Rattle.gr_core.proofs.Collections.EntryLemmas.{passing}

-- the entry with its row changed, by its key
abbrev pub altered : {J R : Type 0} → (J → R → R) → J × R → J × R
altered h entry = (entry.0, h entry.0 entry.1)

module _ {J R : Type 0} {cmp : J → J → Ordering} (total : IsTotalOrder cmp) (only : IsAntisymmetric cmp)
    (h : J → R → R) where
  -- a key below all of a list is below all of the changed list
  below-altered : (k : J) (es : List (J × R)) → T (below_all cmp k es) → T (below_all cmp k (map (altered h) es))
  below-altered k [] below = tt
  below-altered k (e ∷ es) below =
      both _ _ (former (is_lt (cmp k e.0)) (below_all cmp k es) below)
      (below-altered k es (latter (is_lt (cmp k e.0)) (below_all cmp k es) below))

  -- a list in order stays in order
  pub sorted-altered : (es : List (J × R)) → T (is_sorted cmp es) → T (is_sorted cmp (map (altered h) es))
  sorted-altered [] sorted = tt
  sorted-altered (e ∷ es) sorted =
      both _ _ (below-altered e.0 es (former (below_all cmp e.0 es) (is_sorted cmp es) sorted))
      (sorted-altered es (latter (below_all cmp e.0 es) (is_sorted cmp es) sorted))

  -- what is found under a key is what was found, changed
  pub find-altered : (q : J) (es : List (J × R)) → find cmp q (map (altered h) es) ≡ option_map (h q) (find cmp q es)
  find-altered q [] = refl
  find-altered q (e ∷ es) =
      elim (eq_by_cmp cmp q e.0) as (λ b. eq_by_cmp cmp q e.0 ≡ b
      → cond b (Some (h e.0 e.1)) (find cmp q (map (altered h) es))
      ≡ option_map (h q) (cond b (Some e.1) (find cmp q es))) [
        | true ↦ λ same. ap (λ k. Some (h k e.1)) (sym (only q e.0 (tied _ same)))
        | false ↦ λ other. find-altered q es
      ] refl

  -- a map whose rows are those of another, each changed by its key, has its entries so
  pub entries-altered : (m n : FinMap cmp R) → ((q : J) → get n q ≡ option_map (h q) (get m q))
      → entries n ≡ map (altered h) (entries m)
  entries-altered m n is =
      same_entries cmp total only _ _ (entries_sorted n) (sorted-altered (entries m) (entries_sorted m))
      (λ q. sym (get-entries n q) ∙ is q ∙ ap (option_map (h q)) (get-entries m q) ∙ sym (find-altered q (entries m)))

  -- a test of keys takes the same entries
  pub filter-altered : (test : J → Bool) (es : List (J × R))
      → passing test (map (altered h) es) ≡ map (altered h) (passing test es)
  filter-altered test [] = refl
  filter-altered test (e ∷ es) =
      elim (test e.0) as (λ b. cond b (altered h e ∷ passing test (map (altered h) es))
      (passing test (map (altered h) es))
      ≡ map (altered h) (cond b (e ∷ passing test es) (passing test es))) [
        | true ↦ ap (λ rest. altered h e ∷ rest) (filter-altered test es)
        | false ↦ filter-altered test es
      ]

  -- the changed list is as long
  length-altered : (es : List (J × R)) → length (map (altered h) es) ≡ length es
  length-altered [] = refl
  length-altered (e ∷ es) = ap (λ n. suc n) (length-altered es)

-- a row changed in a way that leaves its place
pub places-altered : (h : ChoiceKey → ChoiceModel → ChoiceModel)
    → ((key : ChoiceKey) (row : ChoiceModel) → (h key row).place ≡ row.place)
    → (es : List (ChoiceKey × ChoiceModel)) → places_of (map (altered h) es) ≡ places_of es
places-altered h same [] = refl
places-altered h same (e ∷ es) =
    ap (λ place. cons_option place (places_of (map (altered h) es))) (same e.0 e.1)
    ∙ ap (cons_option e.1.place) (places-altered h same es)

-- tables with the same rows under the keys that pass a test have the same entries that pass it
pub passing-same : {J R : Type 0} {cmp : J → J → Ordering} → IsTotalOrder cmp → IsAntisymmetric cmp
    → (test : J → Bool) (m n : FinMap cmp R)
    → ((key : J) → test key ≡ true → get n key ≡ get m key) → passing test (entries n) ≡ passing test (entries m)
passing-same {J = J} {cmp = cmp} total only test m n is =
    let alike = λ (q x : J) (tie : cmp q x ≡ Equal). ap test (sym (only q x tie)) in
    same_entries cmp total only _ _
    (is_sorted-where_key cmp test (entries n) (entries_sorted n))
    (is_sorted-where_key cmp test (entries m) (entries_sorted m))
    (λ q.
    find-where_key cmp test q (alike q) (entries n)
    ∙ elim (test q) as (λ b. test q ≡ b
    → cond b (find cmp q (entries n)) None ≡ cond b (find cmp q (entries m)) None) [
      | true ↦ λ on. sym (get-entries n q) ∙ is q on ∙ get-entries m q
      | false ↦ λ off. refl
    ] refl
    ∙ sym (find-where_key cmp test q (alike q) (entries m)))

module _ (m n : FinMap choice_cmp ChoiceModel) where
  -- tables with the same rows under the keys of a resolution have the same choices of it
  pub choices_of-same : (resolution : ℕ) → ((key : ChoiceKey) → resolution ≡ key.resolution → get n key ≡ get m key)
      → choices_of n resolution ≡ choices_of m resolution
  choices_of-same resolution is =
      passing-same choice_total choice_only (λ key. nat_eq resolution key.resolution) m n
      (λ q on. is q (same_number resolution q.resolution on))

  module _ (h : ChoiceKey → ChoiceModel → ChoiceModel) (is : (q : ChoiceKey) → get n q ≡ option_map (h q) (get m q)) where
    -- a table whose rows are those of another, each changed by its key, has the same choices, so changed
    pub choices_of-altered : (resolution : ℕ) → choices_of n resolution ≡ map (altered h) (choices_of m resolution)
    choices_of-altered resolution =
        ap (passing (λ key. nat_eq resolution key.resolution)) (entries-altered choice_total choice_only h m n is)
        ∙ filter-altered choice_total choice_only h (λ key. nat_eq resolution key.resolution) (entries m)

    -- it has as many choices
    pub length-choices_of-altered : (resolution : ℕ)
        → length (choices_of n resolution) ≡ length (choices_of m resolution)
    length-choices_of-altered resolution =
        ap length (choices_of-altered resolution) ∙ length-altered choice_total choice_only h (choices_of m resolution)

    -- it has the same places, where the change leaves them
    pub places_of-altered : ((key : ChoiceKey) (row : ChoiceModel) → (h key row).place ≡ row.place)
        → (resolution : ℕ) → places_of (choices_of n resolution) ≡ places_of (choices_of m resolution)
    places_of-altered same resolution = ap places_of (choices_of-altered resolution)
        ∙ places-altered h same (choices_of m resolution)
