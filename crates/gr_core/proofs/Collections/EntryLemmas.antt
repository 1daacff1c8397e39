-- The entries of a finite map whose keys pass a test, and what they are once one row was put, for keys and rows of any kind.
use Rattle.std.proofs.Common.{◌≡◌, ◌+◌, Bool, true, false, cond, List, [], ◌∷◌, length, Some, None, is_some, refl, sym, ap, ◌∙◌}
use Rattle.std.specs.Prelude.{filter}
use lib.Dec.{T}
use Rattle.std.specs.List.{AllByRecursion}
use Rattle.std.specs.declared.cmp.Ordering.{Ordering}
use Rattle.std.specs.declared.cmp.Ordering.TheVariants.{Equal}
use Rattle.std.specs.Ordering.{is_eq, eq_by_cmp, ordering_reverse}
use Rattle.std.specs.Cmp.{IsTotalOrder, tied_itself}
use Rattle.std.specs.FinMap.{FinMap, IsAntisymmetric, entries, entries_sorted, entries-insert, get, get-entries, insert, find, put, is_sorted}
use Rattle.std.specs.FinMap.Entries.{below_all, find-put, find-where_key, is_sorted-put, is_sorted-where_key, length-put, same_entries}
use Rattle.gr_core.proofs.Collections.TableLemmas.{former, latter, less, tied}

module _ {J R : Type 0} {cmp : J → J → Ordering} (total : IsTotalOrder cmp) where
  found-cons : (e : J × R) (es fs : List (J × R)) → T (below_all cmp e.0 fs) → AllByRecursion (λ f. find cmp f.0 es ≡ Some f.1) fs
      → AllByRecursion (λ f. find cmp f.0 (e ∷ es) ≡ Some f.1) fs
  found-cons e es [] below found = tt
  found-cons e es (f ∷ fs) below found =
      let after = total.antisymm f.0 e.0 ∙ ap ordering_reverse (less _ (former _ _ below)) in
      (ap (λ r. cond (is_eq r) (Some e.1) (find cmp f.0 es)) after ∙ found.0, found-cons e es fs (latter _ _ below) found.1)

  -- each entry of a list in order is found under its key
  pub all_found : (es : List (J × R)) → T (is_sorted cmp es) → AllByRecursion (λ e. find cmp e.0 es ≡ Some e.1) es
  all_found [] sorted = tt
  all_found (e ∷ es) sorted =
      let here = ap (λ r. cond (is_eq r) (Some e.1) (find cmp e.0 es)) (tied_itself total e.0) in
      (here, found-cons e es es (former _ _ sorted) (all_found es (latter _ _ sorted)))

-- the entries whose keys pass the test
abbrev pub passing : {J R : Type 0} → (J → Bool) → List (J × R) → List (J × R)
passing test es = filter (λ e. test e.0) es

-- tied keys are one, and so pass alike
pass_alike : {J : Type 0} {cmp : J → J → Ordering} → IsAntisymmetric cmp → (test : J → Bool) (q x : J) → cmp q x ≡ Equal → test x ≡ test q
pass_alike only test q x is = ap test (sym (only q x is))

module _ {J R : Type 0} {cmp : J → J → Ordering} (total : IsTotalOrder cmp) (only : IsAntisymmetric cmp) (test : J → Bool) where
  passes_as_put : (k q : J) (v : R) (es : List (J × R)) → test k ≡ true
      → cond (test q) (cond (eq_by_cmp cmp q k) (Some v) (find cmp q es)) None ≡ cond (eq_by_cmp cmp q k) (Some v) (cond (test q) (find cmp q es) None)
  passes_as_put k q v es on =
      elim (eq_by_cmp cmp q k) as (λ b. eq_by_cmp cmp q k ≡ b
      → cond (test q) (cond b (Some v) (find cmp q es)) None ≡ cond b (Some v) (cond (test q) (find cmp q es) None)) [
        | true ↦ λ same. ap (λ b. cond b (Some v) None) (sym (pass_alike only test q k (tied _ same)) ∙ on)
        | false ↦ λ other. refl
      ] refl

  passing-put : (k : J) (v : R) (es : List (J × R)) → T (is_sorted cmp es) → test k ≡ true → passing test (put cmp k v es) ≡ put cmp k v (passing test es)
  passing-put k v es sorted on =
      same_entries cmp total only _ _
      (is_sorted-where_key cmp test _ (is_sorted-put cmp total k v es sorted))
      (is_sorted-put cmp total k v _ (is_sorted-where_key cmp test es sorted))
      (λ q.
      find-where_key cmp test q (pass_alike only test q) (put cmp k v es)
      ∙ ap (λ o. cond (test q) o None) (find-put cmp total q k v es)
      ∙ passes_as_put k q v es on
      ∙ ap (λ o. cond (eq_by_cmp cmp q k) (Some v) o) (sym (find-where_key cmp test q (pass_alike only test q) es))
      ∙ sym (find-put cmp total q k v (passing test es)))

  -- after a row was put whose key passes
  pub passing-insert : (m : FinMap cmp R) (k : J) (v : R) → test k ≡ true → passing test (entries (insert m k v)) ≡ put cmp k v (passing test (entries m))
  passing-insert m k v on = ap (passing test) (entries-insert total m k v) ∙ passing-put k v (entries m) (entries_sorted m) on

  -- a key that passes is found among those that pass
  pub find-passing : (m : FinMap cmp R) (k : J) → test k ≡ true → find cmp k (passing test (entries m)) ≡ get m k
  find-passing m k on =
      find-where_key cmp test k (pass_alike only test k) (entries m) ∙ ap (λ b. cond b (find cmp k (entries m)) None) on ∙ sym (get-entries m k)

  -- there are as many as before where the key was there, and else one more
  pub length-passing-insert : (m : FinMap cmp R) (k : J) (v : R) → test k ≡ true → length (passing test (entries (insert m k v)))
      ≡ cond (is_some (get m k)) (length (passing test (entries m))) (length (passing test (entries m)) + 1)
  length-passing-insert m k v on =
      let before = passing test (entries m) in
      ap length (passing-insert m k v on)
      ∙ length-put cmp total k v before (is_sorted-where_key cmp test (entries m) (entries_sorted m))
      ∙ ap (λ o. cond (is_some o) (length before) (length before + 1)) (find-passing m k on)

  passing-found : (m : FinMap cmp R) (es : List (J × R)) → AllByRecursion (λ e. find cmp e.0 (entries m) ≡ Some e.1) es
      → AllByRecursion (λ e. (test e.0 ≡ true) × (get m e.0 ≡ Some e.1)) (passing test es)
  passing-found m [] found = tt
  passing-found m (e ∷ es) found =
      let rest = passing-found m es found.1 in
      elim (test e.0) as (λ b. test e.0 ≡ b
      → AllByRecursion (λ e. (test e.0 ≡ true) × (get m e.0 ≡ Some e.1)) (cond b (e ∷ passing test es) (passing test es))) [
        | true ↦ λ on. ((on, get-entries m e.0 ∙ found.0), rest)
        | false ↦ λ off. rest
      ] refl

  -- each entry that passes is what the map has under its key
  pub all_passing : (m : FinMap cmp R) → AllByRecursion (λ e. (test e.0 ≡ true) × (get m e.0 ≡ Some e.1)) (passing test (entries m))
  all_passing m = passing-found m (entries m) (all_found total (entries m) (entries_sorted m))
