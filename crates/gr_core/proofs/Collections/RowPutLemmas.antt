-- One row that is put: what a finite map has after it, for keys and rows of any kind.
use Rattle.std.proofs.Common.{◌≡◌, ℕ, ◌+◌, ◌≤◌, ◌⊎◌, inl, inr, true, false, cond, Some, None, is_some, refl, sym, ap, ◌∙◌, subst, arith}
use Rattle.std.specs.Prelude.{unwrap_or}
use Rattle.std.specs.declared.cmp.Ordering.{Ordering}
use Rattle.std.specs.Ordering.{eq_by_cmp}
use Rattle.std.specs.Cmp.{IsTotalOrder, eq_by_cmp_equiv}
use Rattle.std.specs.FinMap.{FinMap, IsAntisymmetric, get, insert, len, get-insert, len-insert, same_map}
use Rattle.gr_core.proofs.Collections.TableLemmas.{tied}

module _ {J R : Type 0} {cmp : J → J → Ordering} (total : IsTotalOrder cmp) (only : IsAntisymmetric cmp) where
  -- an entry of a map with one row put is that row, or was there before
  pub insert_cases : (m : FinMap cmp R) (key q : J) (row found : R)
      → get (insert m key row) q ≡ Some found → ((q ≡ key) × (row ≡ found)) ⊎ (get m q ≡ Some found)
  insert_cases m key q row found e =
      elim (eq_by_cmp cmp q key) as (λ b. eq_by_cmp cmp q key ≡ b → cond b (Some row) (get m q) ≡ Some found
      → ((q ≡ key) × (row ≡ found)) ⊎ (get m q ≡ Some found)) [
        | true ↦ λ same is. inl (only q key (tied _ same), ap (λ o. unwrap_or o row) is)
        | false ↦ λ other is. inr is
      ] refl (sym (get-insert total m key row q) ∙ e)

  -- the row of a key is there once it was put
  pub get-put : (m : FinMap cmp R) (key : J) (row : R) → get (insert m key row) key ≡ Some row
  get-put m key row =
      get-insert total m key row key ∙ ap (λ b. cond b (Some row) (get m key)) ((eq_by_cmp_equiv total).refl key)

  -- and the rows of other keys stay
  pub get-put_other : (m : FinMap cmp R) (key q : J) (row : R) → (q ≡ key → ⊥) → get (insert m key row) q ≡ get m q
  get-put_other m key q row other =
      elim (eq_by_cmp cmp q key) as (λ b. eq_by_cmp cmp q key ≡ b → get (insert m key row) q ≡ get m q) [
        | true ↦ λ same. absurd (other (only q key (tied _ same)))
        | false ↦ λ differs. get-insert total m key row q ∙ ap (λ b. cond b (Some row) (get m q)) differs
      ] refl

  -- a map that has no more rows than allowed, and less where the key is new, has no more once the row was put
  pub len-put : (m : FinMap cmp R) (key : J) (row : R) (most : ℕ) → len m ≤ most → (get m key ≡ None → most ≤ len m → ⊥) → len (insert m key row) ≤ most
  len-put m key row most few room =
      subst (λ n. n ≤ most) (sym (len-insert total m key row))
      (elim (get m key) as (λ o. get m key ≡ o → cond (is_some o) (len m) (len m + 1) ≤ most) [
        | Some found ↦ λ is. few
        | None ↦ λ is. let no : most ≤ len m → ⊥ = room is in omega arith
      ] refl)

  -- of two rows put under one key the later stays
  pub insert-again : (m : FinMap cmp R) (key : J) (row later : R)
      → insert (insert m key row) key later ≡ insert m key later
  insert-again m key row later =
      same_map total only _ _ (λ q. get-insert total (insert m key row) key later q
      ∙ elim (eq_by_cmp cmp q key) as (λ b. eq_by_cmp cmp q key ≡ b
      → cond b (Some later) (get (insert m key row) q) ≡ cond b (Some later) (get m q)) [
        | true ↦ λ same. refl
        | false ↦ λ other. get-insert total m key row q ∙ ap (λ b. cond b (Some row) (get m q)) other
      ] refl
      ∙ sym (get-insert total m key later q))

  -- to put the row that a key has changes nothing
  pub insert-there : (m : FinMap cmp R) (key : J) (row : R) → get m key ≡ Some row → insert m key row ≡ m
  insert-there m key row there =
      same_map total only _ _ (λ q. get-insert total m key row q
      ∙ elim (eq_by_cmp cmp q key) as (λ b. eq_by_cmp cmp q key ≡ b → cond b (Some row) (get m q) ≡ get m q) [
        | true ↦ λ same. sym (ap (get m) (only q key (tied _ same)) ∙ there)
        | false ↦ λ other. refl
      ] refl)
