-- The row of a key that is changed: what a finite map has after it, for keys and rows of any kind.
use Rattle.std.proofs.Common.{◌≡◌, ◌+◌, true, false, cond, Some, None, option_map, is_some, refl, sym, ap, ◌∙◌}
use Rattle.std.specs.declared.cmp.Ordering.{Ordering}
use Rattle.std.specs.Ordering.{eq_by_cmp}
use Rattle.std.specs.Cmp.{IsTotalOrder}
use Rattle.std.specs.FinMap.{FinMap, IsAntisymmetric, get, len, get-insert, len-insert}
use Rattle.gr_core.specs.Machine.Map.{changed_at, changed_where}
use Rattle.gr_core.proofs.Collections.TableLemmas.{tied}
use Rattle.gr_core.proofs.Collections.RowPutLemmas.{get-put, get-put_other}

module _ {J R : Type 0} {cmp : J → J → Ordering} (total : IsTotalOrder cmp) (only : IsAntisymmetric cmp) where
  -- the row of the key
  pub get-changed_at : (m : FinMap cmp R) (key : J) (change : R → R) → get (changed_at m key change) key ≡ option_map change (get m key)
  get-changed_at m key change =
      elim (get m key) as (λ o. get m key ≡ o → get (changed_where m key change o) key ≡ option_map change o) [
        | None ↦ λ is. is
        | Some row ↦ λ is. get-put total only m key (change row)
      ] refl

  -- the rows of other keys
  pub get-changed_at_other : (m : FinMap cmp R) (key q : J) (change : R → R) → (q ≡ key → ⊥) → get (changed_at m key change) q ≡ get m q
  get-changed_at_other m key q change other =
      elim (get m key) as (λ o. get (changed_where m key change o) q ≡ get m q) [
        | None ↦ refl
        | Some row ↦ get-put_other total only m key q (change row) other
      ]

  -- a change makes no key and takes none
  pub is_some-changed_at : (m : FinMap cmp R) (key q : J) (change : R → R) → is_some (get (changed_at m key change) q) ≡ is_some (get m q)
  is_some-changed_at m key q change =
      elim (get m key) as (λ o. get m key ≡ o → is_some (get (changed_where m key change o) q) ≡ is_some (get m q)) [
        | None ↦ λ is. refl
        | Some row ↦ λ is.
            ap is_some (get-insert total m key (change row) q)
            ∙ elim (eq_by_cmp cmp q key) as (λ b. eq_by_cmp cmp q key ≡ b → is_some (cond b (Some (change row)) (get m q)) ≡ is_some (get m q)) [
              | true ↦ λ same. sym (ap is_some (ap (get m) (only q key (tied _ same)) ∙ is))
              | false ↦ λ differs. refl
            ] refl
      ] refl

  pub len-changed_at : (m : FinMap cmp R) (key : J) (change : R → R) → len (changed_at m key change) ≡ len m
  len-changed_at m key change =
      elim (get m key) as (λ o. get m key ≡ o → len (changed_where m key change o) ≡ len m) [
        | None ↦ λ is. refl
        | Some row ↦ λ is. len-insert total m key (change row) ∙ ap (λ o. cond (is_some o) (len m) (len m + 1)) is
      ] refl
