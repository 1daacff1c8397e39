-- The rows of one finite map that are put into another: what that has after it, for keys and rows of any kind.
use Rattle.std.proofs.Common.{◌≡◌, Bool, true, false, cond, List, [], ◌∷◌, Option, Some, None, is_some, refl, sym, ap, ◌∙◌}
use Rattle.std.specs.Prelude.{◌||◌}
use Rattle.std.specs.Option.{option_or}
use Rattle.std.specs.List.{list_any}
use Rattle.std.specs.declared.cmp.Ordering.{Ordering}
use Rattle.std.specs.Ordering.{eq_by_cmp}
use Rattle.std.specs.Cmp.{IsTotalOrder}
use Rattle.std.specs.FinMap.{FinMap, IsAntisymmetric, get, insert, get-insert, same_map}
use Rattle.gr_core.proofs.Collections.TableLemmas.{tied}

-- the key is one of these
abbrev pub is_among : {J : Type 0} → (J → J → Ordering) → J → List J → Bool
is_among cmp key keys = list_any (eq_by_cmp cmp key) keys

-- a map with what was found under a key put there
abbrev pub with_where : {J R : Type 0} {cmp : J → J → Ordering} → FinMap cmp R → J → Option R → FinMap cmp R
with_where m key None = m
with_where m key (Some row) = insert m key row

-- a map with the rows that another one has under these keys
abbrev pub with_found : {J R : Type 0} {cmp : J → J → Ordering} → FinMap cmp R → FinMap cmp R → List J → FinMap cmp R
with_found m n [] = m
with_found m n (key ∷ keys) = with_found (with_where m key (get n key)) n keys

module _ {J R : Type 0} {cmp : J → J → Ordering} (total : IsTotalOrder cmp) (only : IsAntisymmetric cmp) where
  get-with_where : (m n : FinMap cmp R) (key q : J)
      → get (with_where m key (get n key)) q ≡ cond (eq_by_cmp cmp q key) (option_or (get n q) (get m q)) (get m q)
  get-with_where m n key q =
      elim (eq_by_cmp cmp q key) as (λ b. eq_by_cmp cmp q key ≡ b → get (with_where m key (get n key)) q ≡ cond b (option_or (get n q) (get m q)) (get m q)) [
        | true ↦ λ same. here (only q key (tied _ same)) same
        | false ↦ λ differs. there (get n key) differs
      ] refl
    where
      there : (found : Option R) → eq_by_cmp cmp q key ≡ false → get (with_where m key found) q ≡ get m q
      there None differs = refl
      there (Some row) differs = get-insert total m key row q ∙ ap (λ b. cond b (Some row) (get m q)) differs

      found_here : (found : Option R) → eq_by_cmp cmp q key ≡ true → get (with_where m key found) q ≡ option_or found (get m q)
      found_here None same = refl
      found_here (Some row) same = get-insert total m key row q ∙ ap (λ b. cond b (Some row) (get m q)) same

      here : q ≡ key → eq_by_cmp cmp q key ≡ true → get (with_where m key (get n key)) q ≡ option_or (get n q) (get m q)
      here is same = found_here (get n key) same ∙ ap (λ k. option_or (get n k) (get m q)) (sym is)

  option_or-twice : (found before : Option R) → option_or found (option_or found before) ≡ option_or found before
  option_or-twice None before = refl
  option_or-twice (Some row) before = refl

  get-with_found : (m n : FinMap cmp R) (keys : List J) (q : J)
      → get (with_found m n keys) q ≡ cond (is_among cmp q keys) (option_or (get n q) (get m q)) (get m q)
  get-with_found m n [] q = refl
  get-with_found m n (key ∷ keys) q =
      get-with_found (with_where m key (get n key)) n keys q
      ∙ ap (λ o. cond (is_among cmp q keys) (option_or (get n q) o) o) (get-with_where m n key q)
      ∙ either (eq_by_cmp cmp q key) (is_among cmp q keys)
    where
      either : (here later : Bool)
          → cond later (option_or (get n q) (cond here (option_or (get n q) (get m q)) (get m q))) (cond here (option_or (get n q) (get m q)) (get m q))
          ≡ cond (here || later) (option_or (get n q) (get m q)) (get m q)
      either true true = option_or-twice (get n q) (get m q)
      either true false = refl
      either false true = refl
      either false false = refl

  -- where other keys have what they had, and no key vanished, that is the other map
  pub with_found-covers : (m n : FinMap cmp R) (keys : List J)
      → ((q : J) → is_among cmp q keys ≡ false → get n q ≡ get m q)
      → ((q : J) → is_some (get m q) ≡ true → is_some (get n q) ≡ true)
      → with_found m n keys ≡ n
  with_found-covers m n keys others stays =
      same_map total only _ _ (λ q.
      get-with_found m n keys q
      ∙ elim (is_among cmp q keys) as (λ b. is_among cmp q keys ≡ b → cond b (option_or (get n q) (get m q)) (get m q) ≡ get n q) [
        | true ↦ λ among. found q (get m q) (get n q) refl refl
        | false ↦ λ not_among. sym (others q not_among)
      ] refl)
    where
      found : (q : J) (before after : Option R) → get m q ≡ before → get n q ≡ after → option_or after before ≡ after
      found q before (Some row) was is = refl
      found q None None was is = refl
      found q (Some row) None was is =
          absurd (let never : false ≡ true = sym (ap is_some is) ∙ stays q (ap is_some was) in cc)
