-- A roll with new rows is one that a desk may have.
use Rattle.std.proofs.Common.{◌≡◌, ℕ, inl, inr, Bool, true, false, List, [], ◌∷◌, is_some, IsSome, refl, sym, ap, ◌∙◌, subst}
use Rattle.std.specs.Prelude.{◌||◌}
use Rattle.std.specs.Ordering.{eq_by_cmp}
use Rattle.std.specs.FinMap.{FinMap, get, insert, get-insert}
use Rattle.gr_core.specs.declared.limits.TheConstants.{MAX_NAME_CHARACTERS}
use Rattle.gr_core.specs.Parts.Developer.{DeveloperModel, IsDeveloper}
use Rattle.gr_core.specs.Parts.Key.{text_cmp}
use Rattle.gr_core.specs.Machine.Import.{RollRow, developer_in, imported, has_login, IsBadRow, HasNoBadRow}
use Rattle.gr_core.specs.Desks.Valid.{AreDevelopers}
use Rattle.gr_core.proofs.Collections.RowPutLemmas.{insert_cases}
use Rattle.gr_core.proofs.Collections.TextKeys.{text_total, text_only}
use Rattle.gr_core.proofs.Effects.ImportLemmas.{no_bad_row-rest, is_some-cond, is_some-imported}
use Rattle.gr_core.proofs.Contents.StableLemmas.{IsLogin-stable, IsLine-stable}

-- a row under a login that fits it
pub developers-put : (m : FinMap text_cmp DeveloperModel) (login : List ℕ) (row : DeveloperModel)
    → AreDevelopers m → IsDeveloper login row → AreDevelopers (insert m login row)
developers-put m login row all one q found e =
    elim (insert_cases text_total text_only m login q row found e) [
      | inl same ↦ subst (λ l. IsDeveloper l found) (sym same.0) (subst (IsDeveloper login) same.1 one)
      | inr before ↦ all q found before
    ]

-- the rows of an import without a bad one
pub developers-imported : (m : FinMap text_cmp DeveloperModel) (rows : List RollRow) → AreDevelopers m
    → HasNoBadRow rows → AreDevelopers (imported m rows)
developers-imported m [] all good = all
developers-imported m (row ∷ rows) all good =
    let fits : ¬ (IsBadRow [] row) = λ bad. good [] (record { row = row; later = rows; whole = refl; bad = bad }) in
    let here = developers-put m row.login (developer_in row) all (record {
      named = IsLogin-stable row.login (λ bad. fits (inl bad));
      name = IsLine-stable MAX_NAME_CHARACTERS row.name (λ bad. fits (inr (inl bad)));
    }) in
    developers-imported (insert m row.login (developer_in row)) rows here (no_bad_row-rest row rows good)

-- a test or one that passes
or-true : (a b : Bool) → b ≡ true → (a || b) ≡ true
or-true true b is = refl
or-true false b is = is

-- who is on the roll stays there
pub grows-put : (m : FinMap text_cmp DeveloperModel) (login : List ℕ) (row : DeveloperModel) (q : List ℕ)
    → IsSome (get m q) → IsSome (get (insert m login row) q)
grows-put m login row q on =
    ap is_some (get-insert text_total m login row q)
    ∙ is_some-cond (eq_by_cmp text_cmp q login) row (get m q)
    ∙ or-true (eq_by_cmp text_cmp q login) (is_some (get m q)) on

-- an import takes nobody off the roll
pub grows-imported : (m : FinMap text_cmp DeveloperModel) (rows : List RollRow) (q : List ℕ) → IsSome (get m q)
    → IsSome (get (imported m rows) q)
grows-imported m rows q on = is_some-imported m rows q ∙ or-true (has_login q rows) (is_some (get m q)) on
