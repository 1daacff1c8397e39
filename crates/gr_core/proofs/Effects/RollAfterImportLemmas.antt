-- What an import leaves: each of its rows under its login, and every other login as it was.
use Rattle.std.proofs.Common.{◌≡◌, ℕ, ◌+◌, inl, inr, Bool, true, false, cond, List, [], ◌∷◌, ◌++◌, length, Some, None, IsSomeAnd, refl, sym, ap, ◌∙◌, subst, arith}
use Rattle.std.specs.Prelude.{◌||◌, unwrap_or}
use Rattle.std.specs.Str.{bytes_eq}
use Rattle.std.specs.List.{All, AllByRecursion}
use Rattle.std.specs.FinMap.{FinMap, get, insert}
use Rattle.std.proofs.lemmas.List.Elements.{All-from_recursion}
use Rattle.std.proofs.lemmas.List.Sums.{sum_by-cons}
use Rattle.gr_core.specs.declared.developer.Standing.TheVariants.{Retired}
use Rattle.gr_core.specs.declared.import.Novelty.{Novelty}
use Rattle.gr_core.specs.declared.import.Novelty.TheVariants.{Added, Changed, Same}
use Rattle.gr_core.specs.declared.reply.Reply.{Reply}
use Rattle.gr_core.specs.declared.refusal.Refusal.TheVariants.{BadRoll}
use Rattle.gr_core.specs.Parts.Key.{text_cmp}
use Rattle.gr_core.specs.Parts.Developer.{DeveloperModel, standing_of}
use Rattle.gr_core.specs.Machine.Import.{RollRow, developer_in, imported, has_login, HasNoBadRow, novelty, is_same_novelty, row_count, counts_of}
use Rattle.gr_core.specs.Desks.State.{State}
use Rattle.gr_core.specs.Laws.MachineLaws.{ImportsPutTheirRows, ImportsCountTheirRows}
use Rattle.gr_core.proofs.Collections.TextKeys.{text_total, text_only}
use Rattle.gr_core.proofs.Collections.RowPutLemmas.{get-put, get-put_other}
use Rattle.gr_core.proofs.Effects.ImportLemmas.{has_login-first, logins_differ, no_bad_row-rest, no_bad_row-from_none}

-- ==== facts of rows

-- a fact of each row
abbrev pub EachRow : (RollRow → Type 0) → List RollRow → Type 0
EachRow P rows = (others : List RollRow) (row : RollRow) (later : List RollRow) → rows ≡ others ++ row ∷ later → P row

-- the rows after the first have it too
pub behind_first : (P : RollRow → Type 0) (row : RollRow) (rows : List RollRow) → EachRow P (row ∷ rows) → EachRow P rows
behind_first P row rows each others other later whole = each (row ∷ others) other later (ap (λ rs. row ∷ rs) whole)

-- all have it
pub each-all : (P : RollRow → Type 0) (rows : List RollRow) → EachRow P rows → AllByRecursion P rows
each-all P [] each = tt
each-all P (row ∷ rows) each = (each [] row rows refl, each-all P rows (behind_first P row rows each))

pub or_true : (b : Bool) → (b || true) ≡ true
or_true true = refl
or_true false = refl

-- one of the rows has the login of each
pub login_of_row : (rows : List RollRow) → EachRow (λ row. has_login row.login rows ≡ true) rows
login_of_row rows [] row later whole = subst (λ rs. has_login row.login rs ≡ true) (sym whole) (has_login-first row.login row later refl)
login_of_row [] (o ∷ os) row later whole = absurd (let never : [] ≡ o ∷ (os ++ row ∷ later) = whole in cc)
login_of_row (first ∷ rows) (o ∷ os) row later whole =
    ap (λ b. bytes_eq row.login first.login || b) (login_of_row rows os row later (cc)) ∙ or_true (bytes_eq row.login first.login)

-- ==== the roll after an import

-- rows with other logins leave a login's row
get-imported_others : (m : FinMap text_cmp DeveloperModel) (rows : List RollRow) (login : List ℕ) → EachRow (λ row. row.login ≡ login → ⊥) rows
    → get (imported m rows) login ≡ get m login
get-imported_others m [] login differ = refl
get-imported_others m (row ∷ rows) login differ =
    get-imported_others (insert m row.login (developer_in row)) rows login (behind_first (λ r. r.login ≡ login → ⊥) row rows differ)
    ∙ get-put_other text_total text_only m row.login login (developer_in row) (λ same. differ [] row rows refl (sym same))

-- an import puts what each of its rows says
pub get-imported : (m : FinMap text_cmp DeveloperModel) (rows : List RollRow) → HasNoBadRow rows
    → EachRow (λ row. get (imported m rows) row.login ≡ Some (developer_in row)) rows
get-imported m [] good [] row later whole = absurd (let never : [] ≡ row ∷ later = whole in cc)
get-imported m [] good (o ∷ os) row later whole = absurd (let never : [] ≡ o ∷ (os ++ row ∷ later) = whole in cc)
get-imported m (first ∷ rows) good [] row later whole =
    let same : first ≡ row = cc in
    let next = insert m first.login (developer_in first) in
    subst (λ r. get (imported next rows) r.login ≡ Some (developer_in r)) same
    (get-imported_others next rows first.login (logins_differ first rows good) ∙ get-put text_total text_only m first.login (developer_in first))
get-imported m (first ∷ rows) good (o ∷ os) row later whole =
    get-imported (insert m first.login (developer_in first)) rows (no_bad_row-rest first rows good) os row later (cc)

-- a row with a standing says this standing
abbrev HasWhatItSays : FinMap text_cmp DeveloperModel → RollRow → Type 0
HasWhatItSays m row = IsSomeAnd (standing_of row.status) (λ standing. get m row.login ≡ Some (record { name = row.name; standing = standing }))

what_it_says : (m : FinMap text_cmp DeveloperModel) (row : RollRow) → ¬ (standing_of row.status ≡ None)
    → get m row.login ≡ Some (developer_in row) → HasWhatItSays m row
what_it_says m row refused is =
    elim (standing_of row.status) as (λ o. ¬ (o ≡ None)
    → get m row.login ≡ Some (record { name = row.name; standing = unwrap_or o Retired })
    → IsSomeAnd o (λ standing. get m row.login ≡ Some (record { name = row.name; standing = standing }))) [
      | None ↦ λ some there. absurd (some refl)
      | Some standing ↦ λ some there. there
    ] refused is

-- an accepted import puts its rows
pub puts_rows : ImportsPutTheirRows
puts_rows s at rows reply t step =
    let good = no_bad_row-from_none rows (λ line. step.0 (BadRoll line)) in
    let is : t.developers ≡ imported s.developers rows = ap (λ (u : State). u.developers) step.2 in
    let there : EachRow (HasWhatItSays (imported s.developers rows)) rows = λ others row later whole.
    what_it_says (imported s.developers rows) row
    (λ none. good others (record { row = row; later = later; whole = whole; bad = inr (inr (inl none)) }))
    (get-imported s.developers rows good others row later whole) in (
      subst (λ m. All (HasWhatItSays m) rows) (sym is)
          (All-from_recursion (HasWhatItSays (imported s.developers rows)) rows
          (each-all (HasWhatItSays (imported s.developers rows)) rows there)),
      λ other unnamed. ap (λ m. get m other) is
          ∙ get-imported_others s.developers rows other (λ others row later whole same.
          let named : has_login other rows ≡ true =
          ap (λ login. has_login login rows) (sym same) ∙ login_of_row rows others row later whole in
          let never : false ≡ true = sym unnamed ∙ named in cc),
    )

-- ==== what is counted

-- a row is one of three kinds
one_kind : (kind : Novelty)
    → cond (is_same_novelty kind Added) 1 0 + cond (is_same_novelty kind Changed) 1 0 + cond (is_same_novelty kind Same) 1 0
    ≡ 1
one_kind Added = refl
one_kind Changed = refl
one_kind Same = refl

-- how many do something, with one row more
row_count-cons : (m : FinMap text_cmp DeveloperModel) (row : RollRow) (rows : List RollRow) (kind : Novelty)
    → row_count m (row ∷ rows) kind ≡ cond (is_same_novelty (novelty m row) kind) 1 0 + row_count m rows kind
row_count-cons m row rows kind = sum_by-cons (λ r. cond (is_same_novelty (novelty m r) kind) 1 0) row rows

all_counted : (m : FinMap text_cmp DeveloperModel) (rows : List RollRow)
    → row_count m rows Added + row_count m rows Changed + row_count m rows Same ≡ length rows
all_counted m [] = refl
all_counted m (row ∷ rows) =
    let rest = all_counted m rows in
    let here = one_kind (novelty m row) in
    let added = row_count-cons m row rows Added in
    let changed = row_count-cons m row rows Changed in
    let same = row_count-cons m row rows Same in
    omega arith

-- each row of an accepted import is counted once
pub counts_rows : ImportsCountTheirRows
counts_rows s at rows reply t step =
    (counts_of s.developers rows, ap (λ (answer : Reply). answer.note) step.1, all_counted s.developers rows)
