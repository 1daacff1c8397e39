-- Rolls that are imported.
use Rattle.std.proofs.Common.{◌≡◌, ℕ, zero, suc, ◌+◌, ◌<◌, ◌≤◌, ◌⊎◌, inl, inr, Bool, true, false, cond, List, [], ◌∷◌, ◌++◌, length, map, take, get_or, slice_get, Option, Some, None, is_some, refl, sym, ap, ◌∙◌, subst, arith}
use Rattle.std.specs.Prelude.{◌||◌, ◌&&◌, not}
use Rattle.std.specs.Str.{bytes_eq}
use Rattle.std.specs.FinMap.{FinMap, get, insert, len, get-insert, len-insert}
use Rattle.std.specs.Ordering.{eq_by_cmp, ordering_reverse}
use Rattle.std.specs.declared.cmp.Ordering.TheVariants.{Less, Greater}
use Rattle.std.proofs.lemmas.Bool.{cases_Bool}
use Rattle.std.proofs.lemmas.List.{append_assoc, map_more}
use Rattle.std.proofs.lemmas.Option.{slice_get_read, get_or_from_slice_get}
use Rattle.gr_core.specs.declared.import.RollRow as rust
use Rattle.std.proofs.lemmas.Map.Text.{is_eq-slice_cmp}
use Rattle.std.proofs.lemmas.Slice.Eq.{bytes_eq-Decides}
use Rattle.gr_core.specs.declared.developer.Standing.{Standing}
use Rattle.gr_core.specs.declared.developer.Standing.TheVariants.{Current, Retired}
use Rattle.gr_core.specs.declared.import.Novelty.TheVariants.{Changed, Same}
use Rattle.gr_core.specs.Parts.Key.{text_cmp}
use Rattle.gr_core.specs.Parts.Developer.{DeveloperModel}
use Rattle.gr_core.specs.Machine.Import.{RollRow, roll_row, developer_in, imported, has_login, is_new, AreUpTo, IsAbove, IsBadRow, HasBadRowBehind, HasNoBadRow, IsFirstBadLine}
use Rattle.gr_core.specs.Machine.Import.{is_same_standing, is_same_developer, is_same_novelty, novelty_to}
use Rattle.gr_core.proofs.Collections.TextKeys.{text_total}
use Rattle.gr_core.proofs.Collections.ListLemmas.{nothing_behind, split_last, shorter_split}

pub no_bad_row-nil : HasNoBadRow []
no_bad_row-nil others behind = nothing_behind others behind.row behind.later behind.whole

-- rows without a bad one stay so with one more that is not
pub no_bad_row-more : (rows : List RollRow) (row : RollRow) → HasNoBadRow rows → ¬ (IsBadRow rows row) → HasNoBadRow (rows ++ row ∷ [])
no_bad_row-more rows row none good others behind =
    elim (split_last rows row others behind.row behind.later behind.whole) [
      | inl last ↦ good (subst (λ r. IsBadRow rows r) last.1 (subst (λ os. IsBadRow os behind.row) last.0 behind.bad))
      | inr inside ↦ none others (record { row = behind.row; later = inside.0; whole = inside.1; bad = behind.bad })
    ]

-- the rows after the first have no bad one either
pub no_bad_row-rest : (row : RollRow) (rows : List RollRow) → HasNoBadRow (row ∷ rows) → HasNoBadRow rows
no_bad_row-rest row rows none others behind =
    none (row ∷ others) (record {
      row = behind.row;
      later = behind.later;
      whole = ap (λ rs. row ∷ rs) behind.whole;
      bad = elim behind.bad [
        | inl login ↦ inl login
        | inr rest ↦ inr (elim rest [
          | inl name ↦ inl name
          | inr rest ↦ inr (elim rest [
            | inl status ↦ inl status
            | inr twice ↦ inr (let found : has_login behind.row.login others ≡ true = twice in
                elim (bytes_eq behind.row.login row.login) as (λ b. (b || has_login behind.row.login others) ≡ true) [ true ↦ refl | false ↦ found ])
          ])
        ])
      ];
    })

imported-append : (m : FinMap text_cmp DeveloperModel) (xs ys : List RollRow) → imported m (xs ++ ys) ≡ imported (imported m xs) ys
imported-append m [] ys = refl
imported-append m (x ∷ xs) ys = imported-append (insert m x.login (developer_in x)) xs ys

pub same_login : (a b : List ℕ) → eq_by_cmp text_cmp a b ≡ bytes_eq a b
same_login a b = is_eq-slice_cmp a b

pub is_some-cond : {A : Type 0} (b : Bool) (x : A) (o : Option A) → is_some (cond b (Some x) o) ≡ (b || is_some o)
is_some-cond true x o = refl
is_some-cond false x o = refl

moved : (a b c : Bool) → (b || (a || c)) ≡ ((a || b) || c)
moved true true c = refl
moved true false c = refl
moved false true c = refl
moved false false c = refl

-- a login is on the roll with some rows if it is in one of the rows or on the roll
pub is_some-imported : (m : FinMap text_cmp DeveloperModel) (rows : List RollRow) (q : List ℕ)
    → is_some (get (imported m rows) q) ≡ (has_login q rows || is_some (get m q))
is_some-imported m [] q = refl
is_some-imported m (row ∷ rows) q =
    let here : is_some (get (insert m row.login (developer_in row)) q) ≡ (bytes_eq q row.login || is_some (get m q)) =
    ap is_some (get-insert text_total m row.login (developer_in row) q)
    ∙ is_some-cond (eq_by_cmp text_cmp q row.login) (developer_in row) (get m q)
    ∙ ap (λ b. b || is_some (get m q)) (same_login q row.login)
    in
    is_some-imported (insert m row.login (developer_in row)) rows q
    ∙ ap (λ b. has_login q rows || b) here
    ∙ moved (bytes_eq q row.login) (has_login q rows) (is_some (get m q))

one_more : (a b : Bool) (n : ℕ) → cond (a || b) n (n + 1) ≡ n + cond (not b && not a) 1 0
one_more true true n = omega arith
one_more true false n = omega arith
one_more false true n = omega arith
one_more false false n = refl

-- one more row adds a login if it is new to the roll and to the rows before it
pub len-imported-more : (m : FinMap text_cmp DeveloperModel) (rows : List RollRow) (row : RollRow)
    → len (imported m (rows ++ row ∷ [])) ≡ len (imported m rows) + cond (is_new m rows row) 1 0
len-imported-more m rows row =
    let before = imported m rows in
    ap len (imported-append m rows (row ∷ []))
    ∙ len-insert text_total before row.login (developer_in row)
    ∙ ap (λ b. cond b (len before) (len before + 1)) (is_some-imported m rows row.login)
    ∙ one_more (has_login row.login rows) (is_some (get m row.login)) (len before)

-- no bad row stands before the first one
not_before : (rows : List RollRow) (a b : ℕ) → IsFirstBadLine rows a → IsFirstBadLine rows b → a < b → ⊥
not_before rows a b one other less =
    let here = one.line_is in
    let there = other.line_is in
    let inside = shorter_split one.others one.behind.row one.behind.later other.others other.behind.row other.behind.later
    (sym one.behind.whole ∙ other.behind.whole) (omega arith)
    in
    other.first one.others (record { row = one.behind.row; later = inside.0; whole = inside.1; bad = one.behind.bad })

-- the first bad row has one line
pub one_bad_line : (rows : List RollRow) (a b : ℕ) → IsFirstBadLine rows a → IsFirstBadLine rows b → a ≡ b
one_bad_line rows a b one other =
    let not_less : a < b → ⊥ = not_before rows a b one other in
    let not_more : b < a → ⊥ = not_before rows b a other one in
    omega arith

pub has_login-first : (login : List ℕ) (row : RollRow) (rows : List RollRow) → login ≡ row.login → has_login login (row ∷ rows) ≡ true
has_login-first login row rows same = ap (λ b. b || has_login login rows) ((bytes_eq-Decides login row.login).1 same)

-- two rows of an import without a bad one have different logins
pub logins_differ : (row : RollRow) (rows : List RollRow) → HasNoBadRow (row ∷ rows)
    → (others : List RollRow) (other : RollRow) (later : List RollRow) → rows ≡ others ++ other ∷ later → other.login ≡ row.login → ⊥
logins_differ row rows good others other later whole same =
    good (row ∷ others) (record {
      row = other;
      later = later;
      whole = ap (λ rs. row ∷ rs) whole;
      bad = inr (inr (inr (has_login-first other.login row others same)));
    })

longer : {A : Type 0} (xs : List A) (y : A) (ys : List A) → length xs < length (xs ++ y ∷ ys)
longer [] y ys = omega arith
longer (x ∷ xs) y ys = let rest = longer xs y ys in omega arith

none_behind : (rows : List RollRow) → ((line : ℕ) → ¬ (IsFirstBadLine rows line))
    → (n : ℕ) (others : List RollRow) → length others < n → ¬ (HasBadRowBehind rows others)
none_behind rows none zero others below behind = absurd (let never : length others < 0 = below in omega arith)
none_behind rows none (suc n) others below behind =
    none (length others + 2) (record {
      others = others;
      behind = behind;
      first = λ fewer nearer.
          let shorter : length fewer < length others = subst (λ os. length fewer < length os) (sym nearer.whole) (longer fewer nearer.row nearer.later) in
          none_behind rows none n fewer (omega arith) (record {
            row = nearer.row;
            later = nearer.later ++ behind.row ∷ behind.later;
            whole = behind.whole ∙ ap (λ os. os ++ behind.row ∷ behind.later) nearer.whole
                ∙ append_assoc fewer (nearer.row ∷ nearer.later) (behind.row ∷ behind.later);
            bad = nearer.bad;
          });
      line_is = refl;
    })

-- an import that has no first bad row has none
pub no_bad_row-from_none : (rows : List RollRow) → ((line : ℕ) → ¬ (IsFirstBadLine rows line)) → HasNoBadRow rows
no_bad_row-from_none rows none others = none_behind rows none (length others + 1) others (omega arith)

same_standing : (a b : Standing) → is_same_standing a b ≡ true → a ≡ b
same_standing Current Current e = refl
same_standing Retired Retired e = refl
same_standing Current Retired e = absurd (let never : false ≡ true = e in cc)
same_standing Retired Current e = absurd (let never : false ≡ true = e in cc)

one_developer : (a b : DeveloperModel) → a.name ≡ b.name → a.standing ≡ b.standing → a ≡ b
one_developer a b names standings = λ i. record { name = names i; standing = standings i }

same_developer : (a b : DeveloperModel) → is_same_developer a b ≡ true → a ≡ b
same_developer a b e =
    elim (bytes_eq a.name b.name) as (λ q. bytes_eq a.name b.name ≡ q → (q && is_same_standing a.standing b.standing) ≡ true → a ≡ b) [
      | true ↦ λ names standings. one_developer a b ((bytes_eq-Decides a.name b.name).0 names) (same_standing a.standing b.standing standings)
      | false ↦ λ names never. absurd (let no : false ≡ true = never in cc)
    ] refl e

-- a row that does nothing to the roll is there
pub same_row : (found : Option DeveloperModel) (row : DeveloperModel) → is_same_novelty (novelty_to found row) Same ≡ true → found ≡ Some row
same_row None row e = absurd (let never : false ≡ true = e in cc)
same_row (Some found) row e =
    elim (is_same_developer found row) as (λ b. is_same_developer found row ≡ b → is_same_novelty (cond b Same Changed) Same ≡ true → Some found ≡ Some row) [
      | true ↦ λ same is. ap Some (same_developer found row same)
      | false ↦ λ differs never. absurd (let no : false ≡ true = never in cc)
    ] refl e

-- ==== rows whose logins rise

-- a row that is above all of these has the login of none
pub not_among : (rows : List RollRow) (row highest : RollRow) → AreUpTo rows highest → IsAbove row highest
    → has_login row.login rows ≡ false
not_among [] row highest are above = refl
not_among (other ∷ rows) row highest are above =
    elim (cases_Bool (bytes_eq row.login other.login)) [
      | inl same ↦
          let login : row.login ≡ other.login = (bytes_eq-Decides row.login other.login).0 same in
          absurd (are.0 (subst (λ l. text_cmp highest.login l ≡ Less) login above))
      | inr other_login ↦ rw other_login (not_among rows row highest are.1 above)
    ]

-- one more that is not above the highest
pub up_to_more : (rows : List RollRow) (row highest : RollRow) → AreUpTo rows highest → ¬ (IsAbove row highest)
    → AreUpTo (rows ++ row ∷ []) highest
up_to_more [] row highest are not = (not, tt)
up_to_more (other ∷ rows) row highest are not = (are.0, up_to_more rows row highest are.1 not)

-- nor is one of them above a row that is above the highest
up_to_above : (rows : List RollRow) (row highest : RollRow) → AreUpTo rows highest → IsAbove row highest → AreUpTo rows row
up_to_above [] row highest are above = tt
up_to_above (other ∷ rows) row highest are above =
    (λ further. are.0 (text_total.trans highest.login row.login other.login above further), up_to_above rows row highest are.1 above)

not_above_itself : (row : RollRow) → ¬ (IsAbove row row)
not_above_itself row above =
    let turned = text_total.antisymm row.login row.login in
    let never : Less ≡ Greater = sym above ∙ turned ∙ ap ordering_reverse above in
    absurd (cc)

-- it is the highest then
pub up_to_itself : (rows : List RollRow) (row highest : RollRow) → AreUpTo rows highest → IsAbove row highest
    → AreUpTo (rows ++ row ∷ []) row
up_to_itself rows row highest are above =
    up_to_more rows row row (up_to_above rows row highest are above) (not_above_itself row)

-- the highest of the first rows of a list, where it is read
pub highest_read : (rows : List rust.RollRow) (k highest : ℕ) (read : rust.RollRow) → k < length rows → highest ≤ k
    → read ≡ get_or rows highest read
    → ((row : rust.RollRow) → slice_get rows highest ≡ Some row → AreUpTo (map roll_row (take k rows)) (roll_row row))
    → AreUpTo (map roll_row (take k rows)) (roll_row read)
highest_read rows k highest read below within is are =
    are read (slice_get_read rows (length rows) highest read refl (omega (arith, below, within)) is)

-- and with one row more
pub highest_next : (rows : List rust.RollRow) (k highest next : ℕ) (row read : rust.RollRow) → k < length rows → row ≡ get_or rows k row
    → highest ≤ k → read ≡ get_or rows highest read
    → ((row : rust.RollRow) → slice_get rows highest ≡ Some row → AreUpTo (map roll_row (take k rows)) (roll_row row))
    → ((next ≡ k) × IsAbove (roll_row row) (roll_row read)) ⊎ ((next ≡ highest) × (¬ (IsAbove (roll_row row) (roll_row read))))
    → (last : rust.RollRow) → slice_get rows next ≡ Some last → AreUpTo (map roll_row (take (k + 1) rows)) (roll_row last)
highest_next rows k highest next row read below row_is within read_is are (inl (next_is, above)) last at =
    let same : row ≡ last = row_is ∙ get_or_from_slice_get rows k last row (ap (slice_get rows) (sym next_is) ∙ at) in
    let before = highest_read rows k highest read below within read_is are in
    subst (λ these. AreUpTo these (roll_row last))
    (sym (map_more roll_row rows k row below ∙ ap (λ r. map roll_row (take k rows) ++ roll_row r ∷ []) (sym row_is)))
    (subst (λ r. AreUpTo (map roll_row (take k rows) ++ roll_row row ∷ []) (roll_row r)) same
    (up_to_itself (map roll_row (take k rows)) (roll_row row) (roll_row read) before above))
highest_next rows k highest next row read below row_is within read_is are (inr (next_is, not)) last at =
    let there : slice_get rows highest ≡ Some last = ap (slice_get rows) (sym next_is) ∙ at in
    let same : read ≡ last = read_is ∙ get_or_from_slice_get rows highest last read there in
    subst (λ these. AreUpTo these (roll_row last))
    (sym (map_more roll_row rows k row below ∙ ap (λ r. map roll_row (take k rows) ++ roll_row r ∷ []) (sym row_is)))
    (up_to_more (map roll_row (take k rows)) (roll_row row) (roll_row last) (are last there)
    (λ above. not (subst (λ r. IsAbove (roll_row row) (roll_row r)) (sym same) above)))
