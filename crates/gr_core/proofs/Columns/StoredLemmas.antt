-- The rows of a table, for keys, rows and columns of any kind.
use Rattle.std.proofs.Common.{◌≡◌, ℕ, ◌<◌, ◌⊎◌, inl, inr, List, [], ◌∷◌, ◌++◌, length, Option, Some, None, is_some, true, false, refl, sym, ap, ◌∙◌, subst, arith, zero, suc}
use Rattle.std.specs.List.{Contains, slice_get}
use Rattle.std.specs.declared.cmp.Ordering.{Ordering}
use Rattle.std.specs.Cmp.{IsTotalOrder}
use Rattle.std.specs.FinMap.{FinMap, IsAntisymmetric, get, insert, empty, get-empty, same_map}
use Rattle.std.proofs.lemmas.Option.{slice_get_within, get_or_from_slice_get, slice_get-get_or}
use Rattle.std.proofs.lemmas.List.Elements.{Contains-append_left, Contains-append_right, Contains-append_cases}
use Rattle.gr_core.specs.Columns.Fields.{Field}
use Rattle.gr_core.specs.Columns.Stored.{EachOnce, IsTableOf}
use Rattle.gr_core.proofs.Collections.RowPutLemmas.{insert_cases, get-put, get-put_other}

-- ==== lists

pub place_of : {A : Type 0} (xs : List A) (x : A) → Contains xs x → (i : ℕ) × (slice_get xs i ≡ Some x)
place_of xs x has = (has.0, slice_get-get_or xs has.0 x has.1 ∙ ap Some has.2)

pub contained : {A : Type 0} (xs : List A) (x : A) (i : ℕ) → slice_get xs i ≡ Some x → Contains xs x
contained xs x i at = (i, slice_get_within xs i x at, get_or_from_slice_get xs i x x at)

pub one : {A : Type 0} (x : A) → Contains (x ∷ []) x
one x = contained (x ∷ []) x zero refl

pub one_only : {A : Type 0} (x y : A) → Contains (x ∷ []) y → x ≡ y
one_only x y (zero, below, at) = at
one_only x y (suc k, below, at) = absurd (omega arith)

last_cases : {A : Type 0} (xs : List A) (x : A) (i : ℕ) (y : A) → slice_get (xs ++ x ∷ []) i ≡ Some y
    → (slice_get xs i ≡ Some y) ⊎ ((i ≡ length xs) × (x ≡ y))
last_cases [] x zero y e = inr (refl, cc)
last_cases [] x (suc i) y e = absurd (let never : None ≡ Some y = e in cc)
last_cases (z ∷ xs) x zero y e = inl e
last_cases (z ∷ xs) x (suc i) y e = elim (last_cases xs x i y e) [
  | inl p ↦ inl p
  | inr p ↦ inr (ap suc p.0, p.1)
]

-- a row that does not stand in a list comes once after it
once_more : (rows : List (List Field)) (row : List Field) → EachOnce rows → ((i : ℕ) → slice_get rows i ≡ Some row → ⊥)
    → EachOnce (rows ++ row ∷ [])
once_more rows row once apart i j x at_i at_j =
    elim (last_cases rows row i x at_i) [
      | inl p ↦ elim (last_cases rows row j x at_j) [
        | inl q ↦ once i j x p q
        | inr q ↦ absurd (apart i (p ∙ ap Some (sym q.1)))
      ]
      | inr p ↦ elim (last_cases rows row j x at_j) [
        | inl q ↦ absurd (apart j (q ∙ ap Some (sym p.1)))
        | inr q ↦ p.0 ∙ sym q.0
      ]
    ]

ahead : {A : Type 0} (xs ys : List A) (i : ℕ) (x : A) → slice_get xs i ≡ Some x → slice_get (xs ++ ys) i ≡ Some x
ahead [] ys i x e = absurd (let never : None ≡ Some x = e in cc)
ahead (z ∷ xs) ys zero x e = e
ahead (z ∷ xs) ys (suc i) x e = ahead xs ys i x e

seam : {A : Type 0} (xs : List A) (x : A) (ys : List A) → slice_get (xs ++ x ∷ ys) (length xs) ≡ Some x
seam [] x ys = refl
seam (z ∷ xs) x ys = seam xs x ys

-- a row after a list that has it comes twice
pub twice : (rows : List (List Field)) (row : List Field) (behind : List (List Field)) → Contains rows row
    → EachOnce (rows ++ row ∷ behind) → ⊥
twice rows row behind has once =
    let first = place_of rows row has in
    let within : first.0 < length rows = slice_get_within rows first.0 row first.1 in
    let at_first : slice_get (rows ++ row ∷ behind) first.0 ≡ Some row = ahead rows (row ∷ behind) first.0 row first.1 in
    let same : first.0 ≡ length rows = once first.0 (length rows) row at_first (seam rows row behind) in
    omega arith

same_option : {A : Type 0} (o p : Option A) → ((x : A) → o ≡ Some x → p ≡ Some x) → ((x : A) → p ≡ Some x → o ≡ Some x) → o ≡ p
same_option (Some x) p to from = sym (to x refl)
same_option None (Some x) to from = from x refl
same_option None None to from = refl

some_value : {A : Type 0} (o : Option A) → is_some o ≡ true → (x : A) × (o ≡ Some x)
some_value (Some x) is = (x, refl)
some_value None is = absurd (let never : false ≡ true = is in cc)

no_value : {A : Type 0} (o : Option A) → is_some o ≡ false → o ≡ None
no_value (Some x) is = absurd (let never : true ≡ false = is in cc)
no_value None is = refl

-- ==== tables

-- the row of an entry tells the key
abbrev pub TellsKey : {K V : Type 0} → (K × V → List Field) → Type 0
TellsKey {K} {V} fields = (p q : K) (v w : V) → fields (p, v) ≡ fields (q, w) → p ≡ q

-- and all of an entry that columns can keep
abbrev pub TellsEntry : {K V : Type 0} → (K × V → List Field) → (K → V → Type 0) → Type 0
TellsEntry {K} {V} fields Fits = (a b : K × V) → Fits a.0 a.1 → Fits b.0 b.1 → fields a ≡ fields b → a ≡ b

module _ {K V : Type 0} {cmp : K → K → Ordering} (total : IsTotalOrder cmp) (only : IsAntisymmetric cmp)
    (fields : K × V → List Field) (Fits : K → V → Type 0) where
  -- a table with nothing in it has no rows
  pub no_rows : IsTableOf fields Fits [] (empty {R = cmp})
  no_rows = record {
    rows = record {
      known = λ row has. absurd (let below : has.0 < 0 = has.1 in omega arith);
      whole = λ key value there. absurd (let never : None ≡ Some value = sym (get-empty cmp key) ∙ there in cc);
      once = λ i j row at. absurd (let never : None ≡ Some row = at in cc);
    };
    fits = λ key value there. absurd (let never : None ≡ Some value = sym (get-empty cmp key) ∙ there in cc);
  }

  added : TellsKey fields → (table : FinMap cmp V) (rows : List (List Field)) (key : K) (value : V)
      → get table key ≡ None → Fits key value → IsTableOf fields Fits rows table
      → IsTableOf fields Fits (rows ++ fields (key, value) ∷ []) (insert table key value)
  added tells table rows key value new fit are =
      let row : List Field = fields (key, value) in
      let other = λ (q : K) (found : V) (there : get table q ≡ Some found) (same : q ≡ key).
      let never : None ≡ Some found = sym new ∙ ap (get table) (sym same) ∙ there in
      let nothing : ⊥ = cc in nothing in
      record {
        rows = record {
          known = λ r has. elim (Contains-append_cases rows (row ∷ []) r has) [
            | inl before ↦
                let entry = are.rows.known r before in
                (entry.0, entry.1, get-put_other total only table key entry.0 value (other entry.0 entry.1 entry.2) ∙ entry.2, entry.3)
            | inr last ↦ (key, value, get-put total only table key value, one_only row r last)
          ];
          whole = λ q found there. elim (insert_cases total only table key q value found there) [
            | inl same ↦
                subst (λ e. Contains (rows ++ row ∷ []) (fields e)) (let e : (key, value) ≡ (q, found) = cc in e)
                (Contains-append_right rows (row ∷ []) row (one row))
            | inr before ↦ Contains-append_left rows (row ∷ []) (fields (q, found)) (are.rows.whole q found before)
          ];
          once = once_more rows row are.rows.once (λ i at.
              let entry = are.rows.known row (contained rows row i at) in
              other entry.0 entry.1 entry.2 (tells entry.0 key entry.1 value entry.3));
        };
        fits = λ q found there. elim (insert_cases total only table key q value found there) [
          | inl same ↦ subst (λ p. Fits p found) (sym same.0) (subst (Fits key) same.1 fit)
          | inr before ↦ are.fits q found before
        ];
      }

  -- a new entry adds its row
  pub row_added : TellsKey fields → (table more : FinMap cmp V) (rows now : List (List Field)) (key : K) (value : V)
      (row : List Field) → is_some (get table key) ≡ false → Fits key value → fields (key, value) ≡ row
      → more ≡ insert table key value → now ≡ rows ++ row ∷ [] → IsTableOf fields Fits rows table
      → IsTableOf fields Fits now more
  row_added tells table more rows now key value row new fit is put_it behind are =
      subst (λ t. IsTableOf fields Fits now t) (sym put_it)
      (subst (λ these. IsTableOf fields Fits these (insert table key value)) (sym (behind ∙ ap (λ r. rows ++ r ∷ []) (sym is)))
      (added tells table rows key value (no_value (get table key) new) fit are))

  -- a row that is that of no entry which columns can keep stands in no table's rows
  pub not_read : (all rows : List (List Field)) (row : List Field) (behind : List (List Field)) → all ≡ rows ++ row ∷ behind
      → ((key : K) (value : V) → Fits key value → fields (key, value) ≡ row → ⊥)
      → (table : FinMap cmp V) → IsTableOf fields Fits all table → ⊥
  not_read all rows row behind split unread table are =
      let here : slice_get all (length rows) ≡ Some row = ap (λ these. slice_get these (length rows)) split ∙ seam rows row behind in
      let entry = are.rows.known row (contained all row (length rows) here) in
      unread entry.0 entry.1 (are.fits entry.0 entry.1 entry.2) entry.3

  twice_with : TellsKey fields → (read : FinMap cmp V) (rows : List (List Field)) (key : K) (value : V)
      (behind : List (List Field)) (there : V) → get read key ≡ Some there → IsTableOf fields Fits rows read
      → (table : FinMap cmp V) → IsTableOf fields Fits (rows ++ fields (key, value) ∷ behind) table → ⊥
  twice_with tells read rows key value behind there found before table are =
      let row : List Field = fields (key, value) in
      let all : List (List Field) = rows ++ row ∷ behind in
      let earlier : List Field = fields (key, there) in
      let stands : Contains rows earlier = before.rows.whole key there found in
      let first = are.rows.known earlier (Contains-append_left rows (row ∷ behind) earlier stands) in
      let second = are.rows.known row (contained all row (length rows) (seam rows row behind)) in
      let first_key : first.0 ≡ key = tells first.0 key first.1 there first.3 in
      let second_key : second.0 ≡ key = tells second.0 key second.1 value second.3 in
      let first_found : get table key ≡ Some first.1 = ap (get table) (sym first_key) ∙ first.2 in
      let second_found : get table key ≡ Some second.1 = ap (get table) (sym second_key) ∙ second.2 in
      let values : first.1 ≡ second.1 = cc in
      let entries : (first.0, first.1) ≡ (second.0, second.1) = cc in
      let same : earlier ≡ row = sym first.3 ∙ ap fields entries ∙ second.3 in
      twice rows row behind (subst (Contains rows) same stands) are.rows.once

  -- a second row with a key stands in no table's rows
  pub key_twice : TellsKey fields → (read : FinMap cmp V) (all rows : List (List Field)) (row : List Field)
      (behind : List (List Field)) → all ≡ rows ++ row ∷ behind → (key : K) (value : V) → fields (key, value) ≡ row
      → is_some (get read key) ≡ true → IsTableOf fields Fits rows read
      → (table : FinMap cmp V) → IsTableOf fields Fits all table → ⊥
  key_twice tells read all rows row behind split key value is found before table are =
      let there = some_value (get read key) found in
      twice_with tells read rows key value behind there.0 there.1 before table
      (subst (λ these. IsTableOf fields Fits these table) (split ∙ ap (λ r. rows ++ r ∷ behind) (sym is)) are)

  found_too : TellsEntry fields Fits → (s t : FinMap cmp V) (rows : List (List Field)) → IsTableOf fields Fits rows s
      → IsTableOf fields Fits rows t → (key : K) (value : V) → get s key ≡ Some value → get t key ≡ Some value
  found_too tells s t rows are_s are_t key value found =
      let entry = are_t.rows.known (fields (key, value)) (are_s.rows.whole key value found) in
      let told : (entry.0, entry.1) ≡ (key, value) =
      tells (entry.0, entry.1) (key, value) (are_t.fits entry.0 entry.1 entry.2) (are_s.fits key value found) entry.3 in
      ap (λ (e : K × V). get t e.0) (sym told) ∙ entry.2 ∙ ap (λ (e : K × V). Some e.1) told

  -- two tables with the same rows are one
  pub same_rows : TellsEntry fields Fits → (s t : FinMap cmp V) (rows : List (List Field)) → IsTableOf fields Fits rows s
      → IsTableOf fields Fits rows t → s ≡ t
  same_rows tells s t rows are_s are_t =
      same_map total only s t (λ key.
      same_option (get s key) (get t key) (found_too tells s t rows are_s are_t key) (found_too tells t s rows are_t are_s key))
