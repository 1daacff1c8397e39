-- The choices of a desk after an act put rows: new choices have new keys, and rows of others stay.
use Rattle.std.proofs.Common.{◌≡◌, ℕ, ◌+◌, ◌≤◌, ◌⊎◌, inl, inr, true, false, cond, List, [], ◌∷◌, length, Some, None, is_some, IsSome, IsSomeAnd, refl, sym, ap, ◌∙◌, subst, arith}
use Rattle.std.specs.Prelude.{nat_eq}
use Rattle.std.specs.declared.cmp.Ordering.{Ordering}
use Rattle.std.specs.declared.cmp.Ordering.TheVariants.{Equal}
use Rattle.std.specs.Ordering.{eq_by_cmp}
use Rattle.std.specs.Cmp.{IsTotalOrder, nat_eq_equiv}
use Rattle.std.specs.Option.{option_or}
use Rattle.std.specs.FinMap.{FinMap, IsAntisymmetric, get, insert, len, entries, find, get-insert, get-entries}
use Rattle.std.specs.FinMap.Entries.{find-where_key}
use Rattle.gr_core.specs.declared.choice.ChoiceKey.{ChoiceKey}
use Rattle.gr_core.specs.Parts.Key.{choice_cmp}
use Rattle.gr_core.specs.Machine.Map.{changed_at, changed_where, with_rows}
use Rattle.gr_core.specs.Parts.Choice.{ChoiceModel, choice_key, choices_of}
use Rattle.gr_core.specs.Machine.Bookkeeping.{is_live}
use Rattle.gr_core.specs.Desks.State.{State}
use Rattle.gr_core.specs.Machine.Effect.{first_choice_key, next_choice_key, live_choices, placed}
use Rattle.gr_core.specs.Desks.Valid.{AreTables, IsChoice}
use Rattle.gr_core.proofs.Collections.TableLemmas.{tied}
use Rattle.gr_core.proofs.Collections.PresenceLemmas.{not_None, taken, given, is_given}
use Rattle.gr_core.proofs.Collections.PairKeys.{choice_total, choice_only}
use Rattle.gr_core.proofs.Contents.PlaceLemmas.{live_among}
use Rattle.gr_core.proofs.Contents.PlacingLemmas.{Entry, at_place, sorted-placed, was-live}
use Rattle.gr_core.proofs.Collections.RowsInOrderLemmas.{get-with_rows}
use Rattle.gr_core.proofs.Validity.CallValidLemmas.{choices_of-sorted, found-choice}

-- ==== new keys

module _ (clock : ℕ) (s : State) (valid : AreTables clock s) (key : ChoiceKey) (row : ChoiceModel)
    (there : get s.choices key ≡ Some row) where
  -- a choice that is there is not the first one of a new resolution
  pub not_first : key ≡ first_choice_key s → ⊥
  not_first same =
      let old = taken (get s.resolutions key.resolution) (λ resolution. IsChoice clock s.developers resolution row)
      (valid.choices key row there) in
      let high : key.resolution ≤ len s.resolutions
      = ((valid.numbered.numbered key.resolution).0 (is_given (get s.resolutions key.resolution) old.0 old.1)).1 in
      let next : key.resolution ≡ len s.resolutions + 1 = ap (λ (k : ChoiceKey). k.resolution) same in
      omega arith

  -- nor is it the next one of a resolution
  pub not_next : (number : ℕ) → key ≡ next_choice_key s number → ⊥
  not_next number same =
      let count = length (choices_of s.choices number) in
      let on : key.resolution ≡ number = ap (λ (k : ChoiceKey). k.resolution) same in
      let old = taken (get s.resolutions key.resolution) (λ resolution. IsChoice clock s.developers resolution row)
      (valid.choices key row there) in
      let was = valid.resolutions number old.0 (ap (get s.resolutions) (sym on) ∙ old.1) in
      let found : IsSome (get s.choices (choice_key number (count + 1)))
      = is_given (get s.choices (choice_key number (count + 1))) row (ap (get s.choices) (sym same) ∙ there) in
      let high : count + 1 ≤ count = ((was.numbered (count + 1)).0 found).1 in
      omega arith

-- ==== facts of rows

module _ {J R : Type 0} {cmp : J → J → Ordering} (total : IsTotalOrder cmp) (only : IsAntisymmetric cmp)
    (m : FinMap cmp R) (key q : J) (P : R → Type 0) where
  -- a fact of a row stays where another row is put under another key, or one with the fact
  pub given-insert : (row : R) → (q ≡ key → P row) → IsSomeAnd (get m q) P → IsSomeAnd (get (insert m key row) q) P
  given-insert row here before =
      elim (eq_by_cmp cmp q key) as (λ b. eq_by_cmp cmp q key ≡ b → IsSomeAnd (get (insert m key row) q) P) [
        | true ↦ λ same.
            given (get (insert m key row) q) P row
            (get-insert total m key row q ∙ ap (λ b. cond b (Some row) (get m q)) same)
            (here (only q key (tied _ same)))
        | false ↦ λ other.
            let old = taken (get m q) P before in
            given (get (insert m key row) q) P old.0
            (get-insert total m key row q ∙ ap (λ b. cond b (Some row) (get m q)) other ∙ old.1) old.2
      ] refl

  -- a fact of a row stays where a row changes that keeps it
  pub given-changed_at : (change : R → R) → ((row : R) → get m key ≡ Some row → P row → P (change row))
      → IsSomeAnd (get m q) P → IsSomeAnd (get (changed_at m key change) q) P
  given-changed_at change keeps before =
      elim (get m key) as (λ o. get m key ≡ o → IsSomeAnd (get (changed_where m key change o) q) P) [
        | None ↦ λ none. before
        | Some row ↦ λ there.
            given-insert (change row)
            (λ same. keeps row there (subst (λ o. IsSomeAnd o P) (ap (get m) same ∙ there) before)) before
      ] refl

-- ==== a call

-- a live choice of a list gets a place
live-placed : (at place : ℕ) (es : List Entry) (q : ChoiceKey) (row : ChoiceModel) → find choice_cmp q es ≡ Some row
    → is_live at row ≡ true → IsSome (find choice_cmp q (placed place (live_among at es)))
live-placed at place [] q row there lives = absurd (not_None row there)
live-placed at place (e ∷ es) q row there lives =
    elim (is_live at e.1) as (λ b. is_live at e.1 ≡ b
    → IsSome (find choice_cmp q (placed place (cond b (e ∷ live_among at es) (live_among at es))))) [
      | true ↦ λ alive.
          elim (eq_by_cmp choice_cmp q e.0) as (λ c. cond c (Some e.1) (find choice_cmp q es) ≡ Some row
          → IsSome (cond c (Some (at_place e.1 place)) (find choice_cmp q (placed (place + 1) (live_among at es))))) [
            | true ↦ λ first. refl
            | false ↦ λ later. live-placed at (place + 1) es q row later lives
          ] there
      | false ↦ λ dead.
          elim (eq_by_cmp choice_cmp q e.0) as (λ c. cond c (Some e.1) (find choice_cmp q es) ≡ Some row
          → IsSome (find choice_cmp q (placed place (live_among at es)))) [
            | true ↦ λ first.
                let same : e.1 ≡ row = cc in
                let never : false ≡ true = sym dead ∙ ap (is_live at) same ∙ lives in
                absurd (cc)
            | false ↦ λ later. live-placed at place es q row later lives
          ] there
    ] refl

-- what is under a key of the resolution is found among its choices
found-among : (choices : FinMap choice_cmp ChoiceModel) (number : ℕ) (q : ChoiceKey) (row : ChoiceModel)
    → get choices q ≡ Some row → number ≡ q.resolution → find choice_cmp q (choices_of choices number) ≡ Some row
found-among choices number q row there on =
    let test = λ (key : ChoiceKey). nat_eq number key.resolution in
    let alike = λ (x : ChoiceKey) (tie : choice_cmp q x ≡ Equal). ap test (sym (choice_only q x tie)) in
    let of_it : test q ≡ true = ap (nat_eq number) (sym on) ∙ nat_eq_equiv.refl number in
    find-where_key choice_cmp test q alike (entries choices)
    ∙ ap (λ b. cond b (find choice_cmp q (entries choices)) None) of_it ∙ sym (get-entries choices q) ∙ there

module _ (choices : FinMap choice_cmp ChoiceModel) (at number : ℕ) where
  -- the choices after a call
  abbrev pub after_call : FinMap choice_cmp ChoiceModel
  after_call = with_rows choices (placed 1 (live_choices choices at number))

  -- a live choice of the resolution gets a place, and others stay
  abbrev pub CalledRow : ChoiceKey → ChoiceModel → Type 0
  CalledRow q row = ((get after_call q ≡ Some row) × (number ≡ q.resolution → is_live at row ≡ true → ⊥))
      ⊎ ((place : ℕ) × (get after_call q ≡ Some (at_place row place)) × (is_live at row ≡ true))

  -- that is what a call makes of each choice
  pub called_row : (q : ChoiceKey) (row : ChoiceModel) → get choices q ≡ Some row → CalledRow q row
  called_row q row there =
      let es = choices_of choices number in
      let put = placed 1 (live_choices choices at number) in
      let is = get-with_rows choice_total choice_only put choices q (sorted-placed at 1 es (choices_of-sorted choices number)) in
      elim (find choice_cmp q put) as (λ o. find choice_cmp q put ≡ o → CalledRow q row) [
        | None ↦ λ none. inl (
          is ∙ ap (λ o. option_or o (get choices q)) none ∙ there,
          λ on lives.
              let found = live-placed at 1 es q row (found-among choices number q row there on) lives in
              let never : false ≡ true = sym (ap is_some none) ∙ found in cc,
        )
        | Some new ↦ λ found.
            let was = was-live at 1 es q new (choices_of-sorted choices number) found in
            let same : was.old ≡ row =
            (let e : Some was.old ≡ Some row = sym (found-choice choices number q was.old was.found).1 ∙ there in cc) in
            inr (
              was.place,
              is ∙ ap (λ o. option_or o (get choices q)) found
                  ∙ ap Some (was.row_is ∙ ap (λ r. at_place r was.place) same),
              ap (is_live at) (sym same) ∙ was.lives,
            )
      ] refl
