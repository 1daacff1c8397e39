-- The live choices of a resolution get their places, one after the other.
use Rattle.std.proofs.Common.{◌≡◌, ℕ, ◌+◌, true, false, cond, List, [], ◌∷◌, Some, None, refl, sym, ap, ◌∙◌, subst}
use Rattle.std.specs.Option.{option_or}
use lib.Dec.{T}
use Rattle.std.specs.Ordering.{is_lt, eq_by_cmp}
use Rattle.std.specs.FinMap.{find, is_sorted}
use Rattle.std.specs.FinMap.Entries.{below_all}
use Rattle.gr_core.specs.declared.choice.ChoiceKey.{ChoiceKey}
use Rattle.gr_core.specs.Parts.Key.{choice_cmp}
use Rattle.gr_core.specs.Parts.Choice.{ChoiceModel}
use Rattle.gr_core.specs.Machine.Bookkeeping.{is_live}
use Rattle.gr_core.specs.Machine.Effect.{placed}
use Rattle.gr_core.proofs.Collections.TableLemmas.{both, former, latter}
use Rattle.gr_core.proofs.Collections.PresenceLemmas.{not_None}
use Rattle.gr_core.proofs.Collections.RowsInOrderLemmas.{is_sorted-filter, not_again}
use Rattle.gr_core.proofs.Collections.PairKeys.{choice_total, choice_only}
use Rattle.gr_core.proofs.Contents.PlaceLemmas.{live_among, is_sorted-placed}

-- a choice with its key
abbrev pub Entry : Type 0
Entry = ChoiceKey × ChoiceModel

-- the row with this place
abbrev pub at_place : ChoiceModel → ℕ → ChoiceModel
at_place row place = record row { place = Some place }

-- the choices, the live ones with their places from this one on
abbrev pub marked : ℕ → ℕ → List Entry → List Entry
marked at place [] = []
marked at place (e ∷ es) = cond (is_live at e.1) ((e.0, at_place e.1 place) ∷ marked at (place + 1) es)
    (e ∷ marked at place es)

-- the first key of a list in order is below those of the rest
first-below : (e : Entry) (es : List Entry) → T (is_sorted choice_cmp (e ∷ es)) → T (below_all choice_cmp e.0 es)
first-below e es sorted = former (below_all choice_cmp e.0 es) (is_sorted choice_cmp es) sorted

-- the rest of a list in order is in order
rest-sorted : (e : Entry) (es : List Entry) → T (is_sorted choice_cmp (e ∷ es)) → T (is_sorted choice_cmp es)
rest-sorted e es sorted = latter (below_all choice_cmp e.0 es) (is_sorted choice_cmp es) sorted

module _ (at : ℕ) where
  -- a key below all of a list is below them once they have places
  below-marked : (k : ChoiceKey) (place : ℕ) (es : List Entry) → T (below_all choice_cmp k es)
      → T (below_all choice_cmp k (marked at place es))
  below-marked k place [] below = tt
  below-marked k place (e ∷ es) below =
      let first = former (is_lt (choice_cmp k e.0)) (below_all choice_cmp k es) below in
      let rest = latter (is_lt (choice_cmp k e.0)) (below_all choice_cmp k es) below in
      elim (is_live at e.1) as (λ b. T (below_all choice_cmp k
      (cond b ((e.0, at_place e.1 place) ∷ marked at (place + 1) es) (e ∷ marked at place es)))) [
        | true ↦ both _ _ first (below-marked k (place + 1) es rest)
        | false ↦ both _ _ first (below-marked k place es rest)
      ]

  -- a list in order stays so with places
  pub sorted-marked : (place : ℕ) (es : List Entry) → T (is_sorted choice_cmp es)
      → T (is_sorted choice_cmp (marked at place es))
  sorted-marked place [] sorted = tt
  sorted-marked place (e ∷ es) sorted =
      elim (is_live at e.1) as (λ b. T (is_sorted choice_cmp
      (cond b ((e.0, at_place e.1 place) ∷ marked at (place + 1) es) (e ∷ marked at place es)))) [
        | true ↦ both _ _ (below-marked e.0 (place + 1) es (first-below e es sorted))
            (sorted-marked (place + 1) es (rest-sorted e es sorted))
        | false ↦ both _ _ (below-marked e.0 place es (first-below e es sorted))
            (sorted-marked place es (rest-sorted e es sorted))
      ]

  -- the live ones of a list in order are in order
  pub sorted-placed : (place : ℕ) (es : List Entry) → T (is_sorted choice_cmp es)
      → T (is_sorted choice_cmp (placed place (live_among at es)))
  sorted-placed place es sorted =
      subst T (sym (is_sorted-placed place (live_among at es)))
      (is_sorted-filter choice_cmp (λ e. is_live at e.1) es sorted)

  -- the row is that of a live choice of the list, with a place
  pub record WasLive (q : ChoiceKey) (es : List Entry) (row : ChoiceModel) : Type 0 where
    pub old : ChoiceModel
    pub place : ℕ
    pub found : find choice_cmp q es ≡ Some old
    pub lives : is_live at old ≡ true
    pub row_is : row ≡ at_place old place

  -- who has a place was live
  pub was-live : (place : ℕ) (es : List Entry) (q : ChoiceKey) (row : ChoiceModel) → T (is_sorted choice_cmp es)
      → find choice_cmp q (placed place (live_among at es)) ≡ Some row → WasLive q es row
  was-live place [] q row sorted is = absurd (not_None row is)
  was-live place (e ∷ es) q row sorted is =
      elim (is_live at e.1) as (λ b. is_live at e.1 ≡ b
      → find choice_cmp q (placed place (cond b (e ∷ live_among at es) (live_among at es))) ≡ Some row
      → WasLive q (e ∷ es) row) [
        | true ↦ λ lives here.
            elim (eq_by_cmp choice_cmp q e.0) as (λ c. eq_by_cmp choice_cmp q e.0 ≡ c
            → cond c (Some (at_place e.1 place)) (find choice_cmp q (placed (place + 1) (live_among at es))) ≡ Some row
            → WasLive q (e ∷ es) row) [
              | true ↦ λ same first. record {
                old = e.1;
                place = place;
                found = ap (λ c. cond c (Some e.1) (find choice_cmp q es)) same;
                lives = lives;
                row_is = cc;
              }
              | false ↦ λ other later.
                  let rest = was-live (place + 1) es q row (rest-sorted e es sorted) later in
                  record {
                    old = rest.old;
                    place = rest.place;
                    found = ap (λ c. cond c (Some e.1) (find choice_cmp q es)) other ∙ rest.found;
                    lives = rest.lives;
                    row_is = rest.row_is;
                  }
            ] refl here
        | false ↦ λ dead here.
            let rest = was-live place es q row (rest-sorted e es sorted) here in
            record {
              old = rest.old;
              place = rest.place;
              found = elim (eq_by_cmp choice_cmp q e.0) as
                  (λ c. eq_by_cmp choice_cmp q e.0 ≡ c → cond c (Some e.1) (find choice_cmp q es) ≡ Some rest.old) [
                    | true ↦ λ same. absurd (not_None rest.old (sym (not_again choice_total choice_only q e es sorted same) ∙ rest.found))
                    | false ↦ λ other. rest.found
                  ] refl;
              lives = rest.lives;
              row_is = rest.row_is;
            }
      ] refl is

  -- a key that is not in the list has no place
  not_placed : (place : ℕ) (es : List Entry) (q : ChoiceKey) → T (is_sorted choice_cmp es) → find choice_cmp q es ≡ None
      → find choice_cmp q (placed place (live_among at es)) ≡ None
  not_placed place es q sorted none =
      elim (find choice_cmp q (placed place (live_among at es))) as
      (λ o. find choice_cmp q (placed place (live_among at es)) ≡ o → o ≡ None) [
        | None ↦ λ is. refl
        | Some row ↦ λ is. let was = was-live place es q row sorted is in absurd
            (not_None was.old (sym none ∙ was.found))
      ] refl

  -- what is found under a key once the live ones have their places
  pub find-marked : (place : ℕ) (es : List Entry) (q : ChoiceKey) → T (is_sorted choice_cmp es)
      → find choice_cmp q (marked at place es)
      ≡ option_or (find choice_cmp q (placed place (live_among at es))) (find choice_cmp q es)
  find-marked place [] q sorted = refl
  find-marked place (e ∷ es) q sorted =
      let rest = rest-sorted e es sorted in
      elim (is_live at e.1) as (λ b. find choice_cmp q
      (cond b ((e.0, at_place e.1 place) ∷ marked at (place + 1) es) (e ∷ marked at place es))
      ≡ option_or (find choice_cmp q (placed place (cond b (e ∷ live_among at es) (live_among at es))))
      (find choice_cmp q (e ∷ es))) [
        | true ↦
            elim (eq_by_cmp choice_cmp q e.0) as
            (λ c. cond c (Some (at_place e.1 place)) (find choice_cmp q (marked at (place + 1) es))
            ≡ option_or (cond c (Some (at_place e.1 place)) (find choice_cmp q (placed (place + 1) (live_among at es))))
            (cond c (Some e.1) (find choice_cmp q es))) [
              | true ↦ refl
              | false ↦ find-marked (place + 1) es q rest
            ]
        | false ↦
            elim (eq_by_cmp choice_cmp q e.0) as
            (λ c. eq_by_cmp choice_cmp q e.0 ≡ c → cond c (Some e.1) (find choice_cmp q (marked at place es))
            ≡ option_or (find choice_cmp q (placed place (live_among at es))) (cond c (Some e.1) (find choice_cmp q es))) [
              | true ↦ λ same. sym (ap (λ o. option_or o (Some e.1))
                  (not_placed place es q rest (not_again choice_total choice_only q e es sorted same)))
              | false ↦ λ other. find-marked place es q rest
            ] refl
      ]
