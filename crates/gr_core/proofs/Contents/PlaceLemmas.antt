-- The live choices of a resolution, each with its place.
use Rattle.std.proofs.Common.{◌≡◌, ℕ, ◌+◌, ◌≤◌, true, false, cond, List, [], ◌∷◌, ◌++◌, map, length, count_by, Some, refl, sym, ap, ◌∙◌, subst, arith}
use Rattle.std.specs.Prelude.{◌&&◌, filter, nat_eq}
use lib.Dec.{T}
use Rattle.std.specs.Ordering.{is_lt}
use Rattle.std.specs.FinMap.{FinMap, entries, entries_sorted, is_sorted}
use Rattle.std.specs.FinMap.Entries.{below_all}
use Rattle.std.proofs.lemmas.List.Sums.{length-filter, count_by-le-length}
use Rattle.gr_core.specs.declared.choice.ChoiceKey.{ChoiceKey}
use Rattle.gr_core.specs.Parts.Key.{choice_cmp}
use Rattle.gr_core.specs.Parts.Choice.{ChoiceModel, choices_of}
use Rattle.gr_core.specs.Machine.Map.{with_rows}
use Rattle.gr_core.specs.Machine.Bookkeeping.{is_live}
use Rattle.gr_core.specs.Machine.Row.{RowModel, ChoiceOf, choice_of_entry}
use Rattle.gr_core.specs.Machine.Effect.{live_choices, placed, rows_at}
use Rattle.gr_core.proofs.Collections.PairKeys.{choice_total, choice_only}
use Rattle.gr_core.proofs.Collections.RowsInOrderLemmas.{is_sorted-filter, rows_at-with_rows}

-- the live ones of these choices
abbrev pub live_among : ℕ → List (ChoiceKey × ChoiceModel) → List (ChoiceKey × ChoiceModel)
live_among at entries = filter (λ entry. is_live at entry.1) entries

-- the rows of the live ones, with their places
abbrev pub placed_rows : ℕ → List (ChoiceKey × ChoiceModel) → List RowModel
placed_rows at entries = map choice_of_entry (placed 1 (live_among at entries))

-- the row of this choice with this place
abbrev pub row_at_place : ChoiceKey × ChoiceModel → ℕ → RowModel
row_at_place entry place = ChoiceOf entry.0 (record entry.1 { place = Some place })

-- one live choice more
pub live_among-more : (at : ℕ) (entries : List (ChoiceKey × ChoiceModel)) (entry : ChoiceKey × ChoiceModel)
    → is_live at entry.1 ≡ true
    → live_among at (entries ++ entry ∷ []) ≡ live_among at entries ++ entry ∷ []
live_among-more at [] entry live = ap (λ b. cond b (entry ∷ []) []) live
live_among-more at (first ∷ entries) entry live =
    ap (λ rest. cond (is_live at first.1) (first ∷ rest) rest) (live_among-more at entries entry live)
    ∙ elim (is_live at first.1) as (λ b. cond b (first ∷ (live_among at entries ++ entry ∷ [])) (live_among at entries
    ++ entry ∷ [])
    ≡ cond b (first ∷ live_among at entries) (live_among at entries) ++ entry ∷ []) [
      | true ↦ refl
      | false ↦ refl
    ]

-- no more of them are live than there are
pub live_among-few : (at : ℕ) (entries : List (ChoiceKey × ChoiceModel)) → length (live_among at entries) ≤ length entries
live_among-few at entries =
    let is : length (live_among at entries) ≡ count_by (λ entry. is_live at entry.1) entries =
    length-filter (λ entry. is_live at entry.1) entries in
    let few : count_by (λ entry. is_live at entry.1) entries ≤ length entries =
    count_by-le-length (λ entry. is_live at entry.1) entries in
    omega arith

placed-more : (place : ℕ) (entries : List (ChoiceKey × ChoiceModel)) (entry : ChoiceKey × ChoiceModel) (last : ℕ) → last
    ≡ place + length entries
    → map choice_of_entry (placed place (entries ++ entry ∷ [])) ≡ map choice_of_entry (placed place entries)
    ++ row_at_place entry last ∷ []
placed-more place [] entry last is = let here : place ≡ last = omega arith in ap (λ n. row_at_place entry n ∷ []) here
placed-more place (first ∷ entries) entry last is =
    let behind : last ≡ (place + 1) + length entries = omega arith in
    ap (λ rest. row_at_place first place ∷ rest) (placed-more (place + 1) entries entry last behind)

-- one live choice more has the next place
pub placed_rows-more : (at : ℕ) (entries : List (ChoiceKey × ChoiceModel)) (entry : ChoiceKey × ChoiceModel) (place : ℕ)
    → is_live at entry.1 ≡ true
    → place ≡ length (live_among at entries) + 1 → placed_rows at (entries ++ entry ∷ []) ≡ placed_rows at entries
    ++ row_at_place entry place ∷ []
placed_rows-more at entries entry place live is =
    let last : place ≡ 1 + length (live_among at entries) = omega arith in
    ap (λ these. map choice_of_entry (placed 1 these)) (live_among-more at entries entry live)
    ∙ placed-more 1 (live_among at entries) entry place last

below_all-placed : (key : ChoiceKey) (place : ℕ) (entries : List (ChoiceKey × ChoiceModel))
    → below_all choice_cmp key (placed place entries) ≡ below_all choice_cmp key entries
below_all-placed key place [] = refl
below_all-placed key place (entry ∷ entries) =
    ap (λ b. is_lt (choice_cmp key entry.0) && b) (below_all-placed key (place + 1) entries)

-- places leave the order
pub is_sorted-placed : (place : ℕ) (entries : List (ChoiceKey × ChoiceModel)) → is_sorted choice_cmp (placed place entries)
    ≡ is_sorted choice_cmp entries
is_sorted-placed place [] = refl
is_sorted-placed place (entry ∷ entries) =
    let here = below_all-placed entry.0 (place + 1) entries in
    let rest = is_sorted-placed (place + 1) entries in
    λ i. here i && rest i

-- places leave the keys
pub keys-placed : (place : ℕ) (entries : List (ChoiceKey × ChoiceModel)) → map (λ entry. entry.0) (placed place entries)
    ≡ map (λ entry. entry.0) entries
keys-placed place [] = refl
keys-placed place (entry ∷ entries) = ap (λ keys. entry.0 ∷ keys) (keys-placed (place + 1) entries)

-- the live choices stand in the order of their keys
pub live_choices_sorted : (choices : FinMap choice_cmp ChoiceModel) (at resolution : ℕ)
    → T (is_sorted choice_cmp (live_choices choices at resolution))
live_choices_sorted choices at resolution =
    is_sorted-filter choice_cmp (λ entry. is_live at entry.1) (choices_of choices resolution)
    (is_sorted-filter choice_cmp (λ entry. nat_eq resolution entry.0.resolution) (entries choices) (entries_sorted choices))

-- choices in order, put with their places, are there
pub placed_rows-put : (choices : FinMap choice_cmp ChoiceModel) (live : List (ChoiceKey × ChoiceModel))
    → T (is_sorted choice_cmp live)
    → rows_at ChoiceOf (with_rows choices (placed 1 live)) (map (λ entry. entry.0) live)
    ≡ map choice_of_entry (placed 1 live)
placed_rows-put choices live sorted =
    ap (rows_at ChoiceOf (with_rows choices (placed 1 live))) (sym (keys-placed 1 live))
    ∙ rows_at-with_rows choice_total choice_only ChoiceOf choices (placed 1 live) (subst T (sym (is_sorted-placed 1 live)) sorted)
