-- The ratios of the options of a resolution, as they are set by one choice after another.
use Rattle.std.proofs.Common.{◌≡◌, ◌≢◌, ℕ, ◌+◌, ◌<◌, ◌≤◌, inl, inr, true, cond, List, [], ◌∷◌, ◌++◌, map, length, is_some, sym, ap, ◌∙◌, subst, length-append, arith}
use Rattle.std.specs.Prelude.{filter, slice_index}
use Rattle.std.specs.List.{All}
use Rattle.std.proofs.Math.ListN.{get_or-append, get_or-eq_default}
use Rattle.std.proofs.Math.Seq.{get_or-append_seam}
use Rattle.std.proofs.lemmas.List.{map-append, length-map}
use Rattle.std.proofs.lemmas.List.Elements.{filter-append}
use Rattle.gr_core.specs.declared.choice.ChoiceKey.{ChoiceKey}
use Rattle.gr_core.specs.Parts.Choice.{ChoiceModel, IsRatio}
use Rattle.gr_core.proofs.Contents.StableLemmas.{lt_or_ge}
use Rattle.gr_core.proofs.Collections.WalkLemmas.{all-middle}

abbrev Entry : Type 0
Entry = ChoiceKey × ChoiceModel

-- the choices that have a place
abbrev pub placed_among : List Entry → List Entry
placed_among entries = filter (λ entry. is_some entry.1.place) entries

-- and their ratios
abbrev pub ratios_of : List Entry → List ℕ
ratios_of entries = map (λ entry. entry.1.ratio) entries

-- one choice with a place more
pub placed_among-more : (entries : List Entry) (entry : Entry) → is_some entry.1.place ≡ true
    → placed_among (entries ++ entry ∷ []) ≡ placed_among entries ++ entry ∷ []
placed_among-more entries entry has =
    filter-append (λ e. is_some e.1.place) entries (entry ∷ [])
    ∙ ap (λ b. placed_among entries ++ cond b (entry ∷ []) []) has

pub length-placed_among-more : (entries : List Entry) (entry : Entry) → is_some entry.1.place ≡ true
    → length (placed_among (entries ++ entry ∷ [])) ≡ length (placed_among entries) + 1
length-placed_among-more entries entry has =
    ap length (placed_among-more entries entry has) ∙ length-append (placed_among entries) (entry ∷ [])

-- a choice with a place, the choices before it and those after it
module _ (all before : List Entry) (entry : Entry) (behind : List Entry) (split : all ≡ before ++ entry ∷ behind)
    (has : is_some entry.1.place ≡ true) where
  placed-split : placed_among all ≡ placed_among before ++ entry ∷ placed_among behind
  placed-split =
      ap placed_among split ∙ filter-append (λ e. is_some e.1.place) before (entry ∷ behind)
      ∙ ap (λ b. placed_among before ++ cond b (entry ∷ placed_among behind) (placed_among behind)) has

  pub more_to_come : length (placed_among before) < length (placed_among all)
  more_to_come =
      let all_is : length (placed_among all) ≡ length (placed_among before) + length (entry ∷ placed_among behind)
      = ap length placed-split ∙ length-append (placed_among before) (entry ∷ placed_among behind) in
      omega arith

  pub ratio_there : All (λ e. IsRatio e.1.ratio) (placed_among all) → IsRatio entry.1.ratio
  ratio_there each =
      all-middle (λ e. IsRatio e.1.ratio) (placed_among before) entry (placed_among behind)
      (subst (All (λ e. IsRatio e.1.ratio)) placed-split each)

-- the ratio of one more choice was set, and no other
module _ (placed : List Entry) (entry : Entry) (old new : ℕ → ℕ) (changed : new (length placed) ≡ entry.1.ratio)
    (others : (k : ℕ) → k ≢ length placed → new k ≡ old k) where
  pub set_so_far : ((k : ℕ) → k < length placed → old k ≡ slice_index (ratios_of placed) k)
      → (k : ℕ) → k < length placed + 1 → new k ≡ slice_index (ratios_of (placed ++ entry ∷ [])) k
  set_so_far so_far k below =
      let same : length (ratios_of placed) ≡ length placed = length-map placed (λ e. e.1.ratio) in
      let more : ratios_of (placed ++ entry ∷ []) ≡ ratios_of placed ++ entry.1.ratio ∷ [] =
      map-append (λ e. e.1.ratio) placed (entry ∷ []) in
      elim (lt_or_ge k (length placed)) [
        | inl before ↦
            let inside : k < length (ratios_of placed) = omega arith in
            others k (λ is. (let never : k < length placed = before in omega arith)) ∙ so_far k before
            ∙ sym (get_or-append (ratios_of placed) (entry.1.ratio ∷ []) 0 k inside)
            ∙ ap (λ ratios. slice_index ratios k) (sym more)
        | inr behind ↦
            let is : k ≡ length placed = omega arith in
            ap new is ∙ changed
            ∙ sym (get_or-append_seam (ratios_of placed) entry.1.ratio [] 0)
            ∙ ap (slice_index (ratios_of placed ++ entry.1.ratio ∷ [])) (same ∙ sym is)
            ∙ ap (λ ratios. slice_index ratios k) (sym more)
      ]

  pub set_others : (places : ℕ) → ((k : ℕ) → length placed ≤ k → k < places → old k ≡ 1)
      → (k : ℕ) → length placed + 1 ≤ k → k < places → new k ≡ 1
  set_others places ones k behind below =
      others k (λ is. (let never : length placed + 1 ≤ k = behind in omega arith)) ∙ ones k (omega arith) below

  pub set_beyond : (places : ℕ) → length placed < places → ((k : ℕ) → places ≤ k → old k ≡ 0)
      → (k : ℕ) → places ≤ k → new k ≡ 0
  set_beyond places inside none k beyond =
      others k (λ is. (let never : places ≤ k = beyond in omega arith)) ∙ none k beyond

-- once each choice has its ratio, they are the ratios on the ballot
pub all_set : (placed : List Entry) (ratio : ℕ → ℕ) (places : ℕ) → places ≡ length placed + 1
    → ((k : ℕ) → k < length placed → ratio k ≡ slice_index (ratios_of placed) k)
    → ((k : ℕ) → length placed ≤ k → k < places → ratio k ≡ 1)
    → ((k : ℕ) → places ≤ k → ratio k ≡ 0)
    → (k : ℕ) → ratio k ≡ slice_index (ratios_of placed ++ 1 ∷ []) k
all_set placed ratio places count so_far ones none k =
    let same : length (ratios_of placed) ≡ length placed = length-map placed (λ e. e.1.ratio) in
    elim (lt_or_ge k (length placed)) [
      | inl before ↦
          let inside : k < length (ratios_of placed) = omega arith in
          so_far k before ∙ sym (get_or-append (ratios_of placed) (1 ∷ []) 0 k inside)
      | inr behind ↦ elim (lt_or_ge k places) [
        | inl last ↦
            let is : length (ratios_of placed) ≡ k = omega arith in
            ones k behind last ∙ sym (get_or-append_seam (ratios_of placed) 1 [] 0)
            ∙ ap (slice_index (ratios_of placed ++ 1 ∷ [])) is
        | inr beyond ↦
            let whole : length (ratios_of placed ++ 1 ∷ []) ≡ length (ratios_of placed) + 1 =
            length-append (ratios_of placed) (1 ∷ []) in
            let past : length (ratios_of placed ++ 1 ∷ []) ≤ k = omega arith in
            none k beyond ∙ sym (get_or-eq_default (ratios_of placed ++ 1 ∷ []) 0 past)
      ]
    ]
