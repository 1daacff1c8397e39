-- The choices of one resolution: where they lie in memory, and what they are once the row of a choice was put.
use Rattle.std.proofs.Common.{◌≡◌, ℕ, ◌+◌, ◌-◌, ◌<◌, ◌^◌, Bool, true, false, cond, List, [], ◌∷◌, map, length, Some, is_some, refl, ap, ◌∙◌}
use Rattle.std.specs.Prelude.{All, filter, nat_eq}
use Rattle.std.proofs.lemmas.List.Elements.{All-from_recursion, All-head, All-tail, All-weaker}
use Rattle.std.specs.Map.{keys_of}
use Rattle.std.specs.Cmp.{nat_eq_equiv}
use Rattle.std.specs.FinMap.{FinMap, get, insert}
use Rattle.std.specs.BTreeMap.Range.{range_contains}
use Rattle.std.specs.declared.ops.Bound.TheVariants.{Included}
use Rattle.gr_core.specs.declared.choice.ChoiceKey.{ChoiceKey}
use Rattle.gr_core.specs.declared.choice.Choice.{Choice}
use Rattle.gr_core.specs.Parts.Key.{choice_cmp}
use Rattle.gr_core.specs.Parts.Choice.{ChoiceModel, choice_key, choices_of}
use Rattle.gr_core.specs.InMemory.Tables.{choice_entry}
use Rattle.gr_core.proofs.Collections.PairKeys.{choice_total, choice_only}
use Rattle.gr_core.proofs.Contents.ChoiceKeys.{range_contains-resolution, same_number}
use Rattle.gr_core.proofs.Collections.EntryLemmas.{all_passing, length-passing-insert}

-- the entry lies where memory has those of the resolution
abbrev pub lies_in : ℕ → ChoiceKey × Choice → Bool
lies_in resolution entry = range_contains choice_cmp (Included (choice_key resolution 0)) (Included (choice_key resolution (2 ^ 32 - 1))) entry.0

-- the row is one of the resolution
abbrev pub is_of : ℕ → ChoiceKey × ChoiceModel → Bool
is_of resolution entry = nat_eq resolution entry.0.resolution

-- the number is one that memory can hold
abbrev IsSmall : ChoiceKey → Type 0
IsSmall key = key.number < 2 ^ 32

-- what memory has in the range of a resolution is the choices of that resolution
pub entries_between-resolution : (resolution : ℕ) (es : List (ChoiceKey × Choice)) → All (λ key. key.number < 2 ^ 32) (keys_of es)
    → map choice_entry (filter (lies_in resolution) es) ≡ filter (is_of resolution) (map choice_entry es)
entries_between-resolution resolution [] small = refl
entries_between-resolution resolution (e ∷ es) small =
    let rest = entries_between-resolution resolution es (All-tail IsSmall e.0 (keys_of es) small) in
    let here = range_contains-resolution resolution e.0 (All-head IsSmall e.0 (keys_of es) small) in
    ap (λ b. map choice_entry (cond b (e ∷ filter (lies_in resolution) es) (filter (lies_in resolution) es))) here
    ∙ elim (nat_eq resolution e.0.resolution) as (λ b. map choice_entry (cond b (e ∷ filter (lies_in resolution) es) (filter (lies_in resolution) es))
    ≡ cond b (choice_entry e ∷ filter (is_of resolution) (map choice_entry es)) (filter (is_of resolution) (map choice_entry es))) [
      | true ↦ ap (λ others. choice_entry e ∷ others) rest
      | false ↦ rest
    ]

-- a key is of the resolution
abbrev key_is_of : ℕ → ChoiceKey → Bool
key_is_of resolution key = nat_eq resolution key.resolution

module _ (choices : FinMap choice_cmp ChoiceModel) where
  -- the entry is a choice of the resolution, with the row that is under its key
  abbrev pub IsChoiceOf : ℕ → ChoiceKey × ChoiceModel → Type 0
  IsChoiceOf resolution entry = (resolution ≡ entry.0.resolution) × (get choices entry.0 ≡ Some entry.1)

  abbrev PassesFor : ℕ → ChoiceKey × ChoiceModel → Type 0
  PassesFor resolution entry = (key_is_of resolution entry.0 ≡ true) × (get choices entry.0 ≡ Some entry.1)

  -- each of them is
  pub all_choices_of : (resolution : ℕ) → All (IsChoiceOf resolution) (choices_of choices resolution)
  all_choices_of resolution =
      let these = choices_of choices resolution in
      All-weaker (PassesFor resolution) (IsChoiceOf resolution) (λ entry is. (same_number resolution entry.0.resolution is.0, is.1)) these
      (All-from_recursion (PassesFor resolution) these (all_passing choice_total choice_only (key_is_of resolution) choices))

  -- a row makes one choice more where its key is new
  pub length-choices_of-insert : (key : ChoiceKey) (row : ChoiceModel) → length (choices_of (insert choices key row) key.resolution)
      ≡ cond (is_some (get choices key)) (length (choices_of choices key.resolution)) (length (choices_of choices key.resolution) + 1)
  length-choices_of-insert key row =
      length-passing-insert choice_total choice_only (key_is_of key.resolution) choices key row (nat_eq_equiv.refl key.resolution)
