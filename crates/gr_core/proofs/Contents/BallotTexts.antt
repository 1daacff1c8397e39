-- A text that is not refused as a ballot is one: each character of it can be tested.
use Rattle.std.proofs.Common.{◌≡◌, ℕ, ◌≤◌, ◌⊎◌, inl, inr, List, arith}
use Rattle.gr_count.specs.declared.limits.TheConstants.{FIRST_DIGIT, LAST_DIGIT, FIRST_LETTER, LAST_LETTER, UNRANKED}
use Rattle.gr_count.specs.Ballot.{IsDigit, IsLetter, IsMarkCharacter, IsBallot}
use Rattle.gr_core.proofs.Contents.StableLemmas.{lt_or_ge, same_or_other}

-- between two bounds or not
within_or_not : (low high c : ℕ) → ((low ≤ c) × (c ≤ high)) ⊎ ((low ≤ c) × (c ≤ high) → ⊥)
within_or_not low high c =
    elim (lt_or_ge c low) as (λ _. ((low ≤ c) × (c ≤ high)) ⊎ ((low ≤ c) × (c ≤ high) → ⊥)) [
      | inl below ↦ inr (λ within. let from : low ≤ c = within.0 in omega arith)
      | inr from ↦ elim (lt_or_ge high c) as (λ _. ((low ≤ c) × (c ≤ high)) ⊎ ((low ≤ c) × (c ≤ high) → ⊥)) [
        | inl above ↦ inr (λ within. let to : c ≤ high = within.1 in omega arith)
        | inr to ↦ inl (from, to)
      ]
    ]

-- neither a digit nor a letter nor the character of no rank
no_mark : (c : ℕ) → (IsDigit c → ⊥) → (IsLetter c → ⊥) → (c ≡ UNRANKED → ⊥) → IsMarkCharacter c → ⊥
no_mark c no_digit no_letter differs mark =
    elim mark [ inl digit ↦ no_digit digit | inr other ↦ elim other [ inl letter ↦ no_letter letter | inr is ↦ differs is ] ]

IsMarkCharacter-stable : (c : ℕ) → ¬ (¬ (IsMarkCharacter c)) → IsMarkCharacter c
IsMarkCharacter-stable c h =
    elim (within_or_not FIRST_DIGIT LAST_DIGIT c) [
      | inl digit ↦ inl digit
      | inr no_digit ↦ elim (within_or_not FIRST_LETTER LAST_LETTER c) [
        | inl letter ↦ inr (inl letter)
        | inr no_letter ↦ elim (same_or_other c UNRANKED) [
          | inl is ↦ inr (inr is)
          | inr differs ↦ absurd (h (no_mark c no_digit no_letter differs))
        ]
      ]
    ]

same-stable : (a b : ℕ) → ¬ (¬ (a ≡ b)) → a ≡ b
same-stable a b h = elim (same_or_other a b) [ inl same ↦ same | inr other ↦ absurd (h other) ]

-- texts of ballots with so many options
pub IsBallot-stable : (options : ℕ) (text : List ℕ) → ¬ (¬ (IsBallot options text)) → IsBallot options text
IsBallot-stable options text h = (
  same-stable _ _ (λ no. h (λ yes. no yes.0)),
  λ k d below. IsMarkCharacter-stable _ (λ no. h (λ yes. no (yes.1 k d below))),
)
