-- What is not refused holds: each of these conditions can be tested.
use Rattle.std.proofs.Common.{◌≡◌, ℕ, zero, suc, ◌<◌, ◌≤◌, ◌⊎◌, inl, inr, Bool, true, false, List, ℤ, ◌≤ℤ◌, refl, arith}
use Rattle.std.proofs.lemmas.Int.{ints, by_lt_z}
use Rattle.std.specs.Str.{is_utf8}
use Rattle.std.proofs.lemmas.Str.{IsUtf8-from_is_utf8, is_utf8-from_IsUtf8}
use Rattle.gr_core.specs.Parts.Moment.{IsMoment}
use Rattle.gr_core.specs.Parts.Login.{IsLogin}
use Rattle.gr_core.specs.Parts.Text.{IsLine, IsText}
use Rattle.gr_core.specs.Parts.Choice.{IsRatio}
use Rattle.gr_core.specs.Parts.Discussion.{IsShift, IsPeriod}
use Rattle.gr_core.specs.Desks.State.{State}
use Rattle.gr_core.specs.Desks.Outcome.{IsPlace}

pub lt_or_ge : (a b : ℕ) → (a < b) ⊎ (b ≤ a)
lt_or_ge zero zero = inr (omega arith)
lt_or_ge zero (suc b) = inl (omega arith)
lt_or_ge (suc a) zero = inr (omega arith)
lt_or_ge (suc a) (suc b) = elim (lt_or_ge a b) [ inl below ↦ inl (omega arith) | inr above ↦ inr (omega arith) ]

true-stable : (b : Bool) → ¬ (¬ (b ≡ true)) → b ≡ true
true-stable true h = refl
true-stable false h = absurd (h (λ e. let never : false ≡ true = e in cc))

lt-stable : (a b : ℕ) → ¬ (¬ (a < b)) → a < b
lt-stable a b h = elim (lt_or_ge a b) [ inl below ↦ below | inr above ↦ absurd (h (λ below. omega arith)) ]

le-stable : (a b : ℕ) → ¬ (¬ (a ≤ b)) → a ≤ b
le-stable a b h = elim (lt_or_ge b a) [ inl above ↦ absurd (h (λ below. omega arith)) | inr below ↦ below ]

pub IsMoment-stable : (at : ℕ) → ¬ (¬ (IsMoment at)) → IsMoment at
IsMoment-stable at h = (lt-stable _ _ (λ no. h (λ yes. no yes.0)), le-stable _ _ (λ no. h (λ yes. no yes.1)))

pub IsLogin-stable : (text : List ℕ) → ¬ (¬ (IsLogin text)) → IsLogin text
IsLogin-stable text h = record {
  nonempty = lt-stable _ _ (λ no. h (λ yes. no yes.nonempty));
  short = le-stable _ _ (λ no. h (λ yes. no yes.short));
  begins = true-stable _ (λ no. h (λ yes. no yes.begins));
  characters = λ k d below. true-stable _ (λ no. h (λ yes. no (yes.characters k d below)));
}

-- names and summaries
pub IsLine-stable : (limit : ℕ) (text : List ℕ) → ¬ (¬ (IsLine limit text)) → IsLine limit text
IsLine-stable limit text h = record {
  utf8 = IsUtf8-from_is_utf8 text
      (true-stable (is_utf8 text) (λ no. h (λ yes. no (is_utf8-from_IsUtf8 text yes.utf8))));
  nonempty = lt-stable _ _ (λ no. h (λ yes. no yes.nonempty));
  short = le-stable _ _ (λ no. h (λ yes. no yes.short));
  printable = λ k d below. true-stable _ (λ no. h (λ yes. no (yes.printable k d below)));
}

-- texts of choices
pub IsText-stable : (text : List ℕ) → ¬ (¬ (IsText text)) → IsText text
IsText-stable text h = record {
  utf8 = IsUtf8-from_is_utf8 text
      (true-stable (is_utf8 text) (λ no. h (λ yes. no (is_utf8-from_IsUtf8 text yes.utf8))));
  nonempty = lt-stable _ _ (λ no. h (λ yes. no yes.nonempty));
  short = le-stable _ _ (λ no. h (λ yes. no yes.short));
  characters = λ k d below. true-stable _ (λ no. h (λ yes. no (yes.characters k d below)));
}

-- places of a ballot
pub IsPlace-stable : (s : State) (resolution place : ℕ) → ¬ (¬ (IsPlace s resolution place)) → IsPlace s resolution place
IsPlace-stable s resolution place h =
    (lt-stable _ _ (λ no. h (λ yes. no yes.0)), le-stable _ _ (λ no. h (λ yes. no yes.1)))

-- majority ratios
pub IsRatio-stable : (ratio : ℕ) → ¬ (¬ (IsRatio ratio)) → IsRatio ratio
IsRatio-stable ratio h = (le-stable _ _ (λ no. h (λ yes. no yes.0)), le-stable _ _ (λ no. h (λ yes. no yes.1)))

-- an order of numbers with signs
le_int-stable : (a b : ℤ) → ¬ (¬ (a ≤ℤ b)) → a ≤ℤ b
le_int-stable a b h = by_lt_z b a (λ below. absurd (h (λ yes. omega (arith, ints, below, yes)))) (λ above. above)

-- days by which a discussion is varied
pub IsShift-stable : (shift : ℤ) → ¬ (¬ (IsShift shift)) → IsShift shift
IsShift-stable shift h = record {
  least = le_int-stable _ _ (λ no. h (λ yes. no yes.least));
  most = le_int-stable _ _ (λ no. h (λ yes. no yes.most));
}

-- days for which votes are taken
pub IsPeriod-stable : (days : ℤ) → ¬ (¬ (IsPeriod days)) → IsPeriod days
IsPeriod-stable days h = record {
  least = le_int-stable _ _ (λ no. h (λ yes. no yes.least));
  most = le_int-stable _ _ (λ no. h (λ yes. no yes.most));
}

-- two numbers are one, or they are not
pub same_or_other : (a b : ℕ) → (a ≡ b) ⊎ (a ≡ b → ⊥)
same_or_other a b =
    elim (lt_or_ge a b) [
      | inl below ↦ inr (λ same. omega arith)
      | inr above ↦ elim (lt_or_ge b a) [ inl over ↦ inr (λ same. omega arith) | inr under ↦ inl (omega arith) ]
    ]
