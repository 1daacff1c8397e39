-- Ballots of digits, as they were and as they are.
use Rattle.std.proofs.Common.{◌≡◌, ℕ, ◌+◌, ◌-◌, ◌<◌, ◌≤◌, ◌⊎◌, ◌↔◌, Bool, true, false, eqb, ltb, leb, List, map, Option, option_map, Some, None, inl, inr, refl, sym, ◌∙◌, ap, subst, arith}
use Rattle.std.specs.Prelude.{slice_get, if◌then◌else◌}
use Rattle.std.specs.List.{All}
use Rattle.std.proofs.lemmas.Bool.{false≢true, ltb-true, lt-ltb}
use Rattle.std.proofs.lemmas.Option.{slice_get-map, slice_get_within, get_or_from_slice_get}
use Rattle.gr_count.specs.declared.limits.TheConstants.{FIRST_DIGIT, LAST_DIGIT, FIRST_LETTER, DIGIT_RANKS, UNRANKED}
use Rattle.gr_count.specs.declared.mark.Mark.TheVariants.{Ranked, Unranked}
use Rattle.gr_count.specs.Ballot.{IsDigit, IsBallot, mark_of, is_above, prefers, rank_of}
use Rattle.gr_count.proofs.PairwiseCounts.{is_above-none}
use Rattle.gr_count.specs.Digits.{IsDigitOrUnranked, IsBallotOfDigits, PrefersByDigits}

-- each digit, and the character of no rank, is a character of ballots still
pub taken : (options : ℕ) (text : List ℕ) → IsBallotOfDigits options text → IsBallot options text
taken options text is = (is.0, λ k d below. elim (is.1 k d below) [ inl digit ↦ inl digit | inr unranked ↦ inr (inr unranked) ])

-- the mark of a digit, and of no rank
mark_of_digit : (c : ℕ) → IsDigit c → mark_of c ≡ Ranked (c - (FIRST_DIGIT - 1))
mark_of_digit c digit =
    let from : FIRST_DIGIT ≤ c = digit.0 in
    let to : c ≤ LAST_DIGIT = digit.1 in
    let other : eqb c UNRANKED ≡ false = grind arith in
    let small : leb c LAST_DIGIT ≡ true = grind arith in
    ap (λ (b : Bool). if b then Unranked else Ranked (rank_of c)) other
    ∙ ap (λ (b : Bool). Ranked (if b then c - (FIRST_DIGIT - 1) else c - FIRST_LETTER + (DIGIT_RANKS + 1))) small

mark_of_unranked : (c : ℕ) → c ≡ UNRANKED → mark_of c ≡ Unranked
mark_of_unranked c is = ap mark_of is

-- what two such characters prefer
module _ (c d : ℕ) where
  prefers_digit : IsDigitOrUnranked c → IsDigitOrUnranked d → is_above (Some (mark_of c)) (Some (mark_of d)) ≡ true
      → IsDigit c × ((d ≡ UNRANKED) ⊎ (IsDigit d × (c < d)))
  prefers_digit (inr unranked) is above =
      absurd (false≢true (sym (ap (λ m. is_above (Some m) (Some (mark_of d))) (mark_of_unranked c unranked)) ∙ above))
  prefers_digit (inl first) (inr unranked) above = (first, inl unranked)
  prefers_digit (inl first) (inl second) above =
      let less : ltb (c - (FIRST_DIGIT - 1)) (d - (FIRST_DIGIT - 1)) ≡ true
      = sym (ap (λ m. is_above (Some m) (Some (mark_of d))) (mark_of_digit c first)
      ∙ ap (λ m. is_above (Some (Ranked (c - (FIRST_DIGIT - 1)))) (Some m)) (mark_of_digit d second)) ∙ above in
      let ranks = ltb-true (c - (FIRST_DIGIT - 1)) (d - (FIRST_DIGIT - 1)) less in
      let from : FIRST_DIGIT ≤ c = first.0 in
      (first, inr (second, omega arith))

  digit_prefers : IsDigit c → (d ≡ UNRANKED) ⊎ (IsDigit d × (c < d)) → is_above (Some (mark_of c)) (Some (mark_of d)) ≡ true
  digit_prefers first (inl unranked) =
      ap (λ m. is_above (Some m) (Some (mark_of d))) (mark_of_digit c first)
      ∙ ap (λ m. is_above (Some (Ranked (c - (FIRST_DIGIT - 1)))) (Some m)) (mark_of_unranked d unranked)
  digit_prefers first (inr second) =
      let from : FIRST_DIGIT ≤ c = first.0 in
      let less : c < d = second.1 in
      ap (λ m. is_above (Some m) (Some (mark_of d))) (mark_of_digit c first)
      ∙ ap (λ m. is_above (Some (Ranked (c - (FIRST_DIGIT - 1)))) (Some m)) (mark_of_digit d second.0)
      ∙ lt-ltb (c - (FIRST_DIGIT - 1)) (d - (FIRST_DIGIT - 1)) (omega arith)

module _ (text : List ℕ) (all : All IsDigitOrUnranked text) (a b : ℕ) where
  character_at : (i c : ℕ) → slice_get text i ≡ Some c → IsDigitOrUnranked c
  character_at i c at = subst IsDigitOrUnranked (get_or_from_slice_get text i c 0 at) (all i 0 (slice_get_within text i c at))

  mark_there : (i : ℕ) (o : Option ℕ) → slice_get text i ≡ o → slice_get (map mark_of text) i ≡ option_map mark_of o
  mark_there i o at = slice_get-map mark_of text i ∙ ap (option_map mark_of) at

  told : (o p : Option ℕ) → slice_get text a ≡ o → slice_get text b ≡ p → is_above (option_map mark_of o) (option_map mark_of p) ≡ true
      → PrefersByDigits text a b
  told None p at_a at_b above = absurd (false≢true above)
  told (Some c) None at_a at_b above = absurd (false≢true (sym (is_above-none (Some (mark_of c))) ∙ above))
  told (Some c) (Some d) at_a at_b above =
      let h = prefers_digit c d (character_at a c at_a) (character_at b d at_b) above in
      record { digit = c; has = at_a; is = h.0; other = d; against = at_b; behind = h.1 }

  pub prefers_as_before : prefers (map mark_of text) a b ≡ true ↔ PrefersByDigits text a b
  prefers_as_before = (
    λ is. told (slice_get text a) (slice_get text b) refl refl
        (sym (ap (λ o. is_above o (slice_get (map mark_of text) b)) (mark_there a (slice_get text a) refl)
        ∙ ap (is_above (option_map mark_of (slice_get text a))) (mark_there b (slice_get text b) refl)) ∙ is),
    λ by.
        ap (λ o. is_above o (slice_get (map mark_of text) b)) (mark_there a (Some by.digit) by.has)
        ∙ ap (is_above (Some (mark_of by.digit))) (mark_there b (Some by.other) by.against)
        ∙ digit_prefers by.digit by.other by.is by.behind,
  )
