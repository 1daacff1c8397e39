-- The characters of a ballot's ranks, and the marks that they say.
use Rattle.std.proofs.Common.{arith, ◌≡◌, ℕ, ◌+◌, ◌-◌, ◌<◌, ◌≤◌, Bool, leb, ◌==◌, List, [], ◌∷◌, map, inl, inr, true, false, if◌then◌else◌, refl, sym, ap, ◌∙◌, subst}
use Rattle.std.specs.List.{All}
use Rattle.std.proofs.lemmas.List.Elements.{All-nil, All-cons, All-head, All-tail}
use Rattle.gr_count.specs.declared.limits.TheConstants.{DIGIT_RANKS, FIRST_DIGIT, FIRST_LETTER, LAST_DIGIT, RANKS, UNRANKED}
use Rattle.gr_count.specs.declared.mark.Mark.{Mark}
use Rattle.gr_count.specs.declared.mark.Mark.TheVariants.{Ranked, Unranked}
use Rattle.gr_count.specs.Ballot.{IsDigit, IsLetter, IsMarkCharacter, character_of, mark_of, rank_of}
use Rattle.gr_core.specs.Parts.Ballot.{IsMark}
use Rattle.gr_core.specs.Columns.Fields.{ranks_text}
use Rattle.gr_core.proofs.Contents.StableLemmas.{lt_or_ge}

-- the marks of digits and of letters, and the characters of their ranks
digit_mark : (c : ℕ) → IsDigit c → mark_of c ≡ Ranked (c - (FIRST_DIGIT - 1))
digit_mark c digit =
    let from : FIRST_DIGIT ≤ c = digit.0 in
    let to : c ≤ LAST_DIGIT = digit.1 in
    let other : (c == UNRANKED) ≡ false = grind arith in
    let small : leb c LAST_DIGIT ≡ true = grind arith in
    ap (λ (b : Bool). if b then Unranked else Ranked (rank_of c)) other
    ∙ ap (λ (b : Bool). Ranked (if b then c - (FIRST_DIGIT - 1) else c - FIRST_LETTER + (DIGIT_RANKS + 1))) small

letter_mark : (c : ℕ) → IsLetter c → mark_of c ≡ Ranked (c - FIRST_LETTER + (DIGIT_RANKS + 1))
letter_mark c letter =
    let from : FIRST_LETTER ≤ c = letter.0 in
    let other : (c == UNRANKED) ≡ false = grind arith in
    let large : leb c LAST_DIGIT ≡ false = grind arith in
    ap (λ (b : Bool). if b then Unranked else Ranked (rank_of c)) other
    ∙ ap (λ (b : Bool). Ranked (if b then c - (FIRST_DIGIT - 1) else c - FIRST_LETTER + (DIGIT_RANKS + 1))) large

digit_character : (rank : ℕ) → rank ≤ DIGIT_RANKS → character_of (Ranked rank) ≡ rank + (FIRST_DIGIT - 1)
digit_character rank few =
    let small : leb rank DIGIT_RANKS ≡ true = grind arith in
    ap (λ (b : Bool). if b then rank + (FIRST_DIGIT - 1) else rank - (DIGIT_RANKS + 1) + FIRST_LETTER) small

letter_character : (rank : ℕ) → DIGIT_RANKS < rank → character_of (Ranked rank) ≡ rank - (DIGIT_RANKS + 1) + FIRST_LETTER
letter_character rank more =
    let large : leb rank DIGIT_RANKS ≡ false = grind arith in
    ap (λ (b : Bool). if b then rank + (FIRST_DIGIT - 1) else rank - (DIGIT_RANKS + 1) + FIRST_LETTER) large

-- a character's mark has the character
pub character_of-mark_of : (c : ℕ) → IsMarkCharacter c → character_of (mark_of c) ≡ c
character_of-mark_of c (inr (inr unranked)) = subst (λ d. character_of (mark_of d) ≡ d) (sym unranked) refl
character_of-mark_of c (inl digit) =
    let from : FIRST_DIGIT ≤ c = digit.0 in
    let to : c ≤ LAST_DIGIT = digit.1 in
    ap character_of (digit_mark c digit) ∙ digit_character (c - (FIRST_DIGIT - 1)) (omega arith) ∙ omega arith
character_of-mark_of c (inr (inl letter)) =
    let from : FIRST_LETTER ≤ c = letter.0 in
    ap character_of (letter_mark c letter) ∙ letter_character (c - FIRST_LETTER + (DIGIT_RANKS + 1)) (omega arith) ∙ omega arith

-- each rank that there is has a character
pub said_by_a_character : (rank : ℕ) → 1 ≤ rank → rank ≤ RANKS → IsMark (Ranked rank)
said_by_a_character rank least most =
    elim (lt_or_ge DIGIT_RANKS rank) as (λ _. IsMark (Ranked rank)) [
      | inl more ↦
          let c = rank - (DIGIT_RANKS + 1) + FIRST_LETTER in
          let letter : IsLetter c = (omega arith, omega arith) in
          (c, inr (inl letter), letter_mark c letter ∙ ap Ranked (omega arith))
      | inr few ↦
          let c = rank + (FIRST_DIGIT - 1) in
          let digit : IsDigit c = (omega arith, omega arith) in
          (c, inl digit, digit_mark c digit ∙ ap Ranked (omega arith))
    ]

-- a mark's character says the mark
pub mark_of-character_of : (mark : Mark) → IsMark mark → mark_of (character_of mark) ≡ mark
mark_of-character_of mark (c, is, says) = ap (λ m. mark_of (character_of m)) (sym says) ∙ ap mark_of (character_of-mark_of c is) ∙ says

pub ranks_text-injective : (a b : List Mark) → All IsMark a → All IsMark b → ranks_text a ≡ ranks_text b → a ≡ b
ranks_text-injective [] [] fits fitsb same = refl
ranks_text-injective [] (n ∷ b) fits fitsb same = cc
ranks_text-injective (m ∷ a) [] fits fitsb same = cc
ranks_text-injective (m ∷ a) (n ∷ b) fits fitsb same =
    let first : character_of m ≡ character_of n = cc in
    let rest : ranks_text a ≡ ranks_text b = cc in
    let mark = sym (mark_of-character_of m (All-head IsMark m a fits)) ∙ ap mark_of first
    ∙ mark_of-character_of n (All-head IsMark n b fitsb) in
    let marks = ranks_text-injective a b (All-tail IsMark m a fits) (All-tail IsMark n b fitsb) rest in
    cc

-- marks have characters of a ballot
pub characters-of-marks : (ranks : List Mark) → All IsMark ranks → All IsMarkCharacter (ranks_text ranks)
characters-of-marks [] all = All-nil IsMarkCharacter
characters-of-marks (mark ∷ ranks) all =
    let said = All-head IsMark mark ranks all in
    let says : character_of mark ≡ said.0 = ap character_of (sym said.2) ∙ character_of-mark_of said.0 said.1 in
    All-cons IsMarkCharacter (character_of mark) (ranks_text ranks) (subst IsMarkCharacter (sym says) said.1)
    (characters-of-marks ranks (All-tail IsMark mark ranks all))

-- the marks of a text have its characters
pub text-of-marks : (text : List ℕ) → All IsMarkCharacter text → ranks_text (map mark_of text) ≡ text
text-of-marks [] all = refl
text-of-marks (c ∷ text) all =
    let first = character_of-mark_of c (All-head IsMarkCharacter c text all) in
    let rest = text-of-marks text (All-tail IsMarkCharacter c text all) in
    cc

-- the characters of marks say them
pub marks-of-characters : (ranks : List Mark) → All IsMark ranks → map mark_of (ranks_text ranks) ≡ ranks
marks-of-characters [] all = refl
marks-of-characters (mark ∷ ranks) all =
    let first = mark_of-character_of mark (All-head IsMark mark ranks all) in
    let rest = marks-of-characters ranks (All-tail IsMark mark ranks all) in
    cc

-- what characters of a ballot say
pub marks-of-text : (text : List ℕ) → All IsMarkCharacter text → All IsMark (map mark_of text)
marks-of-text [] all = All-nil IsMark
marks-of-text (c ∷ text) all =
    All-cons IsMark (mark_of c) (map mark_of text) (c, All-head IsMarkCharacter c text all, refl)
    (marks-of-text text (All-tail IsMarkCharacter c text all))
