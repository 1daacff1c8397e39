-- What a loop adds to a list or a text: for each number of a range, or each element of a list.
use Rattle.std.proofs.Common.{◌≡◌, ℕ, zero, suc, ◌+◌, ◌<◌, List, [], ◌∷◌, ◌++◌, length, get_or, take, sym, ap, ◌∙◌, arith}
use Rattle.std.specs.List.{flat_map, range_with_len}
use Rattle.std.proofs.lemmas.List.{append_assoc, append-nil, take_more}
use Rattle.std.proofs.lemmas.List.Concat.{flat_map-append}

-- what was added before and what is added now are the whole
pub grown : {X : Type 0} (old one more : List X) {all mid new : List X} → mid ≡ old ++ one → new ≡ mid ++ more → all ≡ one ++ more
    → new ≡ old ++ all
grown old one more first second whole =
    second ∙ ap (λ text. text ++ more) first ∙ append_assoc old one more ∙ ap (λ text. old ++ text) (sym whole)

pub range_suc : (a n : ℕ) → range_with_len a (suc n) ≡ range_with_len a n ++ (a + n) ∷ []
range_suc a zero = ap (λ x. x ∷ []) (omega arith)
range_suc a (suc n) =
    ap (λ xs. a ∷ xs) (range_suc (a + 1) n ∙ ap (λ x. range_with_len (a + 1) n ++ x ∷ []) (omega arith))

-- a range with one number more
pub range_more : (a n : ℕ) → range_with_len a (n + 1) ≡ range_with_len a n ++ (a + n) ∷ []
range_more a n = ap (range_with_len a) (let next : n + 1 ≡ suc n = omega arith in next) ∙ range_suc a n

pub flat_map-push : {X A : Type 0} (f : X → List A) (xs : List X) (x : X) → flat_map f (xs ++ x ∷ []) ≡ flat_map f xs ++ f x
flat_map-push f xs x = flat_map-append f xs (x ∷ []) ∙ ap (λ last. flat_map f xs ++ last) (append-nil (f x))

pub flat_map-range_more : {A : Type 0} (f : ℕ → List A) (a n j : ℕ) → a + n ≡ j
    → flat_map f (range_with_len a (n + 1)) ≡ flat_map f (range_with_len a n) ++ f j
flat_map-range_more f a n j is =
    ap (flat_map f) (range_more a n) ∙ flat_map-push f (range_with_len a n) (a + n)
    ∙ ap (λ x. flat_map f (range_with_len a n) ++ f x) is

pub flat_map-take_more : {X A : Type 0} (f : X → List A) (xs : List X) (i : ℕ) (d : X) → i < length xs
    → flat_map f (take (i + 1) xs) ≡ flat_map f (take i xs) ++ f (get_or xs i d)
flat_map-take_more f xs i d inside = ap (flat_map f) (take_more xs i d inside) ∙ flat_map-push f (take i xs) (get_or xs i d)

-- four texts were added, one after the other
pub added_four : (old a b c d : List ℕ) {one two three four : List ℕ} → one ≡ old ++ a → two ≡ one ++ b → three ≡ two ++ c → four ≡ three ++ d
    → four ≡ old ++ (a ++ (b ++ (c ++ (d ++ []))))
added_four old a b c d first second third fourth =
    fourth ∙ ap (λ text. text ++ d) (third ∙ ap (λ text. text ++ c) (second ∙ ap (λ text. text ++ b) first))
    ∙ simp (append_assoc, append-nil)
