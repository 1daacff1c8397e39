-- What is left of a text once the line feed at its end is stripped.
use Rattle.std.proofs.Common.{◌≡◌, ◌≢◌, ℕ, zero, suc, ◌+◌, ◌-◌, ◌==◌, true, false, cond, List, [], ◌∷◌, ◌++◌, length, take, slice_index, Option, Some, None, refl, sym, ap, ◌∙◌, arith}
use denote.Ref.{Bor}
use Rattle.std.specs.Prelude.{unwrap_or}
use Rattle.std.specs.Option.{MatchOption}
use Rattle.std.proofs.lemmas.Bool.{eqb-true}
use Rattle.std.proofs.lemmas.List.{length-append}
use Rattle.gr_sheet.specs.StatusSheet.{without_last_line_feed}

at_end : (front : List ℕ) (c : ℕ) → slice_index (front ++ c ∷ []) (length front) ≡ c
at_end [] c = refl
at_end (x ∷ front) c = at_end front c

up_to_end : (front : List ℕ) (c : ℕ) → take (length front) (front ++ c ∷ []) ≡ front
up_to_end [] c = refl
up_to_end (x ∷ front) c = ap (λ xs. x ∷ xs) (up_to_end front c)

one_less : (front : List ℕ) (c : ℕ) → length (front ++ c ∷ []) - 1 ≡ length front
one_less front c = let longer : length (front ++ c ∷ []) ≡ length front + 1 = length-append front (c ∷ []) in omega arith

split_at_end : (text : List ℕ) (n : ℕ) → length text ≡ n + 1 → text ≡ take n text ++ slice_index text n ∷ []
split_at_end [] n long = absurd (omega arith)
split_at_end (x ∷ []) zero long = refl
split_at_end (x ∷ y ∷ text) zero long = absurd (omega arith)
split_at_end (x ∷ text) (suc n) long = ap (λ xs. x ∷ xs) (split_at_end text n (omega arith))

-- a list whose last element is a line feed has a front and that
has_front : (text : List ℕ) → slice_index text (length text - 1) ≡ 10 → text ≡ take (length text - 1) text ++ 10 ∷ []
has_front [] is = absurd (omega arith)
has_front (x ∷ text) is =
    split_at_end (x ∷ text) (length (x ∷ text) - 1) (omega arith)
    ∙ ap (λ c. take (length (x ∷ text) - 1) (x ∷ text) ++ c ∷ []) is

-- what is left of a text once a line feed at its end is stripped
pub stripped : (text : List ℕ) (body : Bor (List ℕ)) → body.now ≡ text → (found : Option (Bor (List ℕ)))
    → MatchOption found ((front : List ℕ) → text ≢ front ++ 10 ∷ []) (λ front. text ≡ front.now ++ 10 ∷ [])
    → (unwrap_or found body).now ≡ without_last_line_feed text
stripped text body same None none =
    same ∙ elim (slice_index text (length text - 1) == 10) as (λ b. (slice_index text (length text - 1) == 10) ≡ b
    → text ≡ cond b (take (length text - 1) text) text) [
      | true ↦ λ is. absurd (none (take (length text - 1) text) (has_front text (eqb-true (slice_index text (length text - 1)) 10 is)))
      | false ↦ λ is. refl
    ] refl
stripped text body same (Some front) is =
    sym (up_to_end front.now 10)
    ∙ ap (λ n. take n (front.now ++ 10 ∷ [])) (sym (one_less front.now 10))
    ∙ ap (λ t. take (length t - 1) t) (sym is)
    ∙ (let ends : slice_index text (length text - 1) ≡ 10 =
    ap (λ t. slice_index t (length t - 1)) is ∙ ap (slice_index (front.now ++ 10 ∷ [])) (one_less front.now 10) ∙ at_end front.now 10 in
    sym (ap (λ c. cond (c == 10) (take (length text - 1) text) text) ends))
