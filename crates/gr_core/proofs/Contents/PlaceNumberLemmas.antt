-- The places that the live choices of a resolution get are 1, 2, and so on.
use Rattle.std.proofs.Common.{◌≡◌, ℕ, zero, suc, ◌+◌, true, false, cond, List, [], ◌∷◌, ◌++◌, length, None, refl, sym, ap, ◌∙◌, length-append, arith}
use Rattle.std.specs.List.{AllByRecursion, cons_option}
use Rattle.gr_core.specs.Machine.Bookkeeping.{is_live}
use Rattle.gr_core.specs.Desks.Valid.{places_of, up_to}
use Rattle.gr_core.proofs.Contents.PlaceLemmas.{live_among}
use Rattle.gr_core.proofs.Contents.PlacingLemmas.{Entry, at_place, marked}

-- so many numbers from this one on
abbrev pub from : ℕ → ℕ → List ℕ
from first zero = []
from first (suc count) = first ∷ from (first + 1) count

-- one number more comes last
from-last : (first count : ℕ) → from first (suc count) ≡ from first count ++ (first + count) ∷ []
from-last first zero = ap (λ n. n ∷ []) (let same : first ≡ first + 0 = omega arith in same)
from-last first (suc count) =
    ap (λ rest. first ∷ rest) (from-last (first + 1) count
    ∙ ap (λ n. from (first + 1) count ++ n ∷ [])
    (let same : first + 1 + count ≡ first + suc count = omega arith in same))

-- from 1 on, they are the numbers up to that one
pub from-one : (count : ℕ) → from 1 count ≡ up_to count
from-one zero = refl
from-one (suc count) =
    from-last 1 count ∙ ap (λ numbers. numbers ++ (1 + count) ∷ []) (from-one count)
    ∙ ap (λ n. up_to count ++ n ∷ []) (let same : 1 + count ≡ suc count = omega arith in same)

-- there are so many numbers up to a number
pub length-up_to : (count : ℕ) → length (up_to count) ≡ count
length-up_to zero = refl
length-up_to (suc count) =
    let rest = length-up_to count in
    length-append (up_to count) (suc count ∷ [])
    ∙ (let more : length (up_to count) + 1 ≡ suc count = omega arith in more)

-- choices that had no places have them from this one on, as many as live
places-marked : (at place : ℕ) (es : List Entry) → AllByRecursion (λ e. e.1.place ≡ None) es
    → places_of (marked at place es) ≡ from place (length (live_among at es))
places-marked at place [] none = refl
places-marked at place (e ∷ es) none =
    elim (is_live at e.1) as (λ b. places_of
    (cond b ((e.0, at_place e.1 place) ∷ marked at (place + 1) es) (e ∷ marked at place es))
    ≡ from place (length (cond b (e ∷ live_among at es) (live_among at es)))) [
      | true ↦ ap (λ rest. place ∷ rest) (places-marked at (place + 1) es none.1)
      | false ↦ ap (λ o. cons_option o (places_of (marked at place es))) none.0 ∙ places-marked at place es none.1
    ]

-- there are as many places as live choices
pub length-marked : (at : ℕ) (es : List Entry) → AllByRecursion (λ e. e.1.place ≡ None) es
    → length (places_of (marked at 1 es)) ≡ length (live_among at es)
length-marked at es none = ap length (places-marked at 1 es none ∙ from-one (length (live_among at es)))
    ∙ length-up_to (length (live_among at es))

-- they are the numbers from 1
pub marked-up_to : (at : ℕ) (es : List Entry) → AllByRecursion (λ e. e.1.place ≡ None) es
    → places_of (marked at 1 es) ≡ up_to (length (places_of (marked at 1 es)))
marked-up_to at es none = places-marked at 1 es none ∙ from-one (length (live_among at es))
    ∙ ap up_to (sym (length-marked at es none))
