-- Bytes that are written or read part by part.
use Rattle.std.proofs.Common.{◌≡◌, ℕ, ◌+◌, ◌-◌, ◌≤◌, List, ◌++◌, length, take, drop, Option, sym, ap, ◌∙◌, subst, length-take-le}
use Rattle.std.proofs.Math.Seq.{take-add, take-append-add}
use Rattle.std.proofs.lemmas.List.{take-append-le, take_rest}
use Rattle.std.specs.Io.KnownBytes.{Appends, Consumes}
use Rattle.std.proofs.KnownBytes.{Appends-trans, Consumes-trans}
use borrow.Rule.Slice.PartMut.{put_mid, post_of}

-- after the first i bytes the next n were written
pub Appends-rest : (a b c : Option (List ℕ)) (bytes : List ℕ) (i n : ℕ)
    → Appends a b (take i bytes) → Appends b c (take n (take (length bytes - i) (drop i bytes)))
    → Appends a c (take (i + n) bytes)
Appends-rest a b c bytes i n before now =
    let joined : take i bytes ++ take n (take (length bytes - i) (drop i bytes)) ≡ take (i + n) bytes =
    ap (λ l. take i bytes ++ take n l) (take_rest bytes i) ∙ sym (take-add i n bytes) in
    subst (Appends a c) joined (Appends-trans a b c _ _ before now)

-- the first i bytes stay, and n of the part that was written after them follow
pub take-put_mid-part : (i k n : ℕ) (xs ys : List ℕ) → i ≤ length xs → n ≤ length ys
    → take (i + n) (put_mid i k xs ys) ≡ take i xs ++ take n ys
take-put_mid-part i k n xs ys within fits =
    let after = post_of i k xs in
    ap (λ m. take (m + n) (take i xs ++ (ys ++ after))) (sym (length-take-le i xs within))
    ∙ take-append-add (take i xs) (ys ++ after) n
    ∙ ap (λ l. take i xs ++ l) (take-append-le n ys after fits)

-- after the first i bytes of the buffer the next n were read
pub Consumes-rest : (a b c : Option (List ℕ)) (i k n : ℕ) (xs ys : List ℕ) → i ≤ length xs → n ≤ length ys
    → Consumes a b (take i xs) → Consumes b c (take n ys) → Consumes a c (take (i + n) (put_mid i k xs ys))
Consumes-rest a b c i k n xs ys within fits before now =
    subst (Consumes a c) (sym (take-put_mid-part i k n xs ys within fits)) (Consumes-trans a b c _ _ before now)
