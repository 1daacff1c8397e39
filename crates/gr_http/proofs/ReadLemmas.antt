-- Reads that are needed, one after the other.
use Rattle.std.proofs.Common.{◌≡◌, ℕ, ◌+◌, ◌≤◌, List, [], ◌∷◌, ◌++◌, length, take, Option, Some, None, sym, ap, ◌∙◌, subst, append_assoc, append-nil}
use Rattle.std.specs.List.{concat}
use Rattle.gr_http.specs.Reads.{Takes, Reads, AreNeeded, Brought}
use Rattle.gr_http.proofs.StreamLemmas.{take-put_mid-part}
use borrow.Rule.Slice.PartMut.{put_mid}

-- what calls brought, and one more
pub concat-snoc : (calls : List (List ℕ)) (call : List ℕ) → concat (calls ++ call ∷ []) ≡ concat calls ++ call
concat-snoc [] call = append-nil call
concat-snoc (first ∷ calls) call = ap (λ l. first ++ l) (concat-snoc calls call) ∙ sym (append_assoc first (concat calls) call)

-- one more call is needed where what there is then is not enough
needed-snoc : (P : List ℕ → Type 0) (bytes : List ℕ) (calls : List (List ℕ)) (call : List ℕ) → AreNeeded P bytes calls
    → ¬ P (bytes ++ concat calls) → AreNeeded P bytes (calls ++ call ∷ [])
needed-snoc P bytes [] call needed not_enough = ((λ enough. not_enough (subst P (sym (append-nil bytes)) enough)), tt)
needed-snoc P bytes (first ∷ calls) call needed not_enough = (
  needed.0,
  needed-snoc P (bytes ++ first) calls call needed.1
      (λ enough. not_enough (subst P (append_assoc bytes first (concat calls)) enough)),
)

-- What is needed after some bytes is needed with them, where what is enough with them is enough after them.
pub needed-behind : (P Q : List ℕ → Type 0) (front bytes : List ℕ) (calls : List (List ℕ)) → ((more : List ℕ) → Q (front ++ more) → P more)
    → AreNeeded P bytes calls → AreNeeded Q (front ++ bytes) calls
needed-behind P Q front bytes [] enough needed = tt
needed-behind P Q front bytes (call ∷ calls) enough needed = (
  λ is. needed.0 (enough bytes is),
  subst (λ l. AreNeeded Q l calls) (sym (append_assoc front bytes call)) (needed-behind P Q front (bytes ++ call) calls enough needed.1),
)

-- calls after calls
pub needed-append : (P : List ℕ → Type 0) (bytes : List ℕ) (calls others : List (List ℕ)) → AreNeeded P bytes calls
    → AreNeeded P (bytes ++ concat calls) others → AreNeeded P bytes (calls ++ others)
needed-append P bytes [] others needed behind = subst (λ l. AreNeeded P l others) (append-nil bytes) behind
needed-append P bytes (first ∷ calls) others needed behind = (
  needed.0,
  needed-append P (bytes ++ first) calls others needed.1
      (subst (λ l. AreNeeded P l others) (sym (append_assoc bytes first (concat calls))) behind),
)

-- ==== where the input tells of its calls

-- no call at all
pub Reads-none : (a : Option (List (List ℕ))) (Are : List (List ℕ) → Type 0) → Are [] → Reads a a Are
Reads-none None Are are = tt
Reads-none (Some old) Are are = ([], sym (append-nil old), are)

-- what holds of calls holds in other words
pub Reads-weaker : (a b : Option (List (List ℕ))) (Are Other : List (List ℕ) → Type 0) → ((calls : List (List ℕ)) → Are calls → Other calls)
    → Reads a b Are → Reads a b Other
Reads-weaker None b Are Other weaker reads = tt
Reads-weaker (Some old) None Are Other weaker reads = reads
Reads-weaker (Some old) (Some new) Are Other weaker (calls, is, are) = (calls, is, weaker calls are)

-- one more call
pub Reads-snoc : (a b c : Option (List (List ℕ))) (call : List ℕ) (Are Other : List (List ℕ) → Type 0)
    → ((calls : List (List ℕ)) → Are calls → Other (calls ++ call ∷ [])) → Reads a b Are → Takes b c call → Reads a c Other
Reads-snoc None b c call Are Other more reads takes = tt
Reads-snoc (Some old) None c call Are Other more reads takes = absurd reads
Reads-snoc (Some old) (Some mid) None call Are Other more reads takes = absurd takes
Reads-snoc (Some old) (Some mid) (Some new) call Are Other more (calls, is, are) takes =
    (calls ++ call ∷ [], takes ∙ ap (λ l. l ++ call ∷ []) is ∙ append_assoc old calls (call ∷ []), more calls are)

-- calls after calls
pub Reads-append : (a b c : Option (List (List ℕ))) (Are Others Both : List (List ℕ) → Type 0)
    → ((calls others : List (List ℕ)) → Are calls → Others others → Both (calls ++ others)) → Reads a b Are → Reads b c Others → Reads a c Both
Reads-append None b c Are Others Both both reads behind = tt
Reads-append (Some old) None c Are Others Both both reads behind = absurd reads
Reads-append (Some old) (Some mid) None Are Others Both both reads behind = absurd behind
Reads-append (Some old) (Some mid) (Some new) Are Others Both both (calls, is, are) (others, is', are') =
    (calls ++ others, is' ∙ ap (λ l. l ++ others) is ∙ append_assoc old calls others, both calls others are are')

-- ==== calls that fill a buffer

module _ (P : List ℕ → Type 0) where
  brought-snoc : (bytes call : List ℕ) → ¬ P bytes → (calls : List (List ℕ)) → Brought P bytes calls → Brought P (bytes ++ call) (calls ++ call ∷ [])
  brought-snoc bytes call not_enough calls (needed, are) = (
    needed-snoc P [] calls call needed (λ enough. not_enough (subst P are enough)),
    concat-snoc calls call ∙ ap (λ l. l ++ call) are,
  )

  -- the next bytes of a buffer
  pub Reads-rest : (a b c : Option (List (List ℕ))) (i k n : ℕ) (xs ys : List ℕ) → i ≤ length xs → n ≤ length ys → ¬ P (take i xs)
      → Reads a b (Brought P (take i xs)) → Takes b c (take n ys) → Reads a c (Brought P (take (i + n) (put_mid i k xs ys)))
  Reads-rest a b c i k n xs ys within fits not_enough before now =
      subst (λ bytes. Reads a c (Brought P bytes)) (sym (take-put_mid-part i k n xs ys within fits))
      (Reads-snoc a b c (take n ys) (Brought P (take i xs)) (Brought P (take i xs ++ take n ys)) (brought-snoc (take i xs) (take n ys) not_enough)
      before now)

  -- a last one
  pub Reads-last : (a b c : Option (List (List ℕ))) (bytes call : List ℕ) → ¬ P bytes → Reads a b (Brought P bytes) → Takes b c call
      → Reads a c (AreNeeded P [])
  Reads-last a b c bytes call not_enough before now =
      Reads-snoc a b c call (Brought P bytes) (AreNeeded P []) (λ calls brought. (brought-snoc bytes call not_enough calls brought).0) before now

  pub Reads-needed : (a b : Option (List (List ℕ))) (bytes : List ℕ) → Reads a b (Brought P bytes) → Reads a b (AreNeeded P [])
  Reads-needed a b bytes reads = Reads-weaker a b (Brought P bytes) (AreNeeded P []) (λ calls brought. brought.0) reads
