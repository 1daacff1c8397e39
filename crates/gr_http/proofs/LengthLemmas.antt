-- What some of the Content-Length values say of a body's length.
use Rattle.std.proofs.Common.{◌≡◌, ℕ, ◌+◌, ◌*◌, ◌<◌, arith, true, false, cond, List, [], ◌∷◌, ◌++◌, length, map, take, drop, get_or, Option, Some, None, refl, sym, ap, ◌∙◌, append-nil, append_assoc}
use Rattle.std.proofs.lemmas.List.{map-append, take_more, take-append-drop}
use Rattle.std.proofs.lemmas.List.Elements.{filter-append}
use Rattle.std.specs.Prelude.{filter, is_some, Bool, ◌||◌, slice_range, Result, Err, option_and_then}
use Rattle.std.proofs.lemmas.Bool.Decides.{nat_tests}
use Rattle.std.specs.List.{list_any}
use Rattle.httparse.specs.declared.spans.HeaderSpan.{HeaderSpan}
use Rattle.httparse.specs.Spans.{header_bytes}
use Rattle.gr_http.specs.declared.problem.Problem.{Problem}
use Rattle.gr_http.specs.declared.problem.Problem.TheVariants.{BadLength}
use Rattle.gr_http.specs.Length.{Header, is_named, values_named, length_in, length_of_values, within_limit}

-- none came and no length is known, or one came, with what it says
abbrev pub IsLengthSoFar : List (List ℕ) → Option (Result ℕ Problem) → Type 0
IsLengthSoFar [] known = known ≡ None
IsLengthSoFar (value ∷ []) known = known ≡ Some (length_in value)
IsLengthSoFar (value ∷ other ∷ others) known = ⊥

-- the first value
pub IsLengthSoFar-first : (values : List (List ℕ)) (known : Option (Result ℕ Problem)) (value : List ℕ) (read : Result ℕ Problem)
    → is_some known ≡ false → IsLengthSoFar values known → read ≡ length_in value
    → IsLengthSoFar (values ++ value ∷ []) (Some read)
IsLengthSoFar-first [] known value read first none is = ap Some is
IsLengthSoFar-first (v ∷ []) known value read first one is = let some = sym (ap is_some one) ∙ first in absurd (cc)
IsLengthSoFar-first (v ∷ w ∷ others) known value read first two is = absurd two

-- a second value
pub length_of_values-second : (values : List (List ℕ)) (known : Option (Result ℕ Problem)) (value : List ℕ) (others : List (List ℕ))
    → is_some known ≡ true → IsLengthSoFar values known
    → Err BadLength ≡ length_of_values (values ++ value ∷ others)
length_of_values-second [] known value others again none = let some = sym (ap is_some none) ∙ again in absurd (cc)
length_of_values-second (v ∷ []) known value others again one = refl
length_of_values-second (v ∷ w ∷ more) known value others again two = absurd two

-- one digit more
pub within_limit-more : (n digit : ℕ) → option_and_then (λ m. within_limit (m * 10 + digit)) (within_limit n) ≡ within_limit (n * 10 + digit)
within_limit-more n digit = grind (arith, nat_tests)

-- the values of two parts, one after the other
values_named-append : (name : List ℕ) (xs ys : List Header)
    → values_named name (xs ++ ys) ≡ values_named name xs ++ values_named name ys
values_named-append name xs ys =
    ap (map (λ (header : Header). header.1)) (filter-append (is_named name) xs ys)
    ∙ map-append (λ (header : Header). header.1) (filter (is_named name) xs) (filter (is_named name) ys)

-- the value of one header with the name
values_named-one : (name : List ℕ) (header : Header) → is_named name header ≡ true
    → values_named name (header ∷ []) ≡ header.1 ∷ []
values_named-one name header named =
    ap (λ b. map (λ (h : Header). h.1) (cond b (header ∷ []) [])) named

-- the value of one header with another name
values_named-none : (name : List ℕ) (header : Header) → is_named name header ≡ false
    → values_named name (header ∷ []) ≡ []
values_named-none name header other =
    ap (λ b. map (λ (h : Header). h.1) (cond b (header ∷ []) [])) other

-- one header more
values_named-more : {X : Type 0} (name : List ℕ) (view : X → Header) (xs : List X) (i : ℕ) (x : X) → i < length xs
    → values_named name (map view (take (i + 1) xs))
    ≡ values_named name (map view (take i xs)) ++ values_named name (view (get_or xs i x) ∷ [])
values_named-more name view xs i x inside =
    ap (λ l. values_named name (map view l)) (take_more xs i x inside)
    ∙ ap (values_named name) (map-append view (take i xs) (get_or xs i x ∷ []))
    ∙ values_named-append name (map view (take i xs)) (view (get_or xs i x) ∷ [])

-- one header more, with the name
pub values_named-more_one : {X : Type 0} (name : List ℕ) (view : X → Header) (xs : List X) (i : ℕ) (x : X) → i < length xs
    → is_named name (view (get_or xs i x)) ≡ true
    → values_named name (map view (take (i + 1) xs))
    ≡ values_named name (map view (take i xs)) ++ (view (get_or xs i x)).1 ∷ []
values_named-more_one name view xs i x inside named =
    values_named-more name view xs i x inside
    ∙ ap (λ l. values_named name (map view (take i xs)) ++ l) (values_named-one name (view (get_or xs i x)) named)

-- one header more, with another name
pub values_named-more_none : {X : Type 0} (name : List ℕ) (view : X → Header) (xs : List X) (i : ℕ) (x : X) → i < length xs
    → is_named name (view (get_or xs i x)) ≡ false
    → values_named name (map view (take (i + 1) xs)) ≡ values_named name (map view (take i xs))
values_named-more_none name view xs i x inside other =
    values_named-more name view xs i x inside
    ∙ ap (λ l. values_named name (map view (take i xs)) ++ l) (values_named-none name (view (get_or xs i x)) other)
    ∙ append-nil (values_named name (map view (take i xs)))

-- the values before a header with the name, its value, and the values after it
pub values_named-at : {X : Type 0} (name : List ℕ) (view : X → Header) (xs : List X) (i : ℕ) (x : X) → i < length xs
    → is_named name (view (get_or xs i x)) ≡ true
    → values_named name (map view xs)
    ≡ values_named name (map view (take i xs))
    ++ (view (get_or xs i x)).1 ∷ values_named name (map view (drop (i + 1) xs))
values_named-at name view xs i x inside named =
    let front = values_named name (map view (take i xs)) in
    let back = values_named name (map view (drop (i + 1) xs)) in
    sym (ap (λ l. values_named name (map view l)) (take-append-drop (i + 1) xs))
    ∙ ap (values_named name) (map-append view (take (i + 1) xs) (drop (i + 1) xs))
    ∙ values_named-append name (map view (take (i + 1) xs)) (map view (drop (i + 1) xs))
    ∙ ap (λ l. l ++ back) (values_named-more_one name view xs i x inside named)
    ∙ append_assoc front ((view (get_or xs i x)).1 ∷ []) back

-- what the loops over headers read past the end
abbrev pub no_header : HeaderSpan
no_header = record { name = record { start = 0; end = 0 }; value = record { start = 0; end = 0 } }

-- a test of the name alone is one of the header
pub is_named-header_bytes : (wanted bytes name : List ℕ) (header : HeaderSpan) (b : Bool)
    → name ≡ slice_range bytes header.name.start header.name.end
    → ((value : List ℕ) → b ≡ is_named wanted (name, value)) → is_named wanted (header_bytes bytes header) ≡ b
is_named-header_bytes wanted bytes name header b is test =
    let value = slice_range bytes header.value.start header.value.end in
    sym (ap (λ n. is_named wanted (n, value)) is) ∙ sym (test value)

-- a test of the images
pub list_any-map : {X Y : Type 0} (p : Y → Bool) (f : X → Y) (xs : List X)
    → list_any p (map f xs) ≡ list_any (λ x. p (f x)) xs
list_any-map p f [] = refl
list_any-map p f (x ∷ xs) = ap (λ b. p (f x) || b) (list_any-map p f xs)
