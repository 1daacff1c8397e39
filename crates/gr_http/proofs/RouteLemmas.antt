-- The segments of a path, and that the word of a path and its shape tell its route.
use Rattle.std.proofs.Common.{◌≡◌, ℕ, suc, ◌<◌, Bool, true, false, cond, ◌&&◌, List, [], ◌∷◌, ◌++◌, length, get_or, Option, Some, None, refl, sym, ap, ◌∙◌, arith}
use Rattle.std.specs.Prelude.{◌==◌, ◌≢◌, codes}
use Rattle.std.specs.Map.{lookup}
use Rattle.std.specs.Str.{bytes_eq}
use Rattle.std.proofs.Math.Bool.{and_comm, and-false, and-true}
use Rattle.std.proofs.lemmas.Bool.{and_parts}
use Rattle.std.proofs.lemmas.Bool.Decides.{nat_tests, same_from_decides}
use Rattle.std.proofs.lemmas.Map.Made.{Contains-values_of}
use Rattle.std.proofs.lemmas.Map.Views.{Contains-from_lookup}
use Rattle.std.proofs.lemmas.Slice.Eq.{bytes_eq-Decides}
use denote.Enum.Bare.{sameb}
use Rattle.gr_http.specs.contracts.route.Shape.{the_type}
use Rattle.gr_http.specs.declared.route.Route.{Route}
use Rattle.gr_http.specs.declared.route.Route.TheVariants as at
use Rattle.gr_http.specs.declared.route.Shape.{Shape}
use Rattle.gr_http.specs.declared.route.Shape.TheVariants.{Plain, OfResolution, InResolution}
use Rattle.gr_http.specs.Number.{is_number}
use Rattle.gr_http.specs.Route.{entry_of, routes, all_fit, fits, longer, segments, first_with, route_of, PathsHaveOneRoute, RoutesAreInTheTable}
use Rattle.gr_http.specs.PathWords.{by_word, said_by, path_word, said_in, route_with}

-- what has no slash is the first segment
pub segments-first : (segment rest : List ℕ) (others : List (List ℕ)) → segments rest ≡ [] ∷ others
    → ((i : ℕ) → i < length segment → get_or segment i 0 ≢ 47) → segments (segment ++ rest) ≡ segment ∷ others
segments-first [] rest others is free = is
segments-first (x ∷ segment) rest others is free =
    let other : (x == 47) ≡ false = grind (arith, nat_tests, free 0 (omega arith)) in
    ap (λ b. cond b ([] ∷ segments (segment ++ rest)) (longer x (segments (segment ++ rest)))) other
    ∙ ap (longer x) (segments-first segment rest others is (λ i inside. free (suc i) (omega arith)))

-- there is one at least
pub segments_some : (path : List ℕ) → all_fit [] (segments path) ≡ false
segments_some [] = refl
segments_some (x ∷ path) =
    elim (x == 47) as (λ b. all_fit [] (cond b ([] ∷ segments path) (longer x (segments path))) ≡ false) [
      | true ↦ refl
      | false ↦ elim (segments path) as (λ others. all_fit [] (longer x others) ≡ false) [ [] ↦ refl | _ ∷ _ ↦ refl ]
    ]

-- the segments of a route's path after its first slash
abbrev pattern : Shape → List ℕ → List (List ℕ)
pattern Plain word = word ∷ []
pattern OfResolution word = word ∷ codes "{r}" ∷ []
pattern InResolution word = codes "resolutions" ∷ codes "{r}" ∷ word ∷ []

-- the shape of the path of a route, where {r} stands for the number
abbrev shape_of : Route → Shape
shape_of route = (said_by (λ text. bytes_eq text (codes "{r}")) (segments (entry_of route).path)).0

-- what is so of each route: its word tells it, its path is made of its shape and its word, which is not {r}
record IsKnown (route : Route) : Type 0 where
  told : lookup (λ known. bytes_eq known (path_word route)) (by_word routes) ≡ Some route
  path : segments (entry_of route).path ≡ [] ∷ pattern (shape_of route) (path_word route)
  name : bytes_eq (path_word route) (codes "{r}") ≡ false

known : (route : Route) → IsKnown route
known at.Roll = record { told = refl; path = refl; name = refl }
known at.Status = record { told = refl; path = refl; name = refl }
known at.Tally = record { told = refl; path = refl; name = refl }
known at.Result = record { told = refl; path = refl; name = refl }
known at.Developers = record { told = refl; path = refl; name = refl }
known at.Import = record { told = refl; path = refl; name = refl }
known at.Resolutions = record { told = refl; path = refl; name = refl }
known at.Choice = record { told = refl; path = refl; name = refl }
known at.Sponsor = record { told = refl; path = refl; name = refl }
known at.Unsponsor = record { told = refl; path = refl; name = refl }
known at.Withdraw = record { told = refl; path = refl; name = refl }
known at.Adopt = record { told = refl; path = refl; name = refl }
known at.Amend = record { told = refl; path = refl; name = refl }
known at.Vary = record { told = refl; path = refl; name = refl }
known at.Call = record { told = refl; path = refl; name = refl }
known at.Vote = record { told = refl; path = refl; name = refl }
known at.Close = record { told = refl; path = refl; name = refl }
known at.Cast = record { told = refl; path = refl; name = refl }

abbrev same_shape : Shape → Shape → Bool
same_shape = sameb the_type

-- what a path says is this word in this shape
abbrev is_said : Shape → List ℕ → Shape × List ℕ × Bool → Bool
is_said shape word said = said.2 && (same_shape shape said.0 && bytes_eq word said.1)

turned : (a b : List ℕ) → bytes_eq a b ≡ bytes_eq b a
turned a b =
    let other = bytes_eq-Decides b a in
    same_from_decides (bytes_eq a b) (bytes_eq b a) (bytes_eq-Decides a b) ((λ same. sym (other.0 same)), (λ same. other.1 (sym same)))

arrange : (a b c d : Bool) → (a && (b && (c && d))) ≡ ((a && (b && d)) && c)
arrange false b c d = refl
arrange true false c d = refl
arrange true true true d = sym (and-true d)
arrange true true false d = sym (and-false d)

-- a path fits that of a route just where it says the word of the route in its shape
path-fits : (shape : Shape) (word : List ℕ) → ((segment : List ℕ) → fits word segment ≡ bytes_eq word segment) → (path : List (List ℕ))
    → all_fit ([] ∷ pattern shape word) path ≡ is_said shape word (said_in path)
path-fits shape word plain [] = refl
path-fits shape word plain ((x ∷ segment) ∷ path) = refl
path-fits Plain word plain ([] ∷ []) = refl
path-fits OfResolution word plain ([] ∷ []) = refl
path-fits InResolution word plain ([] ∷ []) = refl
path-fits Plain word plain ([] ∷ f ∷ []) = and-true (fits word f) ∙ plain f
path-fits OfResolution word plain ([] ∷ f ∷ []) = and-false (fits word f)
path-fits InResolution word plain ([] ∷ f ∷ []) = and-false (bytes_eq (codes "resolutions") f)
path-fits Plain word plain ([] ∷ f ∷ s ∷ []) = and-false (fits word f) ∙ sym (and-false (is_number s))
path-fits OfResolution word plain ([] ∷ f ∷ s ∷ []) =
    ap (λ b. b && (is_number s && true)) (plain f) ∙ and_comm (bytes_eq word f) (is_number s && true) ∙ ap (λ b. b && bytes_eq word f) (and-true (is_number s))
path-fits InResolution word plain ([] ∷ f ∷ s ∷ []) =
    ap (λ b. bytes_eq (codes "resolutions") f && b) (and-false (is_number s)) ∙ and-false (bytes_eq (codes "resolutions") f) ∙ sym (and-false (is_number s))
path-fits Plain word plain ([] ∷ f ∷ s ∷ t ∷ others) = and-false (fits word f) ∙ sym (and-false (said_in ([] ∷ f ∷ s ∷ t ∷ others)).2)
path-fits OfResolution word plain ([] ∷ f ∷ s ∷ t ∷ others) =
    ap (λ b. fits word f && b) (and-false (is_number s)) ∙ and-false (fits word f) ∙ sym (and-false (said_in ([] ∷ f ∷ s ∷ t ∷ others)).2)
path-fits InResolution word plain ([] ∷ f ∷ s ∷ t ∷ others) =
    ap (λ b. b && (is_number s && (fits word t && all_fit [] others))) (turned (codes "resolutions") f)
    ∙ ap (λ b. bytes_eq f (codes "resolutions") && (is_number s && b)) (ap (λ b. b && all_fit [] others) (plain t))
    ∙ arrange (bytes_eq f (codes "resolutions")) (is_number s) (bytes_eq word t) (all_fit [] others)

route-fits : (route : Route) (path : List (List ℕ))
    → all_fit (segments (entry_of route).path) path ≡ is_said (shape_of route) (path_word route) (said_in path)
route-fits route path =
    let word = path_word route in
    let plain : (segment : List ℕ) → fits word segment ≡ bytes_eq word segment =
    λ segment. ap (λ b. cond b (is_number segment) (bytes_eq word segment)) (known route).name in
    ap (λ own. all_fit own path) (known route).path ∙ path-fits (shape_of route) word plain path

said-tells : (route : Route) (said : Shape × List ℕ × Bool) → is_said (shape_of route) (path_word route) said ≡ true
    → lookup (λ known. bytes_eq known said.1) (by_word routes) ≡ Some route
said-tells route said is =
    let both = (and_parts said.2 (same_shape (shape_of route) said.0 && bytes_eq (path_word route) said.1) is).1 in
    let same = (and_parts (same_shape (shape_of route) said.0) (bytes_eq (path_word route) said.1) both).1 in
    ap (λ word. lookup (λ known. bytes_eq known word) (by_word routes)) (sym ((bytes_eq-Decides (path_word route) said.1).0 same)) ∙ (known route).told

pub one-route : PathsHaveOneRoute
one-route path one other first second =
    let said = said_in (segments path) in
    let here = said-tells one said (sym (route-fits one (segments path)) ∙ first) in
    let there = said-tells other said (sym (route-fits other (segments path)) ∙ second) in
    let same = sym here ∙ there in cc (same)

pub in-the-table : RoutesAreInTheTable
in-the-table route =
    let exact : (word known : List ℕ) → bytes_eq known word ≡ true → word ≡ known = λ word known same. sym ((bytes_eq-Decides known word).0 same) in
    Contains-values_of (by_word routes) (path_word route) route (Contains-from_lookup exact (path_word route) route (by_word routes) (known route).told)

-- the first of the routes whose word the path says in its shape
abbrev first_said : Shape × List ℕ × Bool → List Route → Option Route
first_said said [] = None
first_said said (route ∷ list) = cond (is_said (shape_of route) (path_word route) said) (Some route) (first_said said list)

first-said : (path : List ℕ) (list : List Route) → first_with path list ≡ first_said (said_in (segments path)) list
first-said path [] = refl
first-said path (route ∷ list) =
    ap (λ fit. cond fit (Some route) (first_with path list)) (route-fits route (segments path))
    ∙ ap (cond (is_said (shape_of route) (path_word route) (said_in (segments path))) (Some route)) (first-said path list)

-- the route of a path of a shape is that with its word
pub route-said : (shape : Shape) (path word : List ℕ) → said_in (segments path) ≡ (shape, word, true) → route_of path ≡ route_with shape word
unfolding route_of route_with
route-said Plain path word said = first-said path routes ∙ ap (λ said. first_said said routes) said
route-said OfResolution path word said = first-said path routes ∙ ap (λ said. first_said said routes) said
route-said InResolution path word said = first-said path routes ∙ ap (λ said. first_said said routes) said

-- a path of no shape has no route
pub route-unsaid : (path : List ℕ) → (said_in (segments path)).2 ≡ false → route_of path ≡ None
unfolding route_of
route-unsaid path none =
    first-said path routes ∙ ap (λ is. first_said ((said_in (segments path)).0, (said_in (segments path)).1, is) routes) none
