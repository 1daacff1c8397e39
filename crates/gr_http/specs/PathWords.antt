-- Routers that have the routes of one shape by their words: a path is its word, with the number of a resolution beside
-- it.
use Rattle.std.specs.Prelude.{◌≡◌, Bool, true, false, ◌&&◌, List, ℕ, [], ◌∷◌, map, Option, None, Ok, codes, option_map}
use Rattle.std.specs.Map.{lookup}
use Rattle.std.specs.Str.{bytes_eq}
use Rattle.matchit.specs.Rows.{RowsOf}
use Rattle.matchit.specs.Route.{Scan, parse_route}
use Rattle.matchit.specs.Order.{placed}
use Rattle.matchit.specs.Router.{RouteOf, nearest, route_from}
use Rattle.matchit.specs.Seek.{first}
use Rattle.gr_http.specs.declared.route.Route.{Route}
use Rattle.gr_http.specs.declared.route.Route.TheVariants as at
use Rattle.gr_http.specs.declared.route.Shape.{Shape}
use Rattle.gr_http.specs.declared.route.Shape.TheVariants.{Plain, OfResolution, InResolution}
use Rattle.gr_http.specs.Number.{is_number}
use Rattle.gr_http.specs.Route.{entry_of, segments, all_fit}

-- the shape and the word of a path, where these segments are numbers of resolutions; and whether it has that shape
abbrev pub said_by : (List ℕ → Bool) → List (List ℕ) → Shape × List ℕ × Bool
said_by is_resolution ([] ∷ word ∷ []) = (Plain, word, true)
said_by is_resolution ([] ∷ word ∷ number ∷ []) = (OfResolution, word, is_resolution number)
said_by is_resolution ([] ∷ first ∷ number ∷ word ∷ others) =
    (InResolution, word, bytes_eq first (codes "resolutions") && (is_resolution number && all_fit [] others))
said_by is_resolution other = (Plain, [], false)

-- those of the path of a request
abbrev pub said_in : List (List ℕ) → Shape × List ℕ × Bool
said_in = said_by is_number

-- the word of the path of a route, where {r} stands for the number
abbrev pub path_word : Route → List ℕ
path_word route = (said_by (λ text. bytes_eq text (codes "{r}")) (segments (entry_of route).path)).1

-- the routes of a shape, in the order of their words
abbrev pub routes_of : Shape → List Route
routes_of Plain = at.Developers ∷ at.Import ∷ at.Resolutions ∷ at.Roll ∷ []
routes_of OfResolution = at.Result ∷ at.Status ∷ at.Tally ∷ []
routes_of InResolution =
    at.Adopt ∷ at.Amend ∷ at.Call ∷ at.Cast ∷ at.Choice ∷ at.Close ∷ at.Sponsor
    ∷ at.Unsponsor ∷ at.Vary ∷ at.Vote ∷ at.Withdraw ∷ []

-- routes by their words
abbrev pub by_word : List Route → List (List ℕ × Route)
by_word = map (λ route. (path_word route, route))

-- the route of this shape with this word
unfoldable pub route_with : Shape → List ℕ → Option Route
route_with shape word = lookup (λ known. bytes_eq known word) (by_word (routes_of shape))

-- the word reads as a pattern that conflicts with none of the rows
abbrev pub IsFree : List ℕ → RowsOf (RouteOf Route) → Type 0
IsFree word rows = (read : Scan) × (parse_route word ≡ Ok read) × (nearest read.pattern rows ≡ None)

-- the rows have this route in its place
abbrev pub Adds : List ℕ → Route → RowsOf (RouteOf Route) → RowsOf (RouteOf Route) → Type 0
Adds word route old new =
    (read : Scan) × (parse_route word ≡ Ok read) × (new ≡ placed (read.pattern, route_from read route) old)

-- of each word the router finds its route of this shape
abbrev pub IsTable : Shape → RowsOf (RouteOf Route) → Type 0
IsTable shape rows = (word : List ℕ) → option_map (λ found. found.value) (first rows word) ≡ route_with shape word
