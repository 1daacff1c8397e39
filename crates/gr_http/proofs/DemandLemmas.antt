-- What a request asks, once its route is found and its method is the right one.
use Rattle.std.proofs.Common.{◌≡◌, ℕ, true, cond, List, Option, Some, None, ap, ◌∙◌}
use Rattle.std.specs.Prelude.{Err, option_map}
use Rattle.std.specs.Option.{ok_or}
use Rattle.std.specs.Str.{bytes_eq}
use Rattle.gr_http.specs.declared.route.Route.{Route}
use Rattle.gr_http.specs.declared.problem.Problem.TheVariants.{NotFound, MethodNotAllowed}
use Rattle.gr_http.specs.Method.{method_of}
use Rattle.gr_http.specs.Problem.{◌>>=◌}
use Rattle.gr_http.specs.Request.{Texts}
use Rattle.gr_http.specs.Route.{entry_of, route_of, resolution_in, path_of}
use Rattle.gr_http.specs.Demand.{asked_of, asked_by, asked_in}

-- a route that is found beside a number is the route
route_beside : (number : ℕ) (found : Option Route) (route : Route) (resolution : ℕ)
    → ◌≡◌ {A = Option (Route × ℕ)} (Some (route, resolution)) (option_map (λ at. (at, number)) found)
    → (found ≡ Some route) × (number ≡ resolution)
route_beside number None route resolution is = absurd (cc)
route_beside number (Some other) route resolution is =
    let same : ◌≡◌ {A = Route × ℕ} (other, number) (route, resolution) = cc in
    (ap (λ (pair : Route × ℕ). Some pair.0) same, ap (λ (pair : Route × ℕ). pair.1) same)

pub asked_in-found : (request : Texts) (route : Route) (resolution : ℕ)
    → ◌≡◌ {A = Option (Route × ℕ)} (Some (route, resolution))
    (option_map (λ at. (at, resolution_in (path_of request.target))) (route_of (path_of request.target)))
    → asked_in request ≡ asked_by request.method route resolution request.body
asked_in-found request route resolution is =
    let number = resolution_in (path_of request.target) in
    let parts = route_beside number (route_of (path_of request.target)) route resolution is in
    ap (λ found. ok_or found NotFound >>= (λ at. asked_by request.method at number request.body)) parts.0
    ∙ ap (λ n. asked_by request.method route n request.body) parts.1

pub asked_by-allowed : (method : List ℕ) (route : Route) (resolution : ℕ) (body : List ℕ)
    → bytes_eq method (method_of (entry_of route).method) ≡ true
    → asked_by method route resolution body ≡ asked_of route resolution body
asked_by-allowed method route resolution body allowed =
    ap (λ b. cond b (asked_of route resolution body) (Err (MethodNotAllowed (entry_of route).method))) allowed
