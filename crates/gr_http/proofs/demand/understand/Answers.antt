-- The route that was found is that of the request's path, and the method is its.
use Rattle.std.proofs.Common.{◌≡◌, true, subst, sym, ap, ◌∙◌}
use Rattle.std.specs.Str.{bytes_eq}
use Rattle.gr_http.specs.Method.{method_of}
use Rattle.gr_http.specs.Problem.{Understands}
use Rattle.gr_http.specs.Route.{entry_of}
use Rattle.gr_http.specs.Demand.{asked_of, demand_view}
use Rattle.gr_http.proofs.DemandLemmas.{asked_in-found, asked_by-allowed}
use Rattle.gr_http.proofs.demand.understand.Goals as goal

pub returns : goal.returns
returns c =
    let request = c.args.request.now in
    let route = c.in-Some.route in
    let resolution = c.in-Some.resolution in
    let known = rw (c.path_of.ensures, c.target.ensures) at (sym c.in-Some.is ∙ c.find.ensures) in
    let at_route = asked_in-found request route resolution (cc (known)) in
    let allowed : bytes_eq request.method (method_of (entry_of route).method) ≡ true = cc in
    let at_method = asked_by-allowed request.method route resolution request.body allowed in
    let body = ap (asked_of route resolution) (sym c.body.ensures) in
    subst (λ asked. Understands demand_view asked c.asked.result) (sym (at_route ∙ at_method ∙ body)) c.asked.ensures
