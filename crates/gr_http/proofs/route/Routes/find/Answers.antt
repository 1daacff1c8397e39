-- The route has the word of the path, and its shape.
use Rattle.std.proofs.Common.{Some, option_map, sym, ap, ◌∙◌}
use Rattle.gr_http.specs.Route.{resolution_in}
use Rattle.gr_http.proofs.RouteLemmas.{route-unsaid, route-said}
use Rattle.gr_http.proofs.route.Routes.find.Goals as goal

pub returns-in_err-said : goal.returns-in_err-said
returns-in_err-said c =
    let path = c.args.path.now in
    c.from_residual.ensures ∙ sym (ap (option_map (λ route. (route, resolution_in path))) (route-unsaid path c.in_err-said.ensures.said))

pub returns-in_err-route : goal.returns-in_err-route
returns-in_err-route c =
    let path = c.args.path.now in
    let said = c.in_ok-said.said in
    let none = route-said said.shape path said.word.now c.in_ok-said.ensures.said ∙ sym c.in_err-route.ensures in
    c.from_residual-in_err-route.ensures ∙ sym (ap (option_map (λ route. (route, resolution_in path))) none)

pub returns : goal.returns
returns c =
    let path = c.args.path.now in
    let said = c.in_ok-said.said in
    let found = route-said said.shape path said.word.now c.in_ok-said.ensures.said ∙ sym c.in_ok-route.ensures in
    ap (λ n. Some (c.in_ok-route.route, n)) c.in_ok-said.ensures.resolution ∙ sym (ap (option_map (λ route. (route, resolution_in path))) found)
