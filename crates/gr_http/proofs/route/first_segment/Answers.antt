-- `split_once` tells the bytes around the first slash.
use Rattle.std.proofs.Common.{Some, None, [], ◌∷◌, refl, sym, append-nil, arith, ap, ◌∙◌}
use Rattle.std.proofs.lemmas.Str.Pattern.{split_parts}
use Rattle.gr_http.specs.Route.{segments}
use Rattle.gr_http.proofs.RouteLemmas.{segments-first}
use Rattle.gr_http.proofs.route.first_segment.Goals as goal

pub returns-in-Some : goal.returns-in-Some
returns-in-Some c =
    let (whole, free) = split_parts 47 c.args.path.now (Some (c.in-Some.segment, c.in-Some.rest)) c.in-Some.ensures.cases (omega arith) in
    let rest = c.in-Some.rest.now in
    ap segments whole ∙ segments-first c.in-Some.segment.now (47 ∷ rest) (segments rest) refl free

pub returns-in-None : goal.returns-in-None
returns-in-None c =
    let path = c.args.path.now in
    let free = split_parts 47 path None c.in-None.ensures.cases (omega arith) in
    ap segments (sym (append-nil path)) ∙ segments-first path [] [] refl free
