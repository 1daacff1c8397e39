use Rattle.gr_http.proofs.RouteLemmas.{one-route, in-the-table}
use Rattle.gr_http.proofs.route.paths_have_one_route.Goals as goal

pub returns-clause-one : goal.returns-clause-one
returns-clause-one c = one-route

pub returns-clause-all : goal.returns-clause-all
returns-clause-all c = in-the-table
