-- The routes so far are in their places, and those that are left are free.
use Rattle.gr_http.proofs.PathWordLemmas.{Leads}
use Rattle.gr_http.proofs.route.table.Given as goal

abbrev pub invariant-loop-route : goal.invariant-loop-route
invariant-loop-route l = Leads l.route-items l.router l.route-index
