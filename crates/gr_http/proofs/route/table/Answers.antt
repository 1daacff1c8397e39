-- The routes are added in the order of their words.
use Rattle.std.proofs.Common.{[], subst, ap, sym, ◌∙◌}
use Rattle.std.proofs.lemmas.List.{at_drop_all}
use Rattle.gr_http.specs.PathWords.{IsTable}
use Rattle.gr_http.proofs.PathWordLemmas.{built, next-free, next-leads, nothing-leads, makes-table}
use Rattle.gr_http.proofs.route.table.Goals as goal

pub loop-route-init : goal.loop-route-init
loop-route-init c = rw (c.new-router.ensures, c.routes-route-items.ensures) (nothing-leads c.args.shape)

pub insert-requires : goal.insert-requires
insert-requires c =
    next-free c.routes-route-items.result.now c.loop-route.router c.loop-route.route-index c.loop-route-test.true c.loop-route.invariant

pub loop-route-preserved : goal.loop-route-preserved
loop-route-preserved c =
    next-leads c.routes-route-items.result.now c.loop-route.router c.loop-route.route-index c.loop-route-test.true c.loop-route.invariant _
    c.in_ok-insert.ensures

pub returns : goal.returns
returns c =
    let list = c.routes-route-items.result.now in
    let whole = sym (at_drop_all (built c.loop-route.router) list c.loop-route.route-index c.loop-route-test.false)
    ∙ c.loop-route.invariant.built ∙ ap (built []) c.routes-route-items.ensures in
    subst (IsTable c.args.shape) (sym whole) (makes-table c.args.shape)
