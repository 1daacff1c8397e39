use Rattle.std.proofs.Common.{◌∙◌, ap, subst}
use Rattle.sqlite_trees.specs.View.{IsQuiet}
use Rattle.gr_desk.proofs.any_store.given_up.Goals as goal

pub returns-clause-quiet : goal.returns-clause-quiet
returns-clause-quiet g c =
    subst (λ conn. IsQuiet g.S.Store.view g.S.Store.faults g.S.Store.recovers g.S.Store.is_shielded conn.store c.into_store.result)
    c.connection_of.ensures.same c.into_store.ensures.quiet

pub returns-clause-alike : goal.returns-clause-alike
returns-clause-alike g c =
    c.into_store.ensures.undone.numbered ∙ ap (λ conn. (g.S.Store.view conn.store).is_numbered) c.connection_of.ensures.same
