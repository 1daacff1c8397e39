use Rattle.std.proofs.Common.{ap, ◌∙◌}
use Rattle.std.specs.BTreeMap.{insert_entry}
use Rattle.gr_core.proofs.Collections.TwoLevels.{ordered-write, ordered-insert}
use Rattle.gr_core.proofs.two_levels.put.Goals as goal

pub returns-in_err-earlier-in-Some-clause-ordered : goal.returns-in_err-earlier-in-Some-clause-ordered
returns-in_err-earlier-in-Some-clause-ordered g c =
    let part = c.insert.new.self in
    ordered-write c.args.table.now (c.get_mut.follows.lender part) part c.requires.ordered
    c.insert.ensures.ordered (g.K.Ord.cmp c.args.first) (c.get_mut.follows.holds part)

pub returns-in_ok-earlier-in-Some-clause-ordered : goal.returns-in_ok-earlier-in-Some-clause-ordered
returns-in_ok-earlier-in-Some-clause-ordered g c =
    let part = c.insert.new.self in
    ordered-write c.args.table.now (c.get_mut.follows.lender part) part c.requires.ordered
    c.insert.ensures.ordered (g.K.Ord.cmp c.args.first) (c.get_mut.follows.holds part)

pub returns-in_ok-insert-in-None-2-clause-ordered : goal.returns-in_ok-insert-in-None-2-clause-ordered
returns-in_ok-insert-in-None-2-clause-ordered g c =
    let part = c.insert-in-None.new.self in
    ordered-insert c.args.table.now c.insert-in-None-2.new.self part c.requires.ordered
    c.insert-in-None.ensures.ordered c.args.first
    (c.in_ok-insert-in-None-2.ensures.entries
    ∙ ap (λ table. insert_entry g.K.Ord.cmp table.entries c.args.first c.insert-in-None.new.self) c.get_mut.follows.holds-at-none)
    c.insert-in-None-2.ensures.ordered
