use Rattle.std.proofs.Common.{map, refl, rules}
use Rattle.gr_core.specs.Machine.Row.{row_of}
use Rattle.gr_store.specs.Commits.{HasPut}
use Rattle.sqlite.specs.Held.{state}
use Rattle.sqlite.specs.State.{Survives}
use Rattle.gr_store.proofs.Connections.StepsInTurn.{committed, survives_begun}
use Rattle.gr_store.proofs.commit.commit.Goals as goal

pub returns-in_err-commit-clause-crash : goal.returns-in_err-commit-clause-crash
returns-in_err-commit-clause-crash g c schema own has =
    let old = state g.S.Store c.args.conn.now in
    let done = state g.S.Store c.put_changes.new.tx.conn.now in
    let begun = c.transaction-tx.ensures.begun in
    let rows = map row_of c.args.changes.now in
    let first = survives_begun old done (λ _. ⊥) (rw begun at c.put_changes.ensures.survives) in
    let left : Survives old (state g.S.Store c.commit.new.self.0) (HasPut own rows old.now)
    = committed old done _ (HasPut own rows old.now) first c.commit.ensures.survives
    (λ clean. (done.now, (rw begun at c.in_ok-put_changes.ensures.puts) clean refl schema own has, refl)) in
    search (rules, left)

pub returns-clause-crash : goal.returns-clause-crash
returns-clause-crash g c schema own has =
    let old = state g.S.Store c.args.conn.now in
    let done = state g.S.Store c.put_changes.new.tx.conn.now in
    let begun = c.transaction-tx.ensures.begun in
    let rows = map row_of c.args.changes.now in
    let first = survives_begun old done (λ _. ⊥) (rw begun at c.put_changes.ensures.survives) in
    let left : Survives old (state g.S.Store c.commit.new.self.0) (HasPut own rows old.now)
    = committed old done _ (HasPut own rows old.now) first c.commit.ensures.survives
    (λ clean. (done.now, (rw begun at c.in_ok-put_changes.ensures.puts) clean refl schema own has, refl)) in
    search (rules, left)
