-- What the commit of a plan's rows makes of the database, and what it may leave.
use Rattle.std.proofs.Common.{◌⊎◌, List, IsTrue, map, sym, ap, subst}
use Rattle.gr_store.specs.Causes.{DiskFails, CannotPutAll}
use Rattle.gr_core.specs.declared.change.Change.{Change}
use Rattle.gr_core.specs.Machine.Row.{row_of, put_all}
use Rattle.gr_store.specs.Commits.{KeepsBeside, LeavesBeside, LeavesDesk, PutsAll}
use Rattle.gr_store.specs.Holds.{Holds, HasDeskTables}
use Rattle.sqlite.specs.Held.{state}
use Rattle.sqlite.specs.State.{Survives}
use Rattle.gr_office.proofs.office.Office.keep.Goals as goal

pub returns-in-Err-clause-crash : goal.returns-in-Err-clause-crash
returns-in-Err-clause-crash g c tables s holds =
    let is = ap (λ o. o.conn) c.self.view_is in
    let new = state g.S.Store c.commit.new.self.conn in
    let before = subst (λ conn. HasDeskTables (state g.S.Store conn).now × Holds s (state g.S.Store conn).now) (sym is) (tables, holds) in
    subst (λ conn. Survives (state g.S.Store conn) new (LeavesDesk (put_all s (map row_of c.args.plan.changes.items)))) is
    (subst (λ (changes : List Change). Survives (state g.S.Store c.self.inside.store.conn) new (LeavesDesk (put_all s (map row_of changes))))
    c.changes.ensures (c.commit.ensures.crash before.0 s before.1))

pub returns-in-Ok-apply-clause-crash : goal.returns-in-Ok-apply-clause-crash
returns-in-Ok-apply-clause-crash g c tables s holds =
    let is = ap (λ o. o.conn) c.self.view_is in
    let new = state g.S.Store c.commit.new.self.conn in
    let before = subst (λ conn. HasDeskTables (state g.S.Store conn).now × Holds s (state g.S.Store conn).now) (sym is) (tables, holds) in
    subst (λ conn. Survives (state g.S.Store conn) new (LeavesDesk (put_all s (map row_of c.args.plan.changes.items)))) is
    (subst (λ (changes : List Change). Survives (state g.S.Store c.self.inside.store.conn) new (LeavesDesk (put_all s (map row_of changes))))
    c.changes.ensures (c.commit.ensures.crash before.0 s before.1))

pub returns-in-Ok-apply-clause-leaves : goal.returns-in-Ok-apply-clause-leaves
returns-in-Ok-apply-clause-leaves g c tables = subst (λ conn. (tables : HasDeskTables (state g.S.Store conn).now)
    → Survives (state g.S.Store conn) (state g.S.Store c.commit.new.self.conn) (LeavesBeside tables.own (state g.S.Store conn).now))
    (ap (λ o. o.conn) c.self.view_is) c.commit.ensures.leaves tables

pub returns-in-Err-clause-leaves : goal.returns-in-Err-clause-leaves
returns-in-Err-clause-leaves g c tables = subst (λ conn. (tables : HasDeskTables (state g.S.Store conn).now)
    → Survives (state g.S.Store conn) (state g.S.Store c.commit.new.self.conn) (LeavesBeside tables.own (state g.S.Store conn).now))
    (ap (λ o. o.conn) c.self.view_is) c.commit.ensures.leaves tables

pub returns-in-Err-apply-clause-leaves : goal.returns-in-Err-apply-clause-leaves
returns-in-Err-apply-clause-leaves g c tables = subst (λ conn. (tables : HasDeskTables (state g.S.Store conn).now)
    → Survives (state g.S.Store conn) (state g.S.Store c.commit.new.self.conn) (LeavesBeside tables.own (state g.S.Store conn).now))
    (ap (λ o. o.conn) c.self.view_is) c.commit.ensures.leaves tables

pub returns-in-Err-clause-caused : goal.returns-in-Err-clause-caused
returns-in-Err-clause-caused g c clean tables store =
    let is = ap (λ o. o.conn) c.self.view_is in
    let was = state g.S.Store c.self.inside.store.conn in
    let new = state g.S.Store c.commit.new.self.conn in
    subst (λ conn. (tables : HasDeskTables (state g.S.Store conn).now) → DiskFails (state g.S.Store conn) new
    ⊎ CannotPutAll tables.own (state g.S.Store conn).step_limit (map row_of c.args.plan.changes.items)
    (state g.S.Store conn).now) is
    (subst (λ (changes : List Change). (tables : HasDeskTables was.now) → DiskFails was new
    ⊎ CannotPutAll tables.own was.step_limit (map row_of changes) was.now) c.changes.ensures
    (λ tables. c.in-Err.ensures.caused clean tables store)) tables

pub returns-in-Ok-apply-clause-holds : goal.returns-in-Ok-apply-clause-holds
returns-in-Ok-apply-clause-holds g c clean live tables s holds =
    let is = ap (λ o. o.conn) c.self.view_is in
    let new = (state g.S.Store c.commit.new.self.conn).now in
    let before = subst (λ conn. IsTrue (state g.S.Store conn).is_open × HasDeskTables (state g.S.Store conn).now × Holds s (state g.S.Store conn).now)
    (sym is) (live, tables, holds) in
    subst (λ (changes : List Change). HasDeskTables new × Holds (put_all s (map row_of changes)) new) c.changes.ensures
    (c.in_default.ensures.holds clean before.0 before.1 s before.2)

pub returns-in-Ok-apply-clause-keeps : goal.returns-in-Ok-apply-clause-keeps
returns-in-Ok-apply-clause-keeps g c clean live tables =
    let is = ap (λ o. o.conn) c.self.view_is in
    let new = (state g.S.Store c.commit.new.self.conn).now in
    subst (λ conn. IsTrue (state g.S.Store conn).is_open → (tables : HasDeskTables (state g.S.Store conn).now)
    → KeepsBeside tables.own (state g.S.Store conn).now new) is
    (λ live tables. c.in_default.ensures.keeps clean live tables) live tables

pub returns-in-Ok-apply-clause-puts : goal.returns-in-Ok-apply-clause-puts
returns-in-Ok-apply-clause-puts g c clean live tables =
    let is = ap (λ o. o.conn) c.self.view_is in
    let new = (state g.S.Store c.commit.new.self.conn).now in
    subst (λ conn. IsTrue (state g.S.Store conn).is_open → (tables : HasDeskTables (state g.S.Store conn).now)
    → PutsAll tables.own (map row_of c.args.plan.changes.items) (state g.S.Store conn).now new) is
    (λ live tables. subst (λ (changes : List Change). PutsAll tables.own (map row_of changes) (state g.S.Store c.self.inside.store.conn).now new)
    c.changes.ensures (c.in_default.ensures.puts clean live tables)) live tables
