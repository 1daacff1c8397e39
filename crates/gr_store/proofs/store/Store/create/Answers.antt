use Rattle.std.proofs.Common.{inl, inr}
use Rattle.gr_store.specs.Commits.{HasNewDesk, LeavesNewDesk}
use Rattle.sqlite.specs.Held.{state}
use Rattle.sqlite.proofs.StateLemmas.{survives_weaker}
use Rattle.gr_store.proofs.StoredDesks.HeldDesks.{new_holds, new_adds, leaves_new}
use Rattle.gr_store.proofs.store.Store.create.Goals as goal

pub returns-in-Ok-clause-holds : goal.returns-in-Ok-clause-holds
returns-in-Ok-clause-holds g c clean live =
    let old = (state g.S.Store c.args.conn).now in
    new_holds old (state g.S.Store c.create.new.conn).now
    (c.in-Ok.ensures.makes clean live (c.schema.ensures.live live).0)

pub returns-in-Ok-clause-adds : goal.returns-in-Ok-clause-adds
returns-in-Ok-clause-adds g c clean live =
    let old = (state g.S.Store c.args.conn).now in
    new_adds old (state g.S.Store c.create.new.conn).now
    (c.in-Ok.ensures.makes clean live (c.schema.ensures.live live).0)

pub returns-in-Ok-clause-crash : goal.returns-in-Ok-clause-crash
returns-in-Ok-clause-crash g c =
    let old = state g.S.Store c.args.conn in
    survives_weaker old (state g.S.Store c.create.new.conn) (HasNewDesk old.now)
    (LeavesNewDesk old.now) (λ clean. leaves_new old.now)
    (c.create.ensures.crash (λ live. (c.schema.ensures.live live).0))

pub returns-in-Err-clause-failed : goal.returns-in-Err-clause-failed
returns-in-Err-clause-failed g c =
    let old = state g.S.Store c.args.conn in
    survives_weaker old (state g.S.Store c.create.new.conn) (HasNewDesk old.now)
    (LeavesNewDesk old.now) (λ clean. leaves_new old.now)
    (c.create.ensures.crash (λ live. (c.schema.ensures.live live).0))

pub returns-in-Err-clause-caused : goal.returns-in-Err-clause-caused
returns-in-Err-clause-caused g c clean store =
    elim (c.in-Err.ensures.caused clean (λ live. (c.schema.ensures.live live).0) store) [
      | inl disk ↦ inl disk
      | inr cannot ↦ inr (inl cannot)
    ]
