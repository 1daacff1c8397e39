use Rattle.gr_core.specs.Columns.Stored.{DeskTable}
use Rattle.std.proofs.Common.{◌≡◌, ◌∙◌, Err, codes, false, true≢false, inl, inr, refl, sym, ap, IsTrue, rules}
use Rattle.std.specs.Prelude.{is_some}
use Rattle.sqlite_schema.specs.declared.schema.Schema.{Schema}
use Rattle.sqlite_schema.specs.Names.{table_named}
use Rattle.sqlite.specs.Held.{state}
use Rattle.gr_core.specs.Desks.Version1.{lifted}
use Rattle.gr_store.specs.Commits.{LeavesDesk}
use Rattle.gr_store.specs.Migrates.{LeavesBallots}
use Rattle.gr_store.proofs.Connections.StepsInTurn.{survives_same}
use Rattle.gr_store.proofs.Connections.StepsInTurn.{writes_none}
use Rattle.gr_store.proofs.Reading.RightTables.{has_name}
use Rattle.gr_store.proofs.store.Store.migrate.Goals as goal

-- ==== it is inside a transaction

pub returns-then-not-is_autocommit-clause-leaves : goal.returns-then-not-is_autocommit-clause-leaves
returns-then-not-is_autocommit-clause-leaves g c tables has =
    let old = state g.S.Store c.args.conn in
    (tt, survives_same old (LeavesBallots old.now tables.has.own))

pub returns-then-not-is_autocommit-clause-taken : goal.returns-then-not-is_autocommit-clause-taken
returns-then-not-is_autocommit-clause-taken g c clean has desk1 used =
    let begun : IsTrue c.args.conn.in_transaction = search rules in
    inr (inr (refl, inl begun))

-- ==== there is no table `desk`

pub returns-then-not-is_there-clause-later : goal.returns-then-not-is_there-clause-later
returns-then-not-is_there-clause-later g c clean plain later = inr (inr refl)

pub returns-then-not-is_there-clause-current : goal.returns-then-not-is_there-clause-current
returns-then-not-is_there-clause-current g c clean plain current = inr refl

pub returns-then-not-is_there-clause-finds : goal.returns-then-not-is_there-clause-finds
returns-then-not-is_there-clause-finds g c clean has desk1 =
    let old = (state g.S.Store c.args.conn).now in
    let none : is_some (table_named old.schema (codes "desk")) ≡ false
    = ap (λ (s : Schema). is_some (table_named s (codes "desk"))) (sym c.schema.ensures.value) ∙ sym c.is_there.ensures ∙ c.if-not-is_there.true in
    absurd (true≢false (sym (has_name old.schema (has DeskTable)) ∙ none))

pub returns-then-not-is_there-clause-taken : goal.returns-then-not-is_there-clause-taken
returns-then-not-is_there-clause-taken g c clean has desk1 used =
    let old = (state g.S.Store c.args.conn).now in
    let none : is_some (table_named old.schema (codes "desk")) ≡ false
    = ap (λ (s : Schema). is_some (table_named s (codes "desk"))) (sym c.schema.ensures.value) ∙ sym c.is_there.ensures ∙ c.if-not-is_there.true in
    absurd (true≢false (sym (has_name old.schema (has DeskTable)) ∙ none))

pub returns-then-not-is_there-clause-spared : goal.returns-then-not-is_there-clause-spared
returns-then-not-is_there-clause-spared g c why = writes_none (state g.S.Store c.args.conn)

pub returns-then-not-is_there-clause-failed : goal.returns-then-not-is_there-clause-failed
returns-then-not-is_there-clause-failed g c made s valid held =
    survives_same (state g.S.Store c.args.conn) (LeavesDesk (lifted s))

pub returns-then-not-is_there-clause-leaves : goal.returns-then-not-is_there-clause-leaves
returns-then-not-is_there-clause-leaves g c tables has =
    let old = state g.S.Store c.args.conn in
    (tt, survives_same old (LeavesBallots old.now tables.has.own))

-- ==== there is one

pub returns-in-Ok-clause-leaves : goal.returns-in-Ok-clause-leaves
returns-in-Ok-clause-leaves g c tables has = (c.migrate.ensures.leaves tables has, tt)

pub returns-in-Err-clause-leaves : goal.returns-in-Err-clause-leaves
returns-in-Err-clause-leaves g c tables has = (tt, c.migrate.ensures.leaves tables has)

pub returns-in-Err-clause-caused : goal.returns-in-Err-clause-caused
returns-in-Err-clause-caused g c clean tables store = inr (c.in-Err.ensures.caused clean tables store)

pub returns-in-Ok-clause-vacant : goal.returns-in-Ok-clause-vacant
returns-in-Ok-clause-vacant g c clean has desk1 = (c.in-Ok.ensures.finds clean has desk1).0

pub returns-in-Ok-clause-early : goal.returns-in-Ok-clause-early
returns-in-Ok-clause-early g c clean has later = (c.in-Ok.ensures.later clean has later).0

pub returns-in-Err-clause-later : goal.returns-in-Err-clause-later
returns-in-Err-clause-later g c clean plain later =
    elim (c.in-Err.ensures.later clean plain later).1 [ inl newer ↦ inl newer | inr of ↦ inr (inl of) ]

pub returns-in-Err-clause-current : goal.returns-in-Err-clause-current
returns-in-Err-clause-current g c clean plain current = inl (c.in-Err.ensures.current clean plain current)

pub returns-in-Err-clause-finds : goal.returns-in-Err-clause-finds
returns-in-Err-clause-finds g c clean has desk1 = (c.in-Err.ensures.finds clean has desk1).1

pub returns-in-Err-clause-spared : goal.returns-in-Err-clause-spared
returns-in-Err-clause-spared g c why =
    elim why [ inl other ↦ c.in-Err.ensures.spared other | inr none ↦ c.migrate.ensures.untouched none ]

pub returns-in-Err-clause-occupied : goal.returns-in-Err-clause-occupied
returns-in-Err-clause-occupied g c clean is = c.in-Err.ensures.occupied clean (ap Err is)

pub returns-in-Err-clause-taken : goal.returns-in-Err-clause-taken
returns-in-Err-clause-taken g c clean has desk1 used = elim (c.in-Err.ensures.finds clean has desk1).1 [
  | inl of ↦ elim of [
    | inl memory ↦ inr (inl memory)
    | inr store ↦ inr (inr (store, inr (c.in-Err.ensures.taken clean used store)))
  ]
  | inr occupied ↦ inl occupied
]
