use Rattle.std.proofs.Common.{◌≡◌, map, IsTrue}
use Rattle.std.specs.Prelude.{take}
use Rattle.gr_core.specs.Machine.Row.{row_of}
use Rattle.sqlite_schema.specs.declared.schema.Schema.{Schema}
use Rattle.gr_store.specs.Own.{HasOwnTables}
use Rattle.gr_store.specs.Commits.{PutsAll}
use Rattle.sqlite.specs.Held.{state}
use Rattle.sqlite.specs.State.{HasCleanDisk, Survives}
use Rattle.gr_store.proofs.commit.put_changes.Given as goal

-- the rows of the changes so far are put, in the transaction that was begun
abbrev pub invariant-loop-change : goal.invariant-loop-change
invariant-loop-change g l = record {
  same : l.tx.conn.ghost_name ≡ l.fn.tx.conn.ghost_name;
  survives : Survives (state g.S.Store l.fn.tx.conn.now) (state g.S.Store l.tx.conn.now) (λ _. ⊥);
  inside : HasCleanDisk (state g.S.Store l.tx.conn.now) → IsTrue (state g.S.Store l.fn.tx.conn.now).in_transaction
      → IsTrue (state g.S.Store l.tx.conn.now).in_transaction;
  puts : HasCleanDisk (state g.S.Store l.tx.conn.now) → IsTrue (state g.S.Store l.fn.tx.conn.now).in_transaction
      → (schema : Schema) (own : HasOwnTables schema) → (state g.S.Store l.fn.tx.conn.now).now.schema ≡ schema
      → PutsAll own (map row_of (take l.change-index l.changes)) (state g.S.Store l.fn.tx.conn.now).now (state g.S.Store l.tx.conn.now).now;
}
