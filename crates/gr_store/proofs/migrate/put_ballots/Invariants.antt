use Rattle.std.proofs.Common.{◌≡◌, ◌≤◌, ℕ, IsTrue}
use Rattle.sqlite_schema.specs.declared.schema.Schema.{Schema}
use Rattle.gr_core.specs.Parts.Ballot.{ballots_of}
use Rattle.gr_core.specs.Desks.State.{State}
use Rattle.gr_core.specs.Desks.Valid.{IsValid}
use Rattle.gr_store.specs.Own.{HasOwnTables}
use Rattle.sqlite.specs.Held.{state}
use Rattle.sqlite.specs.State.{HasCleanDisk, Survives}
use Rattle.gr_store.proofs.Migration.BallotTurns.{PutsUpTo}
use Rattle.gr_store.proofs.migrate.put_ballots.Given as goal

-- the ballots on the resolutions so far are put, in the transaction that was begun, and the others are left
abbrev pub invariant-loop-number : goal.invariant-loop-number
invariant-loop-number g l = record {
  same : l.tx.conn.ghost_name ≡ l.fn.tx.conn.ghost_name;
  survives : Survives (state g.S.Store l.fn.tx.conn.now) (state g.S.Store l.tx.conn.now) (λ _. ⊥);
  inside : HasCleanDisk (state g.S.Store l.tx.conn.now) → IsTrue (state g.S.Store l.fn.tx.conn.now).in_transaction
      → IsTrue (state g.S.Store l.tx.conn.now).in_transaction;
  left : (number : ℕ) → l.number ≤ number → ballots_of l.ballots number ≡ ballots_of l.fn.ballots number;
  puts : HasCleanDisk (state g.S.Store l.tx.conn.now) → IsTrue (state g.S.Store l.fn.tx.conn.now).in_transaction
      → (schema : Schema) (own : HasOwnTables schema) → (state g.S.Store l.fn.tx.conn.now).now.schema ≡ schema
      → (s : State) → IsValid s → s.ballots ≡ l.fn.ballots
      → PutsUpTo own s l.number (state g.S.Store l.fn.tx.conn.now).now (state g.S.Store l.tx.conn.now).now;
}
