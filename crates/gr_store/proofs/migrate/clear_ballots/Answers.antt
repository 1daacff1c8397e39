use Rattle.std.proofs.Common.{[]}
use Rattle.sqlite.specs.Held.{state}
use Rattle.gr_store.specs.Clears.{ballot1_clear}
use Rattle.gr_store.proofs.Failures.FailedTexts.{write_caused, delete_writes}
use Rattle.gr_store.proofs.Connections.SingleStatements.{ballot1_clears_one}
use Rattle.gr_store.proofs.Writing.CreateLemmas.{stays_inside}
use Rattle.gr_store.proofs.Writing.DeleteLemmas.{clears_table, ballots_delete}
use Rattle.gr_store.proofs.migrate.clear_ballots.Goals as goal

pub returns : goal.returns
returns g c = record {
  clears = λ clean inside ballots is own.
      clears_table _ ballots (state g.S.Store c.args.tx.now.conn.now) (state g.S.Store c.execute.new.self.conn.now)
      c.execute.result own is.free (ballots_delete ballots is) (c.execute.ensures.runs clean inside);
  caused = λ clean inside ballots is own.
      write_caused ballot1_clear [] (state g.S.Store c.args.tx.now.conn.now) (state g.S.Store c.execute.new.self.conn.now)
      (delete_writes (state g.S.Store c.args.tx.now.conn.now).now.schema ballot1_clear ballots own.has (ballots_delete ballots is) ballot1_clears_one)
      c.execute.result (c.execute.ensures.runs clean inside);
  same_reference = c.execute.ensures.same_reference;
  inside = λ clean inside.
      stays_inside _ _ (state g.S.Store c.args.tx.now.conn.now) (state g.S.Store c.execute.new.self.conn.now) c.execute.result
      (c.execute.ensures.runs clean inside);
  survives = c.execute.ensures.survives;
}
