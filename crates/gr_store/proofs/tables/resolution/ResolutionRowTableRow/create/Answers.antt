use Rattle.std.proofs.Common.{[]}
use Rattle.sqlite.specs.Held.{state}
use Rattle.gr_store.specs.Schema.{resolution_text, resolution_table}
use Rattle.gr_store.proofs.Failures.FailedTexts.{write_caused, create_writes}
use Rattle.gr_store.proofs.Connections.SingleStatements.{resolution_creates_one}
use Rattle.gr_store.proofs.Writing.CreateLemmas.{creates, stays_inside}
use Rattle.gr_store.proofs.Writing.CreateTexts.{resolution_creates}
use Rattle.gr_store.proofs.tables.resolution.ResolutionRowTableRow.create.Goals as goal

pub returns : goal.returns
returns g c = record {
  makes = λ clean inside sound.
      creates resolution_text resolution_table (state g.S.Store c.args.tx.now.conn.now) (state g.S.Store c.execute.new.self.conn.now)
      c.execute.result resolution_creates sound (c.execute.ensures.runs clean inside);
  caused = λ clean inside.
      write_caused resolution_text [] (state g.S.Store c.args.tx.now.conn.now) (state g.S.Store c.execute.new.self.conn.now)
      (create_writes _ resolution_text resolution_creates.is resolution_creates_one) c.execute.result (c.execute.ensures.runs clean inside);
  same_reference = c.execute.ensures.same_reference;
  inside = λ clean inside.
      stays_inside _ _ (state g.S.Store c.args.tx.now.conn.now) (state g.S.Store c.execute.new.self.conn.now) c.execute.result
      (c.execute.ensures.runs clean inside);
  survives = c.execute.ensures.survives;
}
