use Rattle.std.proofs.Common.{[]}
use Rattle.sqlite.specs.Held.{state}
use Rattle.gr_store.specs.Schema.{desk_text, desk_table}
use Rattle.gr_store.proofs.Failures.FailedTexts.{write_caused, create_writes}
use Rattle.gr_store.proofs.Connections.SingleStatements.{desk_creates_one}
use Rattle.gr_store.proofs.Writing.CreateLemmas.{creates, stays_inside}
use Rattle.gr_store.proofs.Writing.CreateTexts.{desk_creates}
use Rattle.gr_store.proofs.tables.desk.HeaderRowTableRow.create.Goals as goal

pub returns : goal.returns
returns g c = record {
  makes = λ clean inside sound.
      creates desk_text desk_table (state g.S.Store c.args.tx.now.conn.now) (state g.S.Store c.execute.new.self.conn.now)
      c.execute.result desk_creates sound (c.execute.ensures.runs clean inside);
  caused = λ clean inside.
      write_caused desk_text [] (state g.S.Store c.args.tx.now.conn.now) (state g.S.Store c.execute.new.self.conn.now)
      (create_writes _ desk_text desk_creates.is desk_creates_one) c.execute.result (c.execute.ensures.runs clean inside);
  same_reference = c.execute.ensures.same_reference;
  inside = λ clean inside.
      stays_inside _ _ (state g.S.Store c.args.tx.now.conn.now) (state g.S.Store c.execute.new.self.conn.now) c.execute.result
      (c.execute.ensures.runs clean inside);
  survives = c.execute.ensures.survives;
}
