use Rattle.sqlite.specs.Held.{state}
use Rattle.gr_store.specs.Schema.{ballot1_table}
use Rattle.gr_store.proofs.Writing.CreateLemmas.{creates, stays_inside}
use Rattle.gr_store.proofs.Writing.CreateTexts.{ballot1_text, ballot1_creates}
use Rattle.gr_store.proofs.version_1.create_ballots.Goals as goal

pub returns-clause-makes : goal.returns-clause-makes
returns-clause-makes g c clean inside sound =
    creates ballot1_text ballot1_table (state g.S.Store c.args.tx.now.conn.now) (state g.S.Store c.execute.new.self.conn.now)
    c.execute.result ballot1_creates sound (c.execute.ensures.runs clean inside)

pub returns-clause-inside : goal.returns-clause-inside
returns-clause-inside g c clean inside =
    stays_inside _ _ (state g.S.Store c.args.tx.now.conn.now) (state g.S.Store c.execute.new.self.conn.now) c.execute.result
    (c.execute.ensures.runs clean inside)
