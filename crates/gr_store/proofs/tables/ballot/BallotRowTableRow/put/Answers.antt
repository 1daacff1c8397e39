use Rattle.std.proofs.Common.{◌≡◌, Ok, map, refl, sym, subst}
use Rattle.sqlite_resolve.specs.declared.compiled.Compiled.{Compiled}
use Rattle.sqlite.specs.Listing.{understood}
use Rattle.sqlite.specs.Held.{state}
use Rattle.gr_core.specs.Columns.Stored.{fields_of_ballot}
use Rattle.gr_store.specs.Schema.{ballot_table}
use Rattle.gr_store.specs.Rows.{value_of}
use Rattle.gr_store.proofs.Failures.FailedTexts.{IsWriting, write_caused, insert_writes}
use Rattle.gr_store.proofs.Connections.SingleStatements.{ballot_puts_one}
use Rattle.gr_store.proofs.Writing.CreateLemmas.{stays_inside}
use Rattle.gr_store.proofs.Writing.UpsertLemmas.{upsert_fields}
use Rattle.gr_store.specs.Puts.{ballot_put}
use Rattle.gr_store.proofs.Writing.BallotPutText.{ballot_terms, ballot_cells, ballot_key, ballot_puts, ballot_upserting}
use Rattle.gr_store.proofs.tables.ballot.BallotRowTableRow.put.Goals as goal

pub returns : goal.returns
returns g c = record {
  puts = λ clean inside schema own has.
      let row = c.args.self.now in
      upsert_fields ballot_put ballot_table ballot_terms 5 ballot_cells (fields_of_ballot row) (ballot_key row)
      (state g.S.Store c.args.tx.now.conn.now) (state g.S.Store c.execute.new.self.conn.now) c.execute.result schema own
      refl (ballot_puts schema own) (ballot_upserting schema own row) has (rw (
        c.params-to_sql.ensures,
        c.params-to_sql-2.ensures,
        c.params-to_sql-3.ensures,
        c.params-to_sql-4.ensures,
        c.params-to_sql-5.ensures,
      ) at (c.execute.ensures.runs clean inside));
  caused = λ clean inside schema own has.
      write_caused ballot_put (map value_of (fields_of_ballot c.args.self.now)) (state g.S.Store c.args.tx.now.conn.now)
      (state g.S.Store c.execute.new.self.conn.now)
      (subst (λ s. (c : Compiled) → understood s ballot_put ≡ Ok c → IsWriting ballot_put 5 c) (sym has)
      (insert_writes schema ballot_put _ _ _ _ 5 (ballot_puts schema own) ballot_puts_one)) c.execute.result (rw (
        c.params-to_sql.ensures,
        c.params-to_sql-2.ensures,
        c.params-to_sql-3.ensures,
        c.params-to_sql-4.ensures,
        c.params-to_sql-5.ensures,
      ) at (c.execute.ensures.runs clean inside));
  same_reference = c.execute.ensures.same_reference;
  inside = λ clean inside.
      stays_inside _ _ (state g.S.Store c.args.tx.now.conn.now) (state g.S.Store c.execute.new.self.conn.now) c.execute.result
      (c.execute.ensures.runs clean inside);
  survives = c.execute.ensures.survives;
}
