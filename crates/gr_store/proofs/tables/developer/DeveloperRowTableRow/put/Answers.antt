use Rattle.std.proofs.Common.{◌≡◌, Ok, map, refl, sym, subst}
use Rattle.sqlite_resolve.specs.declared.compiled.Compiled.{Compiled}
use Rattle.sqlite.specs.Listing.{understood}
use Rattle.sqlite.specs.Held.{state}
use Rattle.gr_core.specs.Columns.Stored.{fields_of_developer}
use Rattle.gr_store.specs.Schema.{developer_table}
use Rattle.gr_store.specs.Rows.{value_of}
use Rattle.gr_store.proofs.Failures.FailedTexts.{IsWriting, write_caused, insert_writes}
use Rattle.gr_store.proofs.Connections.SingleStatements.{developer_puts_one}
use Rattle.gr_store.proofs.Writing.CreateLemmas.{stays_inside}
use Rattle.gr_store.proofs.Writing.ReplaceLemmas.{put_fields}
use Rattle.gr_store.specs.Puts.{developer_put}
use Rattle.gr_store.proofs.Writing.PutTexts.{developer_terms, developer_puts, developer_replacing}
use Rattle.gr_store.proofs.tables.developer.DeveloperRowTableRow.put.Goals as goal

pub returns : goal.returns
returns g c = record {
  puts = λ clean inside schema own has.
      let row = c.args.self.now in
      put_fields developer_put developer_table developer_terms (fields_of_developer row) (state g.S.Store c.args.tx.now.conn.now)
      (state g.S.Store c.execute.new.self.conn.now) c.execute.result schema own refl (developer_puts schema own.has)
      (developer_replacing schema own row) has (rw
      (c.params-to_sql.ensures, c.params-to_sql-2.ensures, c.params-to_sql-3.ensures) at (c.execute.ensures.runs clean inside));
  caused = λ clean inside schema own has.
      write_caused developer_put (map value_of (fields_of_developer c.args.self.now)) (state g.S.Store c.args.tx.now.conn.now)
      (state g.S.Store c.execute.new.self.conn.now)
      (subst (λ s. (c : Compiled) → understood s developer_put ≡ Ok c → IsWriting developer_put 3 c) (sym has)
      (insert_writes schema developer_put _ _ _ _ 3 (developer_puts schema own.has) developer_puts_one)) c.execute.result (rw
      (c.params-to_sql.ensures, c.params-to_sql-2.ensures, c.params-to_sql-3.ensures) at (c.execute.ensures.runs clean inside));
  same_reference = c.execute.ensures.same_reference;
  inside = λ clean inside.
      stays_inside _ _ (state g.S.Store c.args.tx.now.conn.now) (state g.S.Store c.execute.new.self.conn.now) c.execute.result
      (c.execute.ensures.runs clean inside);
  survives = c.execute.ensures.survives;
}
