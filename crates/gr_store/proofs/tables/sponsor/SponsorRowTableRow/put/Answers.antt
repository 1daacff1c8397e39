use Rattle.std.proofs.Common.{◌≡◌, Ok, map, refl, sym, subst}
use Rattle.sqlite_resolve.specs.declared.compiled.Compiled.{Compiled}
use Rattle.sqlite.specs.Listing.{understood}
use Rattle.sqlite.specs.Held.{state}
use Rattle.gr_core.specs.Columns.Stored.{fields_of_sponsor}
use Rattle.gr_store.specs.Schema.{sponsor_table}
use Rattle.gr_store.specs.Rows.{value_of}
use Rattle.gr_store.proofs.Failures.FailedTexts.{IsWriting, write_caused, insert_writes}
use Rattle.gr_store.proofs.Connections.SingleStatements.{sponsor_puts_one}
use Rattle.gr_store.proofs.Writing.CreateLemmas.{stays_inside}
use Rattle.gr_store.proofs.Writing.ReplaceLemmas.{put_fields}
use Rattle.gr_store.specs.Puts.{sponsor_put}
use Rattle.gr_store.proofs.Writing.PutTexts.{sponsor_terms, sponsor_puts, sponsor_replacing}
use Rattle.gr_store.proofs.tables.sponsor.SponsorRowTableRow.put.Goals as goal

pub returns : goal.returns
returns g c = record {
  puts = λ clean inside schema own has.
      let row = c.args.self.now in
      put_fields sponsor_put sponsor_table sponsor_terms (fields_of_sponsor row) (state g.S.Store c.args.tx.now.conn.now)
      (state g.S.Store c.execute.new.self.conn.now) c.execute.result schema own refl (sponsor_puts schema own.has)
      (sponsor_replacing schema own row) has (rw
      (c.params-to_sql.ensures, c.params-to_sql-2.ensures, c.params-to_sql-3.ensures, c.params-to_sql-4.ensures) at (c.execute.ensures.runs clean inside));
  caused = λ clean inside schema own has.
      write_caused sponsor_put (map value_of (fields_of_sponsor c.args.self.now)) (state g.S.Store c.args.tx.now.conn.now)
      (state g.S.Store c.execute.new.self.conn.now)
      (subst (λ s. (c : Compiled) → understood s sponsor_put ≡ Ok c → IsWriting sponsor_put 4 c) (sym has)
      (insert_writes schema sponsor_put _ _ _ _ 4 (sponsor_puts schema own.has) sponsor_puts_one)) c.execute.result (rw
      (c.params-to_sql.ensures, c.params-to_sql-2.ensures, c.params-to_sql-3.ensures, c.params-to_sql-4.ensures) at (c.execute.ensures.runs clean inside));
  same_reference = c.execute.ensures.same_reference;
  inside = λ clean inside.
      stays_inside _ _ (state g.S.Store c.args.tx.now.conn.now) (state g.S.Store c.execute.new.self.conn.now) c.execute.result
      (c.execute.ensures.runs clean inside);
  survives = c.execute.ensures.survives;
}
