use Rattle.std.proofs.Common.{◌≡◌, Ok, map, refl, sym, subst}
use Rattle.sqlite_resolve.specs.declared.compiled.Compiled.{Compiled}
use Rattle.sqlite.specs.Listing.{understood}
use Rattle.sqlite.specs.Held.{state}
use Rattle.gr_core.specs.Columns.Stored.{fields_of_choice}
use Rattle.gr_store.specs.Schema.{choice_table}
use Rattle.gr_store.specs.Rows.{value_of}
use Rattle.gr_store.proofs.Failures.FailedTexts.{IsWriting, write_caused, insert_writes}
use Rattle.gr_store.proofs.Connections.SingleStatements.{choice_puts_one}
use Rattle.gr_store.proofs.Writing.CreateLemmas.{stays_inside}
use Rattle.gr_store.proofs.Writing.ReplaceLemmas.{put_fields}
use Rattle.gr_store.specs.Puts.{choice_put}
use Rattle.gr_store.proofs.Writing.PutTexts.{choice_terms, choice_puts, choice_replacing}
use Rattle.gr_store.proofs.tables.choice.ChoiceRowTableRow.put.Goals as goal

pub returns : goal.returns
returns g c = record {
  puts = λ clean inside schema own has.
      let row = c.args.self.now in
      put_fields choice_put choice_table choice_terms (fields_of_choice row) (state g.S.Store c.args.tx.now.conn.now)
      (state g.S.Store c.execute.new.self.conn.now) c.execute.result schema own refl (choice_puts schema own.has)
      (choice_replacing schema own row) has (rw (
        c.params-to_sql.ensures,
        c.params-to_sql-2.ensures,
        c.params-to_sql-3.ensures,
        c.params-to_sql-4.ensures,
        c.params-to_sql-5.ensures,
        c.params-to_sql-6.ensures,
        c.params-to_sql-7.ensures,
        c.params-to_sql-8.ensures,
        c.params-to_sql-9.ensures,
        c.params-to_sql-10.ensures,
      ) at (c.execute.ensures.runs clean inside));
  caused = λ clean inside schema own has.
      write_caused choice_put (map value_of (fields_of_choice c.args.self.now)) (state g.S.Store c.args.tx.now.conn.now)
      (state g.S.Store c.execute.new.self.conn.now)
      (subst (λ s. (c : Compiled) → understood s choice_put ≡ Ok c → IsWriting choice_put 10 c) (sym has)
      (insert_writes schema choice_put _ _ _ _ 10 (choice_puts schema own.has) choice_puts_one)) c.execute.result (rw (
        c.params-to_sql.ensures,
        c.params-to_sql-2.ensures,
        c.params-to_sql-3.ensures,
        c.params-to_sql-4.ensures,
        c.params-to_sql-5.ensures,
        c.params-to_sql-6.ensures,
        c.params-to_sql-7.ensures,
        c.params-to_sql-8.ensures,
        c.params-to_sql-9.ensures,
        c.params-to_sql-10.ensures,
      ) at (c.execute.ensures.runs clean inside));
  same_reference = c.execute.ensures.same_reference;
  inside = λ clean inside.
      stays_inside _ _ (state g.S.Store c.args.tx.now.conn.now) (state g.S.Store c.execute.new.self.conn.now) c.execute.result
      (c.execute.ensures.runs clean inside);
  survives = c.execute.ensures.survives;
}
