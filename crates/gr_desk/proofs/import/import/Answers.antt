use Rattle.std.proofs.Common.{map}
use Rattle.std.specs.Prelude.{⊤}
use Rattle.gr_core.specs.Machine.Import.{roll_row}
use Rattle.gr_desk.proofs.LineLemmas.{asked_roll_then, clean_import, desk_at, desk_same, import_unopened, others_behind, same_clean, unopened_same}
use Rattle.gr_desk.proofs.ServeLemmas.{import_calls}
use Rattle.gr_desk.proofs.import.import.Goals as goal

pub returns-in-Err-open-clause-does : goal.returns-in-Err-open-clause-does
returns-in-Err-open-clause-does g c =
    let unopened = c.in-Err-open.unopened in
    let file = c.args.file.now in
    let old = g.H.Host.known c.args.host.now in
    let mid = g.H.Host.known c.rows_of.new.host in
    let same = c.in-Ok-rows_of.ensures.others.0 file in
    import_unopened g.H.Store.Store ⊤ old file c.args.roll.now _ (g.O.Output.written c.args.output.now) unopened.failure
    unopened.ending
    (unopened_same g.H.Store.Store old mid file unopened.failure unopened.ending same.0 same.1 c.in-Err-open.ensures.unopened)

pub returns-clause-others : goal.returns-clause-others
returns-clause-others g c =
    others_behind c.args.file.now (g.H.Host.known c.args.host.now) (g.H.Host.known c.rows_of.new.host)
    (g.H.Host.known c.open.new.host) c.in-Ok-rows_of.ensures.others.0 c.in-Ok-open.ensures.others.0

pub returns-clause-does : goal.returns-clause-does
returns-clause-does g c =
    let store = g.H.Store.Store in
    let before = c.in-Ok-open.office in
    let after = c.import_rows-done.new.office in
    let rows = map roll_row c.in-Ok-rows_of.rows.items in
    let calls = import_calls store _ before after c.moment_or_clock-at.result rows _ _ c.import_rows-done.result c.import_rows-done.ensures in
    record {
      before = before;
      after = after;
      at = c.moment_or_clock-at.result;
      rows = rows;
      read = c.in-Ok-rows_of.ensures.reads;
      desk = desk_at store (g.H.Host.known c.args.host.now) c.args.file.now before before.conn c.connection_of.result
          (desk_same store (g.H.Host.known c.args.host.now) (g.H.Host.known c.rows_of.new.host) c.args.file.now before
          before.conn (c.in-Ok-rows_of.ensures.others.0 c.args.file.now).0
          (c.in-Ok-rows_of.ensures.others.0 c.args.file.now).1 c.in-Ok-open.ensures.desk)
          (λ clean. clean_import store _ before after c.moment_or_clock-at.result rows _ _ c.import_rows-done.result
          c.import_rows-done.ensures (same_clean store c.connection_of.result after.conn c.connection_of.ensures.same clean));
      moment = c.moment_or_clock-at.ensures;
      imports = c.import_rows-done.ensures;
      attempts = calls.0;
      made = calls.1;
      its = calls.2;
      last = c.connection_of.ensures.same;
    }

pub returns-in-Err-open-clause-asked : goal.returns-in-Err-open-clause-asked
returns-in-Err-open-clause-asked g c =
    asked_roll_then g.H.Store.Store ((g.H.Host.known c.args.host.now).there c.args.file.now) c.in-Err-open.unopened.ending
    c.args.roll.now c.args.file.now _ _ _ c.in-Ok.ensures.there c.in-Ok-rows_of.ensures.asked c.in-Err-open.ensures.asked
