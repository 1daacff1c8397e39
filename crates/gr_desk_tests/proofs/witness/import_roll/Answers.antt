use Rattle.std.proofs.Common.{◌≡◌, true, rules, Some}
use Rattle.std.specs.Prelude.{is_ok}
use Rattle.gr_desk_tests.specs.declared.witness.TheConstants.{PROPOSED}
use Rattle.gr_desk_tests.proofs.WitnessLemmas.{imported}
use Rattle.gr_desk_tests.proofs.witness.import_roll.Goals as goal

pub returns-then-is_back : goal.returns-then-is_back
returns-then-is_back g c some =
    let ok : is_ok c.import-done.result.0 ≡ true = search rules in
    imported g.H.Store.Store c.commands_keep_a_desk_valid.ensures (g.H.Host.known c.args.host.now)
    (g.H.Host.known c.take_back-is_back.new.self) c.args.file.now c.args.roll.now PROPOSED (Some c.new-output.result.writer.items)
    (Some c.import-done.new.output.writer.items) c.import-done.result.0 c.import-done.result.1 c.import-done.ensures.does ok
    (c.take_back-is_back.ensures.next c.if-is_back.true)
