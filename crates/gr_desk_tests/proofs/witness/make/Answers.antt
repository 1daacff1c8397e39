use Rattle.std.proofs.Common.{◌≡◌, true, rules, Some}
use Rattle.std.specs.Prelude.{is_ok}
use Rattle.gr_desk_tests.proofs.WitnessLemmas.{made}
use Rattle.gr_desk_tests.proofs.witness.make.Goals as goal

pub returns-then-is_back-clause-made : goal.returns-then-is_back-clause-made
returns-then-is_back-clause-made g c some =
    let ok : is_ok c.init-done.result.0 ≡ true = search rules in
    made g.H.Store.Store (g.H.Host.known c.args.host.now) (g.H.Host.known c.take_back-is_back.new.self) c.args.file.now
    (Some c.new-output.result.writer.items) (Some c.init-done.new.output.writer.items) c.init-done.result.0 c.init-done.result.1
    c.init-done.ensures.does ok (c.take_back-is_back.ensures.next c.if-is_back.true)
