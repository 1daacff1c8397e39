use Rattle.std.proofs.Common.{◌≡◌, true, ap, refl, rules, Some}
use Rattle.std.specs.Prelude.{is_ok}
use Rattle.gr_desk_tests.proofs.WitnessLemmas.{shown}
use Rattle.gr_desk_tests.proofs.witness.result_of.Goals as goal

pub returns-then-is_back : goal.returns-then-is_back
returns-then-is_back g c =
    let ok : is_ok c.show-done.result.0 ≡ true = search rules in
    shown g.H.Store.Store (g.H.Host.known c.args.host.now) (g.H.Host.known c.take_back-is_back.new.self) c.args.file.now
    c.into_inner.result.items (Some c.new-output.result.writer.items) (Some c.show-done.new.output.writer.items) c.show-done.result.0
    c.show-done.result.1 (rw (c.new-output.ensures.writer) (ap Some c.new.ensures.items)) (rw (c.into_inner.ensures) refl)
    c.show-done.ensures.does ok (c.take_back-is_back.ensures.next c.if-is_back.true)
