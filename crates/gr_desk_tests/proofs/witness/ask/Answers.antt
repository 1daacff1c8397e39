use Rattle.std.proofs.Common.{◌∙◌, ap, rules, Some, IsTrue}
use Rattle.gr_desk_tests.proofs.WitnessLemmas.{asked}
use Rattle.gr_desk_tests.proofs.witness.ask.Goals as goal

pub returns : goal.returns
returns g c =
    let ok : IsTrue c.take_back.result = search rules in
    asked g.H.Store.Store c.commands_keep_a_desk_valid.ensures (g.H.Host.known c.args.host.now) (g.H.Host.known c.take_back.new.self)
    c.args.file.now c.args.request.now c.args.at _ (Some c.new-output.result.writer.items) (Some c.once-outcome.new.output.writer.items)
    c.once-outcome.result.0 c.once-outcome.result.1 (ap (λ r. Some r.now) c.new-input.ensures.reader ∙ ap Some c.as_bytes.ensures.value)
    c.once-outcome.ensures.does (c.take_back.ensures.next ok)
