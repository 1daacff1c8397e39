use Rattle.std.proofs.Common.{ap, ◌∙◌}
use Rattle.gr_desk.proofs.SystemLemmas.{on_machine}
use Rattle.gr_desk.proofs.program.run.Goals as goal

pub returns : goal.returns
returns g c =
    let (said, says, does) = c.run_on-status.ensures.runs in
    on_machine _ _ _ _ _ _ _ (g.R.Read.remaining c.args.input) _ (g.O.Write.contents c.args.output) _
    c.run_on-status.result.0 said c.run_on-status.result.1 c.close_ending.result c.new-host.ensures
    (c.comes_from_the_reader.ensures ∙ ap g.R.Read.remaining c.new-input.ensures.reader)
    (c.is_written_to_the_writer.ensures ∙ ap g.O.Write.contents c.new-output.ensures.writer) does c.close_ending.ensures
