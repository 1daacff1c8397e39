use Rattle.std.proofs.Common.{◌≡◌, ◌∙◌, subst, sym}
use Rattle.gr_http.specs.Streams.{AppendsBeginning}
use Rattle.gr_desk.specs.Lines.{IsUnheard, listening_line}
use Rattle.gr_desk.proofs.LineLemmas.{unheard}
use Rattle.gr_desk.proofs.serve.listen.Goals as goal

pub returns-in-Err-print-clause-failed : goal.returns-in-Err-print-clause-failed
returns-in-Err-print-clause-failed g c =
    let old = g.O.Output.written c.args.output.now in
    let new = g.O.Output.written c.print.new.output in
    let text : c.as_str.result.now ≡ listening_line c.args.port = c.as_str.ensures.value ∙ c.in-Ok-listening_line.ensures in
    let (lost, begun) = c.in-Err-print.ensures.lost in
    subst (IsUnheard ((g.H.Host.known c.args.host.now).awaited c.args.port) c.args.port old new) (sym lost) (subst (AppendsBeginning old new) text begun)

pub returns-in-Err-clause-failed : goal.returns-in-Err-clause-failed
returns-in-Err-clause-failed g c =
    unheard ((g.H.Host.known c.args.host.now).awaited c.args.port) c.args.port (g.O.Output.written c.args.output.now)
    c.in-Err.failure c.in-Err.ensures.failed
