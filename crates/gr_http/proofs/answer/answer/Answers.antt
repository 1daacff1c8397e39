use Rattle.std.proofs.Common.{◌∙◌, refl, subst}
use Rattle.std.specs.Io.KnownBytes.{Appends}
use Rattle.std.proofs.lemmas.Result.{IfOk-weaker}
use Rattle.gr_http.specs.Streams.{AppendsBeginning}
use Rattle.gr_http.proofs.FateLemmas.{undelivered_request}
use Rattle.gr_http.proofs.AlikeReplies.{nothing_revealed}
use Rattle.gr_http.proofs.answer.answer.Goals as goal

pub returns-in_default-clause-lost_read : goal.returns-in_default-clause-lost_read
returns-in_default-clause-lost_read g c _ =
    (c.in_default.ensures.lost, refl)

pub returns-clause-served : goal.returns-clause-served
returns-clause-served g c =
    let (response, ready, met) = c.in-Ok.ensures.ready in
    let before = c.args.office.now.desk in
    let after = c.respond.new.office.desk in
    IfOk-weaker c.write_response.result _ _
    (λ served (status, written). (
      response,
      status ∙ ready.status,
      subst (Appends (g.O.Output.written c.args.output.now) (g.O.Output.written c.write_response.new.output)) ready.bytes written,
      (
        met.0,
        met.1,
        nothing_revealed c.responses_reveal_nothing.ensures (g.I.Input.coming c.args.input.now) before c.args.at response after met.0,
      ),
    ))
    c.write_response.ensures.served

pub returns-clause-lost_write : goal.returns-clause-lost_write
returns-clause-lost_write g c lost =
    let (response, ready, met) = c.in-Ok.ensures.ready in
    let coming = g.I.Input.coming c.args.input.now in
    let before = c.args.office.now in
    let after = c.respond.new.office in
    let written = rw lost at c.write_response.ensures.lost in (
      response,
      subst (AppendsBeginning (g.O.Output.written c.args.output.now) (g.O.Output.written c.write_response.new.output)) ready.bytes written.1,
      (
        met.0,
        undelivered_request g.S.Store before after c.args.at coming response met.1,
        nothing_revealed c.responses_reveal_nothing.ensures coming before.desk c.args.at response after.desk met.0,
      ),
    )
