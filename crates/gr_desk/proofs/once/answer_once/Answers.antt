use Rattle.std.proofs.Common.{◌∙◌, subst}
use Rattle.std.specs.Io.KnownBytes.{Appends}
use Rattle.gr_store.specs.declared.fault.Fault.TheVariants.{Memory}
use Rattle.gr_http.specs.Streams.{AppendsBeginning}
use Rattle.gr_http.specs.Response.{fault_response}
use Rattle.gr_http.specs.Fates.{delivered, undelivered}
use Rattle.gr_desk.proofs.AnswerLemmas.{IfOk-map, memory_after, memory_makes, memory_reveals, reads_none}
use Rattle.gr_desk.proofs.once.answer_once.Goals as goal

pub returns-in_default-clause-served : goal.returns-in_default-clause-served
returns-in_default-clause-served g c =
    let office = c.args.office.now in
    let coming = g.I.Input.coming c.args.input.now in
    IfOk-map c.write_response.result
    (λ served p. (
      fault_response Memory,
      p.0 ∙ c.of_fault.ensures.status,
      subst (Appends (g.O.Output.written c.args.output.now) (g.O.Output.written c.write_response.new.output)) c.of_fault.ensures.bytes p.1,
      (
        memory_after coming office.desk c.args.at,
        memory_makes g.S.Store office c.args.at coming delivered,
        memory_reveals c.responses_reveal_nothing.ensures coming office.desk c.args.at,
      ),
    ))
    c.write_response.ensures.served

pub returns-in_default-clause-lost_write : goal.returns-in_default-clause-lost_write
returns-in_default-clause-lost_write g c lost =
    let office = c.args.office.now in
    let coming = g.I.Input.coming c.args.input.now in
    let p = rw lost at c.write_response.ensures.lost in (
      fault_response Memory,
      subst (AppendsBeginning (g.O.Output.written c.args.output.now) (g.O.Output.written c.write_response.new.output)) c.of_fault.ensures.bytes p.1,
      (
        memory_after coming office.desk c.args.at,
        memory_makes g.S.Store office c.args.at coming undelivered,
        memory_reveals c.responses_reveal_nothing.ensures coming office.desk c.args.at,
      ),
    )

pub returns-clause-served : goal.returns-clause-served
returns-clause-served g c = IfOk-map c.answer.result (λ served p. p) c.answer.ensures.served

pub returns-clause-lost_write : goal.returns-clause-lost_write
returns-clause-lost_write g c lost = c.answer.ensures.lost_write lost

pub returns-in_default-clause-needed : goal.returns-in_default-clause-needed
returns-in_default-clause-needed g c = reads_none (g.I.Input.taken c.args.input.now)
