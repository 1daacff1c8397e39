use Rattle.gr_core.specs.Machine.Act.{act_of}
use Rattle.gr_http.proofs.FateLemmas.{reply_prepared, refusal_prepared, fault_prepared}
use Rattle.gr_http.proofs.answer.carry_out.Goals as goal

pub returns-in-Ok : goal.returns-in-Ok
returns-in-Ok g c =
    let acted = c.in-Ok.ensures in
    reply_prepared g.S.Store c.args.office.now c.act.new.self c.args.at (act_of c.args.command.now) c.in-Ok.reply c.of_reply.result
    acted.acts acted.makes c.of_reply.ensures

pub returns-in-Err-Refused : goal.returns-in-Err-Refused
returns-in-Err-Refused g c =
    let acted = rw c.in-Err-Refused.field-0-is at c.in-Err-Refused.ensures in
    refusal_prepared g.S.Store c.args.office.now c.act.new.self c.args.at (act_of c.args.command.now) c.in-Err-Refused.refusal c.of_refusal.result
    acted.acts acted.kept acted.makes c.of_refusal.ensures

pub returns-in-Err-Fault : goal.returns-in-Err-Fault
returns-in-Err-Fault g c =
    let acted = rw c.in-Err-Fault.field-0-is at c.in-Err-Fault.ensures in
    fault_prepared g.S.Store c.args.office.now c.act.new.self c.args.at (act_of c.args.command.now) c.in-Err-Fault.fault c.of_fault.result
    acted.acts acted.remembers acted.kept acted.makes c.of_fault.ensures
