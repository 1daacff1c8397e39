use Rattle.gr_desk.proofs.RestartLemmas.{clean_before}
use Rattle.gr_desk.proofs.any_store.shown_and_answered.Goals as goal

pub returns-clause-answered : goal.returns-clause-answered
returns-clause-answered g c =
    let said = c.answer-served.ensures in
    record { whole = said.served; cut_off = said.lost_write; unread = said.lost_read }

pub returns-clause-clean : goal.returns-clause-clean
returns-clause-clean g c now =
    let said = c.answer-served.ensures in
    clean_before g.S.Store c.args.office c.answer-served.new.office c.args.asked.at (g.I.Input.coming c.args.input.now)
    (g.O.Output.written c.args.output.now) (g.O.Output.written c.answer-served.new.output) c.answer-served.result said.served
    said.lost_read said.lost_write now
