use Rattle.gr_desk.proofs.LineLemmas.{desk_at, same_clean}
use Rattle.gr_desk.proofs.RestartLemmas.{clean_before}
use Rattle.gr_desk.proofs.ServeLemmas.{answered_calls}
use Rattle.gr_desk.specs.Steps.{IsAnswered}
use Rattle.gr_desk.proofs.once.once.Goals as goal

pub returns-clause-does : goal.returns-clause-does
returns-clause-does g c =
    let store = g.H.Store.Store in
    let before = c.in-Ok.office in
    let after = c.answer_once-served.new.office in
    let said = c.answer_once-served.ensures in
    let served = c.answer_once-served.result in
    let answered : IsAnswered store before c.moment_or_clock-at.result _ _ _ served after
    = record { whole = said.served; cut_off = said.lost_write; unread = said.lost_read } in
    let calls = answered_calls store before after c.moment_or_clock-at.result _ _ _ served answered in
    record {
      before = before;
      after = after;
      at = c.moment_or_clock-at.result;
      served = served;
      desk = desk_at store _ _ before before.conn c.connection_of.result c.in-Ok.ensures.desk
          (λ clean. clean_before store before after c.moment_or_clock-at.result _ _ _ served said.served said.lost_read
          said.lost_write (same_clean store c.connection_of.result after.conn c.connection_of.ensures.same clean));
      moment = c.moment_or_clock-at.ensures;
      answered = answered;
      tells = c.outcome_of.ensures;
      attempts = calls.0;
      made = calls.1;
      its = calls.2;
      last = c.connection_of.ensures.same;
    }
