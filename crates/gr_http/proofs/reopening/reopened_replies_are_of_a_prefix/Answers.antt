-- The desk that is opened is that after the prefix, and the office responds by it.
use Rattle.std.proofs.Common.{◌≡◌, Result, Ok, Err, sym, subst}
use Rattle.std.specs.Prelude.{IfErr}
use Rattle.std.specs.Result.{IsErrAnd}
use Rattle.std.proofs.lemmas.Result.{IfOk-weaker}
use Rattle.gr_office.specs.Office.{IsOpenWith}
use Rattle.gr_http.proofs.FateLemmas.{clean-request, clean_same}
use Rattle.gr_http.proofs.reopening.reopened_replies_are_of_a_prefix.Goals as goal

-- what holds of an error holds where that error is answered
handed_on : {X E : Type 0} (P : E → Type 0) (result : Result X E) (e : E) → IsErrAnd result (λ f. f ≡ e) → P e → IfErr result P
handed_on P (Ok x) e is held = absurd is
handed_on P (Err f) e is held = subst P (sym is) held

pub returns-clause-opened : goal.returns-clause-opened
returns-clause-opened g c opens s start attempts left now =
    let before = c.in_ok-office.office in
    let after = c.answer-served.new.office in
    let coming = g.I.Input.coming c.args.input.now in
    IfOk-weaker c.answer-served.result _ _
    (λ served (response, status, bytes, exchange).
    let clean = clean-request g.S.Store before after c.args.at response _ coming exchange.1 now in
    let (t, prefix, opened) = c.in_ok-office.ensures.opened opens s start attempts left clean in
    (response, status, bytes, (t, prefix, before, opened, exchange)))
    c.answer-served.ensures.served

pub returns-clause-cut_off : goal.returns-clause-cut_off
returns-clause-cut_off g c opens s start attempts left now lost =
    let before = c.in_ok-office.office in
    let after = c.answer-served.new.office in
    let coming = g.I.Input.coming c.args.input.now in
    let (response, begun, exchange) = c.answer-served.ensures.lost_write lost in
    let clean = clean-request g.S.Store before after c.args.at response _ coming exchange.1 now in
    let (t, prefix, opened) = c.in_ok-office.ensures.opened opens s start attempts left clean in
    (response, begun, (t, prefix, before, opened, exchange))

pub returns-clause-unread : goal.returns-clause-unread
returns-clause-unread g c opens s start attempts left now lost =
    let (alone, same) = c.answer-served.ensures.lost_read lost in
    let (t, prefix, opened) = c.in_ok-office.ensures.opened opens s start attempts left
    (clean_same g.S.Store c.in_ok-office.office c.answer-served.new.office alone now) in
    (t, prefix, subst (IsOpenWith g.S.Store t) (sym alone) opened, same)

pub returns-in_err-office-clause-failed : goal.returns-in_err-office-clause-failed
returns-in_err-office-clause-failed g c opens s start attempts left =
    handed_on _ c.from_residual.result c.in_err-office.field-0.0 c.from_residual.ensures.1 (c.in_err-office.ensures.failed opens s start attempts left)
