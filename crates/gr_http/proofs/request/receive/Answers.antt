-- The head and its body are those of the whole input, and no read was made once they were there.
use Rattle.std.proofs.Common.{◌≡◌, List, ℕ, Option, Result, Ok, Err, sym, subst}
use Rattle.std.specs.Prelude.{IfSome}
use Rattle.std.specs.Result.{IsErrAnd}
use Rattle.gr_http.specs.declared.request.NotReceived.{NotReceived}
use Rattle.gr_http.specs.declared.request.NotReceived.TheVariants as why
use Rattle.gr_http.specs.Request.{Texts, Receives}
use Rattle.gr_http.proofs.RequestParts.{Receives-found, Receives-no_length, Reads-head, Reads-request}
use Rattle.gr_http.proofs.request.receive.Goals as goal

-- what is received with an error is received where that error is answered
refused : (coming : Option (List ℕ)) (result : Result Texts NotReceived) (why : NotReceived) → IsErrAnd result (λ e. e ≡ why)
    → IfSome coming (λ bytes. Receives bytes (Err why)) → IfSome coming (λ bytes. Receives bytes result)
refused coming (Ok request) why is received = absurd is
refused coming (Err e) why is received = subst (λ w. IfSome coming (λ bytes. Receives bytes (Err w))) (sym is) received

pub returns-clause-received : goal.returns-clause-received
returns-clause-received g c =
    let found = rw c.in-Some.is at c.in_ok-head.ensures.found in
    Receives-found _ _ _ _ _ c.in_ok-count.count _ found c.in_ok-count.ensures c.receive_body.ensures.received

pub returns-in_err-count-clause-received : goal.returns-in_err-count-clause-received
returns-in_err-count-clause-received g c =
    let found = rw c.in-Some.is at c.in_ok-head.ensures.found in
    let problem = c.in_err-count.field-0.0 in
    refused _ _ (why.Problem problem) c.from_residual-in_err-count.ensures.1
    (Receives-no_length _ _ _ _ _ problem found c.in_err-count.ensures)

pub returns-in_err-head-clause-needed : goal.returns-in_err-head-clause-needed
returns-in_err-head-clause-needed g c = Reads-head _ _ c.in_err-head.ensures.needed

pub returns-in_default-clause-needed : goal.returns-in_default-clause-needed
returns-in_default-clause-needed g c = Reads-head _ _ c.in_ok-head.ensures.needed

pub returns-in_err-count-clause-needed : goal.returns-in_err-count-clause-needed
returns-in_err-count-clause-needed g c = Reads-head _ _ c.in_ok-head.ensures.needed

pub returns-clause-needed : goal.returns-clause-needed
returns-clause-needed g c =
    let found = rw c.in-Some.is at c.in_ok-head.ensures.found in
    let brought = rw c.in-Some.is at c.in_ok-head.ensures.brought in
    Reads-request _ _ _ _ _ _ _ _ c.in_ok-count.count found c.in_ok-count.ensures brought c.receive_body.ensures.needed
