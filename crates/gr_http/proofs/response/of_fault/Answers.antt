use Rattle.std.proofs.Common.{◌≡◌, None, ◌∙◌, subst, append-nil}
use Rattle.gr_http.specs.Response.{fault_line}
use Rattle.gr_http.specs.ReadyResponse.{IsReady}
use Rattle.gr_http.proofs.response.of_fault.Goals as goal

pub returns : goal.returns
returns c =
    let line = c.fault_line.result.now in
    let same : c.text_of-line.result.bytes ≡ fault_line c.args.fault
    = c.text_of-line.ensures ∙ append-nil line ∙ c.fault_line.ensures.line in
    subst (λ body. IsReady c.of_line.result (record { status = 503; allow = None; body = body })) same c.of_line.ensures
