use Rattle.std.proofs.Common.{[], ap, ◌∙◌, ◌++◌, refl, append-nil}
use Rattle.gr_http.specs.Response.{status_line, allow_line, body_lines}
use Rattle.gr_http.proofs.ResponseLemmas.{response-bytes}
use Rattle.gr_http.proofs.response.of_line.Goals as goal

pub returns : goal.returns
returns c =
    let head = c.head-head.result.bytes in
    let line = c.args.line.now.bytes in
    record {
      bytes = response-bytes (record { status = c.args.status; allow = c.args.allow; body = line }) head c.text_of.result.bytes
          (c.head-head.ensures ∙ ap (λ count. status_line c.args.status ++ (allow_line c.args.allow ++ body_lines count)) c.len.ensures.value)
          (c.text_of.ensures ∙ ap (λ text. text ++ (c.as_str-2.result.now ++ [])) c.as_str.ensures.value
          ∙ ap (λ text. head ++ (text ++ [])) c.as_str-2.ensures.value ∙ ap (λ text. head ++ text) (append-nil line));
      status = refl;
    }
