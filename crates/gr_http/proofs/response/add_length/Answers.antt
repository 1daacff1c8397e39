use Rattle.std.proofs.Common.{ap, ◌∙◌, ◌++◌, [], codes}
use Rattle.gr_http.specs.Response.{body_lines}
use Rattle.gr_http.proofs.response.add_length.Goals as goal

pub returns : goal.returns
unfolding body_lines
returns c =
    let before = codes "Content-Type: text/plain; charset=utf-8\r\nContent-Length: " in
    let behind = codes "\r\nConnection: close\r\n\r\n" ++ [] in
    c.add_all.ensures ∙ ap (λ text. c.args.head.now.bytes ++ (before ++ (text ++ behind))) c.format.ensures.text
