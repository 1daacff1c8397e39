use Rattle.std.proofs.Common.{ap, ◌∙◌, length, length-append, arith}
use Rattle.gr_http.specs.Response.{status_line, allow_line, body_lines}
use Rattle.gr_http.proofs.ResponseLemmas.{head-bytes, head-short}
use Rattle.gr_http.proofs.response.head.Goals as goal

pub add_status-requires-clause-named : goal.add_status-requires-clause-named
add_status-requires-clause-named c = c.requires.status.named

pub add_status-requires-clause-room : goal.add_status-requires-clause-room
add_status-requires-clause-room c =
    let short = head-short c.args.status c.args.allow.now c.args.count c.requires.status c.requires.allow (omega arith) in
    let empty = ap length c.new-head.ensures in
    omega arith

pub add_allow-requires : goal.add_allow-requires
add_allow-requires c =
    let short = head-short c.args.status c.args.allow.now c.args.count c.requires.status c.requires.allow (omega arith) in
    let empty = ap length c.new-head.ensures in
    let first = ap length c.add_status.ensures ∙ length-append c.new-head.result.bytes (status_line c.args.status) in
    omega arith

pub add_length-requires : goal.add_length-requires
add_length-requires c =
    let short = head-short c.args.status c.args.allow.now c.args.count c.requires.status c.requires.allow (omega arith) in
    let empty = ap length c.new-head.ensures in
    let first = ap length c.add_status.ensures ∙ length-append c.new-head.result.bytes (status_line c.args.status) in
    let second = ap length c.add_allow.ensures ∙ length-append c.add_status.new.head.bytes (allow_line c.args.allow.now) in
    omega arith

pub returns : goal.returns
returns c =
    head-bytes (status_line c.args.status) (allow_line c.args.allow.now) (body_lines c.args.count) c.new-head.result.bytes
    c.add_status.new.head.bytes c.add_allow.new.head.bytes c.add_length.new.head.bytes c.new-head.ensures
    c.add_status.ensures c.add_allow.ensures c.add_length.ensures
