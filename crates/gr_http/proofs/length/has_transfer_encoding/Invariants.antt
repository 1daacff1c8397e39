-- None of the headers so far has the name.
use Rattle.std.proofs.Common.{◌≡◌, false, take}
use Rattle.std.specs.Prelude.{codes}
use Rattle.std.specs.List.{list_any}
use Rattle.httparse.specs.Spans.{header_bytes}
use Rattle.gr_http.specs.Length.{is_named}
use Rattle.gr_http.proofs.length.has_transfer_encoding.Given as goal

abbrev pub invariant-loop-header : goal.invariant-loop-header
invariant-loop-header l =
    list_any (λ h. is_named (codes "transfer-encoding") (header_bytes l.bytes h)) (take l.header-index l.headers) ≡ false
