-- The length is what the values so far say of it.
use Rattle.std.proofs.Common.{map, take}
use Rattle.std.specs.Prelude.{codes}
use Rattle.httparse.specs.Spans.{header_bytes}
use Rattle.gr_http.specs.Length.{values_named}
use Rattle.gr_http.proofs.LengthLemmas.{IsLengthSoFar}
use Rattle.gr_http.proofs.length.content_length.Given as goal

abbrev pub invariant-loop-header : goal.invariant-loop-header
invariant-loop-header l =
    IsLengthSoFar (values_named (codes "content-length") (map (header_bytes l.bytes) (take l.header-index l.headers))) l.length
