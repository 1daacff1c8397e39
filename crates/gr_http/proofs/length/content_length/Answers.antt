-- Each value with the name is read, and a second one ends the loop.
use Rattle.std.proofs.Common.{ℕ, List, get_or, sym, ap, ◌∙◌}
use Rattle.std.specs.Prelude.{codes}
use Rattle.httparse.specs.Spans.{header_bytes}
use Rattle.gr_http.specs.Length.{length_in, length_of_values}
use Rattle.gr_http.proofs.LengthLemmas.{no_header, is_named-header_bytes, IsLengthSoFar-first, length_of_values-second, values_named-at, values_named-more_one, values_named-more_none}
use Rattle.gr_http.proofs.length.content_length.Goals as goal
use Rattle.gr_http.proofs.length.content_length.Goals.{then-is_same_name+else-is_some, else-is_same_name}

-- the name that the loop looks for
abbrev wanted : List ℕ
wanted = codes "content-length"

pub returns-then-is_some : goal.returns-then-is_some
returns-then-is_some c =
    let view = header_bytes c.args.bytes.now in
    let headers = c.args.headers.now in
    let i = c.loop-header.header-index in
    let named = is_named-header_bytes wanted c.args.bytes.now _ (get_or headers i no_header) _ c.of.ensures c.is_same_name.ensures
    ∙ c.if-is_same_name.true in
    length_of_values-second _ _ _ _ (sym c.if-is_some.ensures) c.loop-header.invariant
    ∙ sym (ap length_of_values (values_named-at wanted view headers i no_header c.loop-header-test.true named))

pub loop-header-preserved : goal.loop-header-preserved
loop-header-preserved c =
    let view = header_bytes c.args.bytes.now in
    let headers = c.args.headers.now in
    let i = c.loop-header.header-index in
    let header = get_or headers i no_header in
    let tested = is_named-header_bytes wanted c.args.bytes.now _ header _ c.of.ensures c.is_same_name.ensures in
    elim c.if-is_same_name.branch [
      | then-is_same_name+else-is_some w ↦
          let read = w.read_number.ensures ∙ ap length_in w.of-then-is_same_name.ensures in
          let more = values_named-more_one wanted view headers i no_header c.loop-header-test.true (tested ∙ w.if-is_same_name.true) in
          let known = IsLengthSoFar-first _ _ _ _ (sym w.if-is_some.ensures) c.loop-header.invariant read in
          rw (w.length-is, more) known
      | else-is_same_name w ↦
          let more = values_named-more_none wanted view headers i no_header c.loop-header-test.true (tested ∙ w.if-is_same_name.false) in
          rw (w.length-is, more) c.loop-header.invariant
    ]
