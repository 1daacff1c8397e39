-- The name of each header is tested.
use Rattle.std.proofs.Common.{◌≡◌, ℕ, Bool, true, false, List, get_or, sym, ap, ◌∙◌}
use Rattle.std.specs.Prelude.{codes, ◌||◌}
use Rattle.std.specs.List.{list_any}
use Rattle.std.proofs.lemmas.List.{take_all}
use Rattle.std.proofs.lemmas.List.Folds.{list_any_at, list_any_more}
use Rattle.httparse.specs.declared.spans.HeaderSpan.{HeaderSpan}
use Rattle.httparse.specs.Spans.{header_bytes}
use Rattle.gr_http.specs.Length.{is_named}
use Rattle.gr_http.proofs.LengthLemmas.{no_header, is_named-header_bytes, list_any-map}
use Rattle.gr_http.proofs.length.has_transfer_encoding.Goals as goal

-- the test of a header
abbrev test : List ℕ → HeaderSpan → Bool
test bytes header = is_named (codes "transfer-encoding") (header_bytes bytes header)

pub returns-then-is_same_name : goal.returns-then-is_same_name
returns-then-is_same_name c =
    let bytes = c.args.bytes.now in
    let headers = c.args.headers.now in
    let header = get_or headers c.loop-header.header-index no_header in
    let named : test bytes header ≡ true =
    is_named-header_bytes _ bytes _ header _ c.of.ensures c.is_same_name.ensures ∙ c.if-is_same_name.true in
    sym (list_any-map _ (header_bytes bytes) headers
    ∙ list_any_at (test bytes) headers c.loop-header.header-index no_header c.loop-header-test.true named)

pub loop-header-preserved : goal.loop-header-preserved
loop-header-preserved c =
    let bytes = c.args.bytes.now in
    let headers = c.args.headers.now in
    let header = get_or headers c.loop-header.header-index no_header in
    let other : test bytes header ≡ false =
    is_named-header_bytes _ bytes _ header _ c.of.ensures c.is_same_name.ensures ∙ c.if-is_same_name.false in
    list_any_more (test bytes) headers c.loop-header.header-index no_header c.loop-header-test.true
    ∙ ap (λ b. b || test bytes header) c.loop-header.invariant ∙ other

pub returns : goal.returns
returns c =
    let bytes = c.args.bytes.now in
    let headers = c.args.headers.now in
    sym (list_any-map _ (header_bytes bytes) headers
    ∙ sym (ap (list_any (test bytes)) (take_all c.loop-header.header-index headers c.loop-header-test.false))
    ∙ c.loop-header.invariant)
