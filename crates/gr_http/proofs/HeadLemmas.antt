-- When the bytes that came decide whether the input begins with a head.
use Rattle.std.proofs.Common.{◌≡◌, ℕ, ◌≤◌, List, [], ◌∷◌, ◌++◌, length, take, drop, Option, Some, None, IfSome, arith, sym, ap, ◌∙◌, subst, length-append, length-take}
use Rattle.std.proofs.Math.Seq.{take-append_seam}
use Rattle.std.proofs.lemmas.List.{length-map, take-append-le, take-append-drop}
use Rattle.std.specs.Io.KnownBytes.{Consumes}
use Rattle.httparse.specs.declared.spans.HeaderSpan.{HeaderSpan}
use Rattle.httparse.specs.declared.spans.RequestSpans.{RequestSpans}
use Rattle.httparse.specs.Grammar.{RequestHead, ReadsRequest, HasNoRequest, print_request, print_blank, print_version, print_end, print_section}
use Rattle.httparse.specs.Spans.{RequestOverflows, IsRequestWithin, IsRequestAt, header_bytes, name_and_value}
use Rattle.httparse.proofs.GrammarLemmas.{print_request-append}
use Rattle.gr_http.specs.declared.limits.TheConstants.{MAX_HEAD_BYTES, MAX_HEAD_FIELDS}
use Rattle.gr_http.specs.Head.{IsHead, HasNoHead}

-- no head is empty
pub HasNoRequest-nil : HasNoRequest []
HasNoRequest-nil head rest reads =
    let after = print_version head.minor ++ (print_end head.line_end ++ (print_section head.fields head.last ++ rest)) in
    let target = head.target ++ 32 ∷ after in
    let long = ap length (reads.1 ∙ print_request-append head rest) in
    absurd (omega (
      arith,
      length-append (print_blank head.blank) (head.method ++ 32 ∷ target),
      length-append head.method (32 ∷ target),
      long,
    ))

-- a head that is no longer than what came stands in it
pub ReadsRequest-front : (came more : List ℕ) (head : RequestHead) (rest : List ℕ)
    → length (print_request head) ≤ length came → ReadsRequest (came ++ more) head rest
    → ReadsRequest came head (drop (length (print_request head)) came)
ReadsRequest-front came more head rest short reads =
    let n = length (print_request head) in
    let front : take n came ≡ print_request head =
    sym (take-append-le n came more short) ∙ ap (take n) reads.1 ∙ take-append_seam (print_request head) rest in
    (reads.0, sym (take-append-drop n came) ∙ ap (λ l. l ++ drop n came) front)

-- as many bytes as a head may have have come, and no head is in them
pub HasNoHead-from_full : (a b : Option (List ℕ)) (came : List ℕ)
    → Consumes a b came → MAX_HEAD_BYTES ≤ length came → HasNoRequest came → IfSome a HasNoHead
HasNoHead-from_full None b came read full none = tt
HasNoHead-from_full (Some bytes) None came read full none = absurd read
HasNoHead-from_full (Some bytes) (Some more) came read full none =
    λ head rest found. none head _
    (ReadsRequest-front came more head rest (omega (arith, found.short, full))
    (subst (λ l. ReadsRequest l head rest) read found.reads))

-- whatever comes, a head has too many fields
pub HasNoHead-from_overflow : (room : ℕ) (a b : Option (List ℕ)) (came : List ℕ)
    → room ≡ MAX_HEAD_FIELDS → Consumes a b came → RequestOverflows room came → IfSome a HasNoHead
HasNoHead-from_overflow room None b came is read over = tt
HasNoHead-from_overflow room (Some bytes) None came is read over = absurd read
HasNoHead-from_overflow room (Some bytes) (Some more) came is read over =
    λ head rest found. let many = over more head rest (subst (λ l. ReadsRequest l head rest) read found.reads) in
    absurd (omega (arith, found.few_fields, many, is))

-- what the parser found is within the limits
pub IsHead-from_spans : (came : List ℕ) (headers : List HeaderSpan) (spans : RequestSpans) (head : RequestHead)
    → length came ≤ MAX_HEAD_BYTES → length headers ≡ MAX_HEAD_FIELDS
    → IsRequestWithin came headers spans → IsRequestAt came headers spans head → IsHead came head (drop spans.len came)
IsHead-from_spans came headers spans head room fields within at =
    let taken = take spans.headers headers in
    let counted : length head.fields ≡ length taken =
    sym (length-map head.fields name_and_value) ∙ sym (ap length at.fields) ∙ length-map taken (header_bytes came) in record {
      reads = at.reads;
      short = omega (arith, at.len, within.section.len_fits);
      few_fields = omega (arith, counted, length-take spans.headers headers);
    }
