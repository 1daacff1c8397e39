-- What the parts of a request say of the whole.
use Rattle.std.proofs.Common.{◌≡◌, ℕ, ◌<◌, ◌≤◌, List, [], ◌++◌, length, map, take, drop, Option, Some, None, IfSome, Result, Ok, Err, refl, sym, ap, ◌∙◌, subst, inl, inr, arith}
use Rattle.std.proofs.lemmas.Bool.Decides.{nat_tests}
use Rattle.httparse.specs.declared.spans.HeaderSpan.{HeaderSpan}
use Rattle.httparse.specs.Grammar.{RequestHead, ReadsRequest, print_request}
use Rattle.httparse.specs.Spans.{span_bytes, header_bytes}
use Rattle.httparse.proofs.GrammarLemmas.{request_unique, ReadsRequest-append}
use Rattle.gr_http.specs.declared.head.Head.{Head}
use Rattle.gr_http.specs.declared.problem.Problem.{Problem}
use Rattle.gr_http.specs.declared.problem.Problem.TheVariants.{ShortBody}
use Rattle.gr_http.specs.declared.request.NotReceived.{NotReceived}
use Rattle.gr_http.specs.declared.request.NotReceived.TheVariants as why
use Rattle.gr_http.specs.Problem.{◌>>=◌}
use Rattle.gr_http.specs.Head.{IsHead, HasHead, FindsHead}
use Rattle.gr_http.specs.Reads.{Reads, AreNeeded, AreSoMany, Brought}
use Rattle.gr_http.specs.Length.{announced_length, body_length}
use Rattle.gr_http.specs.Request.{Texts, IsEnough, HasRequest, ReceivedIsDetermined, received_from, received_behind, Receives, ReceivesBody}
use Rattle.gr_http.proofs.ReadLemmas.{needed-behind, needed-append, Reads-weaker, Reads-append}

-- the grammar has one head for the bytes, and so one thing is received
pub received_is_determined : ReceivedIsDetermined
received_is_determined bytes one other (inl (none, is)) (inl (none', is')) = is ∙ sym is'
received_is_determined bytes one other (inl (none, is)) (inr (head, rest, found, is')) = absurd (none head rest found)
received_is_determined bytes one other (inr (head, rest, found, is)) (inl (none', is')) = absurd (none' head rest found)
received_is_determined bytes one other (inr (head, rest, found, is)) (inr (head', rest', found', is')) =
    let same = request_unique bytes head head' rest rest' found.reads found'.reads in
    is ∙ (λ i. received_from (same.0 i) (same.1 i)) ∙ sym is'

-- a head in what came is one of the whole input
IsHead-append : (came more : List ℕ) (head : RequestHead) (rest : List ℕ)
    → IsHead came head rest → IsHead (came ++ more) head (rest ++ more)
IsHead-append came more head rest found = record {
  reads = ReadsRequest-append came head rest more found.reads;
  short = found.short;
  few_fields = found.few_fields;
}

received_with-whole : (head : RequestHead) (rest : List ℕ) (count : ℕ) → count ≤ length rest
    → received_behind head rest count ≡ Ok (record { method = head.method; target = head.target; body = take count rest })
received_with-whole head rest count enough = grind (arith, nat_tests)

received_with-short : (head : RequestHead) (rest : List ℕ) (count : ℕ) → length rest < count
    → received_behind head rest count ≡ Err ShortBody
received_with-short head rest count short = grind (arith, nat_tests)

-- what the answer on the body says of the request
Receives-from_body : (bytes : List ℕ) (head : RequestHead) (rest method target : List ℕ) (count : ℕ)
    (answer : Result Texts NotReceived)
    → IsHead bytes head rest → method ≡ head.method → target ≡ head.target
    → body_length head.fields ≡ Ok count
    → ReceivesBody method target rest count answer → Receives bytes answer
Receives-from_body bytes head rest method target count (Ok request) found m t announced body =
    let same : request ≡ record { method = head.method; target = head.target; body = take count rest } =
    λ i. record { method = (body.1 ∙ m) i; target = (body.2 ∙ t) i; body = body.3 i } in
    inr (
      head,
      rest,
      found,
      ap Ok same
          ∙ sym (ap (λ l. l >>= received_behind head rest) announced ∙ received_with-whole head rest count body.0),
    )
Receives-from_body bytes head rest method target count (Err (why.Problem problem)) found m t announced body = inr (
  head,
  rest,
  found,
  ap Err body.0 ∙ sym (ap (λ l. l >>= received_behind head rest) announced ∙ received_with-short head rest count body.1),
)
Receives-from_body bytes head rest method target count (Err (why.Failed failed)) found m t announced body = tt
Receives-from_body bytes head rest method target count (Err why.Memory) found m t announced body = tt

-- the same where the head was found in a buffer
pub Receives-found : (a b : Option (List ℕ)) (buffer : List ℕ) (headers : List HeaderSpan) (found : Head)
    (count : ℕ) (answer : Result Texts NotReceived)
    → FindsHead a b buffer headers found
    → Ok count ≡ announced_length (map (header_bytes (take found.came buffer)) (take found.spans.headers headers))
    → IfSome b (λ more. ReceivesBody
    (span_bytes (take found.came buffer) found.spans.method) (span_bytes (take found.came buffer) found.spans.path)
    (drop found.spans.len (take found.came buffer) ++ more) count answer)
    → IfSome a (λ bytes. Receives bytes answer)
Receives-found None b buffer headers found count answer finds announced body = tt
Receives-found (Some bytes) None buffer headers found count answer finds announced body = absurd finds.consumed
Receives-found (Some bytes) (Some more) buffer headers found count answer finds announced body =
    let (head, at, is_head) = finds.head in
    let came = take found.came buffer in
    subst (λ l. Receives l answer) (sym finds.consumed)
    (Receives-from_body (came ++ more) head (drop found.spans.len came ++ more) _ _ count answer
    (IsHead-append came more head (drop found.spans.len came) is_head) at.method at.path
    (sym (announced ∙ ap announced_length at.fields)) body)

-- no length was announced that can be read
pub Receives-no_length : (a b : Option (List ℕ)) (buffer : List ℕ) (headers : List HeaderSpan) (found : Head) (problem : Problem)
    → FindsHead a b buffer headers found
    → Err problem ≡ announced_length (map (header_bytes (take found.came buffer)) (take found.spans.headers headers))
    → IfSome a (λ bytes. Receives bytes (Err (why.Problem problem)))
Receives-no_length None b buffer headers found problem finds announced = tt
Receives-no_length (Some bytes) None buffer headers found problem finds announced = absurd finds.consumed
Receives-no_length (Some bytes) (Some more) buffer headers found problem finds announced =
    let (head, at, is_head) = finds.head in
    let came = take found.came buffer in
    let rest = drop found.spans.len came in
    subst (λ l. Receives l (Err (why.Problem problem))) (sym finds.consumed)
    (inr (
      head,
      rest ++ more,
      IsHead-append came more head rest is_head,
      ap (λ l. l >>= received_behind head (rest ++ more)) (announced ∙ ap announced_length at.fields),
    ))

-- ==== which reads were needed

-- after a head that announces a length, there is a whole request where that many bytes are there
enough-behind : (head : RequestHead) (came rest more : List ℕ) (count : ℕ) → ReadsRequest came head rest → body_length head.fields ≡ Ok count
    → HasRequest (print_request head ++ more) → AreSoMany count more
enough-behind head came rest more count reads announced (head', rest', found, enough) =
    let same = request_unique (print_request head ++ more) head' head rest' more found.reads (reads.0, refl) in
    let of_head : IsEnough (body_length head.fields) rest' = subst (λ h. IsEnough (body_length h.fields) rest') same.0 enough in
    let counted : count ≤ length rest' = subst (λ r. IsEnough r rest') announced of_head in
    subst (λ l. count ≤ length l) same.1 counted

-- reads of a body are reads of its request
needed-body : (head : RequestHead) (came rest : List ℕ) (count : ℕ) (calls : List (List ℕ)) → IsHead came head rest
    → body_length head.fields ≡ Ok count → AreNeeded (AreSoMany count) rest calls → AreNeeded HasRequest came calls
needed-body head came rest count calls is announced needed =
    subst (λ l. AreNeeded HasRequest l calls) (sym is.reads.1)
    (needed-behind (AreSoMany count) HasRequest (print_request head) rest calls
    (λ more has. enough-behind head came rest more count is.reads announced has) needed)

-- and so are those of a head
needed-head : (calls : List (List ℕ)) → AreNeeded HasHead [] calls → AreNeeded HasRequest [] calls
needed-head calls needed =
    needed-behind HasHead HasRequest [] [] calls (λ more (head, rest, found, enough). (head, rest, found)) needed

pub Reads-head : (a b : Option (List (List ℕ))) → Reads a b (AreNeeded HasHead []) → Reads a b (AreNeeded HasRequest [])
Reads-head a b reads = Reads-weaker a b (AreNeeded HasHead []) (AreNeeded HasRequest []) needed-head reads

-- the reads of a head that was found, and those of the body that it announces
pub Reads-request : (a b c : Option (List (List ℕ))) (old new : Option (List ℕ)) (buffer : List ℕ) (headers : List HeaderSpan) (found : Head)
    (count : ℕ) → FindsHead old new buffer headers found
    → Ok count ≡ announced_length (map (header_bytes (take found.came buffer)) (take found.spans.headers headers))
    → Reads a b (Brought HasHead (take found.came buffer))
    → Reads b c (AreNeeded (AreSoMany count) (drop found.spans.len (take found.came buffer))) → Reads a c (AreNeeded HasRequest [])
Reads-request a b c old new buffer headers found count finds announced reads behind =
    let (head, at, is_head) = finds.head in
    let came = take found.came buffer in
    Reads-append a b c (Brought HasHead came) (AreNeeded (AreSoMany count) (drop found.spans.len came)) (AreNeeded HasRequest [])
    (λ calls others brought needed. needed-append HasRequest [] calls others (needed-head calls brought.0)
    (subst (λ l. AreNeeded HasRequest l others) (sym brought.1)
    (needed-body head came (drop found.spans.len came) count others is_head (sym (announced ∙ ap announced_length at.fields)) needed)))
    reads behind
