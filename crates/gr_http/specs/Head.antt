-- Where a request's head ends (RFC 9112, sections 2, 3 and 5).
use Rattle.std.specs.Prelude.{ℕ, ◌≤◌, List, length, take, drop, Option}
use Rattle.std.specs.Io.KnownBytes.{Consumes}
use Rattle.httparse.specs.declared.spans.HeaderSpan.{HeaderSpan}
use Rattle.httparse.specs.Grammar.{RequestHead, ReadsRequest, print_request}
use Rattle.httparse.specs.Spans.{IsRequestWithin, IsRequestAt}
use Rattle.gr_http.specs.declared.limits.TheConstants.{MAX_HEAD_BYTES, MAX_HEAD_FIELDS}
use Rattle.gr_http.specs.declared.head.Head.{Head}

-- The bytes begin with a request head by the grammar of httparse, within the limits, leading empty lines counted, and
-- the rest follows it.
pub record IsHead (bytes : List ℕ) (head : RequestHead) (rest : List ℕ) : Type 0 where
  pub reads : ReadsRequest bytes head rest
  pub short : length (print_request head) ≤ MAX_HEAD_BYTES
  pub few_fields : length head.fields ≤ MAX_HEAD_FIELDS

-- some beginning of the bytes is such a head
abbrev pub HasHead : List ℕ → Type 0
HasHead bytes = (head : RequestHead) × (rest : List ℕ) × IsHead bytes head rest

-- no beginning of the bytes is such a head
abbrev pub HasNoHead : List ℕ → Type 0
HasNoHead bytes = (head : RequestHead) (rest : List ℕ) → ¬ (IsHead bytes head rest)

-- The reads consumed what stands at the front of the buffer. It begins with a head within the limits, and the spans
-- cover the parts of that head.
pub record FindsHead
    (old new : Option (List ℕ)) (buffer : List ℕ) (headers : List HeaderSpan) (found : Head) : Type 0 where
  pub fits : found.came ≤ length buffer
  pub consumed : Consumes old new (take found.came buffer)
  pub within : IsRequestWithin (take found.came buffer) headers found.spans
  pub head : (head : RequestHead) × IsRequestAt (take found.came buffer) headers found.spans head
      × IsHead (take found.came buffer) head (drop found.spans.len (take found.came buffer))
