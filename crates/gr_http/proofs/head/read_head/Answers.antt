-- One read brings the next bytes, and what stands in the buffer then is a head, may become one, or never will.
use Rattle.std.proofs.Common.{ℕ, List, rules, arith, length, refl, length-take}
use Rattle.httparse.specs.Grammar.{HasNoRequest}
use Rattle.gr_http.specs.Head.{HasHead}
use Rattle.gr_http.proofs.StreamLemmas.{Consumes-rest}
use Rattle.gr_http.proofs.ReadLemmas.{Reads-none, Reads-rest, Reads-last, Reads-needed}
use Rattle.gr_http.proofs.HeadLemmas.{HasNoRequest-nil, HasNoHead-from_full, HasNoHead-from_overflow, IsHead-from_spans}
use Rattle.gr_http.proofs.head.read_head.Goals as goal

no_head : (bytes : List ℕ) → HasNoRequest bytes → ¬ HasHead bytes
no_head bytes none (head, rest, found) = none head rest found.reads

pub loop-came-init : goal.loop-came-init
loop-came-init g c = record {
  room = search rules;
  fields = search rules;
  within = search rules;
  consumed = search rules;
  unfinished = HasNoRequest-nil;
  needed = Reads-none _ _ (tt, refl);
  none_failed = search rules;
}

pub loop-came-preserved : goal.loop-came-preserved
loop-came-preserved g c =
    let read = c.in_ok-count.ensures in
    let parsed = rw c.in-Ok-Partial.field-0-is at c.in-Ok-Partial.ensures in record {
      room = search rules;
      fields = search rules;
      within = search rules;
      consumed = Consumes-rest _ _ _ _ _ _ _ _ c.loop-came.invariant.within read.within.0
          c.loop-came.invariant.consumed read.bytes.0;
      unfinished = parsed.partial;
      needed = Reads-rest HasHead _ _ _ _ _ _ _ _ c.loop-came.invariant.within read.within.0
          (no_head _ c.loop-came.invariant.unfinished) c.loop-came.invariant.needed read.taken;
      none_failed = search rules;
    }

pub returns-in-Ok-Complete-clause-found : goal.returns-in-Ok-Complete-clause-found
returns-in-Ok-Complete-clause-found g c =
    let read = c.in_ok-count.ensures in
    let parsed = rw c.in-Ok-Complete.field-0-is at c.in-Ok-Complete.ensures in
    let (head, at) = parsed.complete in record {
      fits = search rules;
      consumed = Consumes-rest _ _ _ _ _ _ _ _ c.loop-came.invariant.within read.within.0
          c.loop-came.invariant.consumed read.bytes.0;
      within = parsed.within;
      head = (head, at, IsHead-from_spans _ _ _ head (search rules) (search rules) parsed.within at);
    }

pub returns-in-Err-clause-none : goal.returns-in-Err-clause-none
returns-in-Err-clause-none g c =
    let read = c.in_ok-count.ensures in
    HasNoHead-from_overflow (length c.loop-came.headers) _ _ _ (search rules)
    (Consumes-rest _ _ _ _ _ _ _ _ c.loop-came.invariant.within read.within.0
    c.loop-came.invariant.consumed read.bytes.0)
    c.in-Err.ensures.no_room

pub returns-clause-none : goal.returns-clause-none
returns-clause-none g c =
    HasNoHead-from_full _ _ _ c.loop-came.invariant.consumed
    (omega (arith, length-take c.loop-came.came c.loop-came.buffer)) c.loop-came.invariant.unfinished

pub returns-in_err-count-clause-needed : goal.returns-in_err-count-clause-needed
returns-in_err-count-clause-needed g c =
    let before = c.loop-came.invariant in
    Reads-last HasHead _ _ _ _ _ (no_head _ before.unfinished) before.needed c.in_err-count.ensures.taken

pub returns-then-count-eq0-clause-needed : goal.returns-then-count-eq0-clause-needed
returns-then-count-eq0-clause-needed g c =
    let before = c.loop-came.invariant in
    Reads-last HasHead _ _ _ _ _ (no_head _ before.unfinished) before.needed c.in_ok-count.ensures.taken

pub returns-in-Ok-Complete-clause-needed : goal.returns-in-Ok-Complete-clause-needed
returns-in-Ok-Complete-clause-needed g c =
    let before = c.loop-came.invariant in
    Reads-last HasHead _ _ _ _ _ (no_head _ before.unfinished) before.needed c.in_ok-count.ensures.taken

pub returns-in-Ok-Complete-clause-brought : goal.returns-in-Ok-Complete-clause-brought
returns-in-Ok-Complete-clause-brought g c =
    let read = c.in_ok-count.ensures in
    let before = c.loop-came.invariant in
    Reads-rest HasHead _ _ _ _ _ _ _ _ before.within read.within.0 (no_head _ before.unfinished) before.needed read.taken

pub returns-in-Err-clause-needed : goal.returns-in-Err-clause-needed
returns-in-Err-clause-needed g c =
    let before = c.loop-came.invariant in
    Reads-last HasHead _ _ _ _ _ (no_head _ before.unfinished) before.needed c.in_ok-count.ensures.taken

pub returns-clause-needed : goal.returns-clause-needed
returns-clause-needed g c = Reads-needed HasHead _ _ _ c.loop-came.invariant.needed
