-- One read fills the next bytes, and is needed as long as the buffer is not full.
use Rattle.std.proofs.Common.{◌≡◌, ◌<◌, ℕ, List, [], length, take, Option, rules, arith, refl, subst, length-take}
use Rattle.gr_http.specs.Reads.{Reads, AreNeeded, AreSoMany}
use Rattle.gr_http.proofs.StreamLemmas.{Consumes-rest}
use Rattle.gr_http.proofs.ReadLemmas.{Reads-none, Reads-rest, Reads-last}
use Rattle.gr_http.proofs.body.fill.Goals as goal

-- a buffer that is not full has too few bytes
not_full : (i size : ℕ) (buffer : List ℕ) → i < size → ¬ AreSoMany size (take i buffer)
not_full i size buffer short many = omega (arith, length-take i buffer)

-- the buffer keeps its room
in_room : (a c : Option (List (List ℕ))) (size room : ℕ) → size ≡ room → Reads a c (AreNeeded (AreSoMany size) [])
    → Reads a c (AreNeeded (AreSoMany room) [])
in_room a c size room same reads = subst (λ n. Reads a c (AreNeeded (AreSoMany n) [])) same reads

pub loop-filled-init : goal.loop-filled-init
loop-filled-init g c = record {
  room = refl;
  within = search rules;
  consumed = search rules;
  needed = Reads-none _ _ (tt, refl);
  none_failed = refl;
}

pub loop-filled-preserved : goal.loop-filled-preserved
loop-filled-preserved g c =
    let read = c.in_ok-count.ensures in
    let before = c.loop-filled.invariant in record {
      room = search rules;
      within = search rules;
      consumed = Consumes-rest _ _ _ _ _ _ _ _ before.within read.within.0 before.consumed read.bytes.0;
      needed = Reads-rest _ _ _ _ _ _ _ _ _ before.within read.within.0 (not_full _ _ _ (omega (arith, before.room, c.loop-filled-test.true)))
          before.needed read.taken;
      none_failed = search rules;
    }

pub returns-in_err-count-clause-needed : goal.returns-in_err-count-clause-needed
returns-in_err-count-clause-needed g c =
    let before = c.loop-filled.invariant in
    in_room _ _ (length c.args.buffer.now) _ (search rules)
    (Reads-last (AreSoMany (length c.args.buffer.now)) _ _ _ _ _
    (not_full _ _ _ (omega (arith, before.room, c.loop-filled-test.true))) before.needed c.in_err-count.ensures.taken)

pub returns-then-count-eq0-clause-needed : goal.returns-then-count-eq0-clause-needed
returns-then-count-eq0-clause-needed g c =
    let before = c.loop-filled.invariant in
    in_room _ _ (length c.args.buffer.now) _ (search rules)
    (Reads-last (AreSoMany (length c.args.buffer.now)) _ _ _ _ _
    (not_full _ _ _ (omega (arith, before.room, c.loop-filled-test.true))) before.needed c.in_ok-count.ensures.taken)
