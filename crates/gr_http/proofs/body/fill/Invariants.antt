-- The first `filled` bytes of the buffer were read, and no read failed.
use Rattle.std.proofs.Common.{◌≡◌, ◌≤◌, ◌-◌, length, take}
use Rattle.std.specs.Io.KnownBytes.{Consumes}
use Rattle.gr_http.specs.Reads.{Reads, AreSoMany, Brought}
use Rattle.gr_http.proofs.body.fill.Given as goal

abbrev pub invariant-loop-filled : goal.invariant-loop-filled
invariant-loop-filled g l = record {
  room : length l.buffer ≡ length l.initial.buffer;
  within : l.filled ≤ length l.buffer;
  consumed : Consumes (g.I.Input.coming l.initial.input) (g.I.Input.coming l.input) (take l.filled l.buffer);
  needed : Reads (g.I.Input.taken l.initial.input) (g.I.Input.taken l.input) (Brought (AreSoMany (length l.initial.buffer)) (take l.filled l.buffer));
  none_failed : g.I.Input.failed l.input ≡ g.I.Input.failed l.initial.input;
}

abbrev pub decreases-loop-filled : goal.decreases-loop-filled
decreases-loop-filled g l = length l.buffer - l.filled
