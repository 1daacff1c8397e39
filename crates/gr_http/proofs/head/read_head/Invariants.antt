-- The first `came` bytes of the buffer were read and begin with no head yet, and no read failed.
use Rattle.std.proofs.Common.{◌≡◌, ◌≤◌, ◌-◌, length, take}
use Rattle.std.specs.Io.KnownBytes.{Consumes}
use Rattle.httparse.specs.Grammar.{HasNoRequest}
use Rattle.gr_http.specs.Head.{HasHead}
use Rattle.gr_http.specs.Reads.{Reads, Brought}
use Rattle.gr_http.proofs.head.read_head.Given as goal

abbrev pub invariant-loop-came : goal.invariant-loop-came
invariant-loop-came g l = record {
  room : length l.buffer ≡ length l.initial.buffer;
  fields : length l.headers ≡ length l.initial.headers;
  within : l.came ≤ length l.buffer;
  consumed : Consumes (g.I.Input.coming l.initial.input) (g.I.Input.coming l.input) (take l.came l.buffer);
  unfinished : HasNoRequest (take l.came l.buffer);
  needed : Reads (g.I.Input.taken l.initial.input) (g.I.Input.taken l.input) (Brought HasHead (take l.came l.buffer));
  none_failed : g.I.Input.failed l.input ≡ g.I.Input.failed l.initial.input;
}

abbrev pub decreases-loop-came : goal.decreases-loop-came
decreases-loop-came g l = length l.buffer - l.came
