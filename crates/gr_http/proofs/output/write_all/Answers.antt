-- One write appends the next bytes.
use Rattle.std.proofs.Common.{rules}
use Rattle.gr_http.proofs.StreamLemmas.{Appends-rest}
use Rattle.gr_http.proofs.output.write_all.Goals as goal

pub loop-done-preserved : goal.loop-done-preserved
loop-done-preserved g c = record {
  within = search rules;
  written = Appends-rest _ _ _ _ _ _ c.loop-done.invariant.written c.in_ok-done.ensures.bytes;
  none_failed = search rules;
}
