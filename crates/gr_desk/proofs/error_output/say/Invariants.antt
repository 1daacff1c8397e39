-- What is said of the pieces that are left is said of all of them, and no write failed so far.
use Rattle.std.proofs.Common.{◌≡◌, ℕ, List, Option, Some, drop}
use Rattle.std.specs.List.{flat_map}
use Rattle.gr_desk.specs.ErrorOutput.{Says}
use Rattle.gr_desk.proofs.error_output.say.Given as goal

abbrev pub invariant-loop-piece : goal.invariant-loop-piece
invariant-loop-piece g l = record {
  rest : (new : Option (List ℕ)) (failed : ℕ)
      → Says (g.E.Output.written l.errors) new (g.E.Output.failed l.errors) failed
      (Some (flat_map (λ piece. piece.now) (drop l.piece-index l.pieces)))
      → Says (g.E.Output.written l.initial.errors) new (g.E.Output.failed l.initial.errors) failed
      (Some (flat_map (λ piece. piece.now) l.pieces));
  none_failed : g.E.Output.failed l.errors ≡ g.E.Output.failed l.initial.errors;
}
