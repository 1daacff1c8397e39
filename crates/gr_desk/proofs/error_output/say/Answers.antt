-- Piece by piece: the next one was written whole, or a write failed in it.
use Rattle.std.proofs.Common.{◌∙◌, ℕ, List, Bor}
use Rattle.gr_desk.proofs.ErrorLemmas.{said_all, said_next, said_no_further}
use Rattle.gr_desk.proofs.error_output.say.Goals as goal

pub returns-in_default : goal.returns-in_default
returns-in_default g c =
    c.loop-piece.invariant.rest _ _
    (said_no_further (λ (piece : Bor (List ℕ)). piece.now) c.args.pieces.now c.loop-piece.piece-index _ c.as_bytes.result.now
    _ _ _ _ c.loop-piece-test.true c.as_bytes.ensures.value c.in_default.ensures.beginning c.in_default.ensures.failures)

pub loop-piece-preserved : goal.loop-piece-preserved
loop-piece-preserved g c = record {
  rest = λ new failed says. c.loop-piece.invariant.rest new failed
      (said_next (λ (piece : Bor (List ℕ)). piece.now) c.args.pieces.now c.loop-piece.piece-index _ c.as_bytes.result.now
      _ _ _ _ _ _ c.loop-piece-test.true c.as_bytes.ensures.value c.in-Ok.ensures.all c.in-Ok.ensures.failures says);
  none_failed = c.in-Ok.ensures.failures ∙ c.loop-piece.invariant.none_failed;
}

pub returns : goal.returns
returns g c =
    c.loop-piece.invariant.rest _ _
    (said_all (λ (piece : Bor (List ℕ)). piece.now) c.args.pieces.now c.loop-piece.piece-index _ _ c.loop-piece-test.false)
