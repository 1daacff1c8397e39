use Rattle.std.proofs.Common.{◌≡◌, ◌+◌, ◌≤◌, ◌++◌, length, drop}
use Rattle.std.specs.List.{flat_map}
use Rattle.gr_http.proofs.pieces.add_all.Given as goal

-- the pieces so far were added, and there is room for the others
abbrev pub invariant-loop-piece : goal.invariant-loop-piece
invariant-loop-piece g l =
    (l.text.bytes ++ flat_map (λ piece. piece.now) (drop l.piece-index l.pieces) ≡ l.fn.text.bytes ++ flat_map (λ piece. piece.now) l.pieces)
    × (length l.text.bytes + length (flat_map (λ piece. piece.now) (drop l.piece-index l.pieces)) ≤ g.row.BYTES)
