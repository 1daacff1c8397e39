-- The connections so far, one for each turn, and after the last the office is open.
use Rattle.std.proofs.Common.{◌≡◌, ◌⊎◌}
use Rattle.std.specs.Prelude.{IsSome}
use Rattle.gr_desk.specs.Connections.{between}
use Rattle.gr_desk.proofs.ServeLemmas.{Connected}
use Rattle.gr_desk.proofs.serve.serve_all.Given as goal

abbrev pub invariant-loop-done : goal.invariant-loop-done
invariant-loop-done g l = Connected g.S.Store (g.N.Fn.post l.initial.now tt) l._done
    (between l.initial.office (g.D.Door.awaited l.initial.door) (g.D.Door.ended l.initial.door))
    (between l.office (g.D.Door.awaited l.door) (g.D.Door.ended l.door))
    × ((l._done ≡ 0) ⊎ IsSome l.office.desk)
