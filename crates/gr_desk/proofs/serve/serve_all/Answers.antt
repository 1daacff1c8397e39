-- Each turn is one connection more, or none.
use Rattle.std.proofs.Common.{◌≡◌, ◌+◌, ◌∙◌, inl, inr, true, false, refl, sym, arith}
use Rattle.gr_desk.specs.Connections.{between}
use Rattle.gr_desk.proofs.ServeLemmas.{Connected, none_yet, one_more, none_more, is_connection, is_some}
use Rattle.gr_desk.proofs.serve.serve_all.Goals as goal
use Rattle.gr_desk.proofs.serve.serve_all.Given.{Over}
use Rattle.gr_desk.proofs.serve.serve_all.Goals.{After-is_closed}

-- a turn in which one was accepted is a connection more
accepted : (g : Over) (c : After-is_closed g) → Connected g.S.Store (g.N.Fn.post c.args.now.now tt) (c.loop-done._done + 1)
    (between c.args.office.now (g.D.Door.awaited c.args.door.now) (g.D.Door.ended c.args.door.now))
    (between c.serve_next-served.new.office (g.D.Door.awaited c.serve_next-served.new.door) (g.D.Door.ended c.serve_next-served.new.door))
accepted g c =
    let served = c.serve_next-served in
    let said = served.ensures in
    let last = between served.new.office (g.D.Door.awaited served.new.door) (g.D.Door.ended served.new.door) in
    one_more g.S.Store _ _ _ _ last c.loop-done.invariant.0
    (is_connection g.S.Store _ _ last served.result
    (λ refused.
    absurd (let never : true ≡ false = sym (c.is_none_accepted.ensures.1 refused) ∙ c.if-is_none_accepted.false in cc))
    said.served said.lost_write said.lost_read)

pub loop-done-init : goal.loop-done-init
loop-done-init g c = (none_yet g.S.Store _ _, inl refl)

pub loop-done-preserved : goal.loop-done-preserved
loop-done-preserved g c = (
  accepted g c.before,
  inr (is_some c.serve_next-served.new.office.desk
      (λ none. absurd (let never : true ≡ false = sym (c.is_closed.ensures.1 none) ∙ c.if-is_closed.false in cc))),
)

pub returns-then-is_none_accepted-clause-served : goal.returns-then-is_none_accepted-clause-served
returns-then-is_none_accepted-clause-served g c =
    let served = c.serve_next-served in
    let said = served.ensures.accept (c.is_none_accepted.ensures.0 c.if-is_none_accepted.true) in
    let it = none_more g.S.Store _ _ _ _
    (between served.new.office (g.D.Door.awaited served.new.door) (g.D.Door.ended served.new.door)) c.loop-done.invariant.0
    (said.0, said.1, said.2) in
    (it.0, it.1, tt)

pub returns-then-is_closed-clause-served : goal.returns-then-is_closed-clause-served
returns-then-is_closed-clause-served g c = let it = accepted g c.before.before in (it.0, it.1, tt)

pub returns-clause-served : goal.returns-clause-served
returns-clause-served g c =
    let so_far = c.loop-done.invariant.0 in
    let all : c.loop-done._done ≡ c.args.count = omega (arith, c.loop-done.auto._done-end, c.loop-done-test.false) in (
      so_far.0,
      so_far.1,
      (so_far.2 ∙ all, elim c.loop-done.invariant.1 [ inl none ↦ inl (sym all ∙ none) | inr some ↦ inr some ]),
    )

-- ==== why it ended early

pub returns-then-is_none_accepted-clause-caused : goal.returns-then-is_none_accepted-clause-caused
returns-then-is_none_accepted-clause-caused g c =
    inl (refl, _, (c.serve_next-served.ensures.accept (c.is_none_accepted.ensures.0 c.if-is_none_accepted.true)).3)
