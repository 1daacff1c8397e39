use Rattle.sqlite.specs.Held.{state}
use Rattle.gr_store.proofs.Connections.StepsInTurn.{was_clean}
use Rattle.gr_store.proofs.Writing.CreateLemmas.{makes_six1}
use Rattle.gr_store.proofs.version_1.create_tables.Goals as goal

pub returns-clause-makes : goal.returns-clause-makes
returns-clause-makes g c clean inside sound =
    let a = state g.S.Store c.args.tx.now.conn.now in
    let b = state g.S.Store c.create.new.tx.conn.now in
    let d = state g.S.Store c.create-2.new.tx.conn.now in
    let e = state g.S.Store c.create-3.new.tx.conn.now in
    let f = state g.S.Store c.create-4.new.tx.conn.now in
    let h = state g.S.Store c.create-5.new.tx.conn.now in
    let i = state g.S.Store c.create_ballots.new.tx.conn.now in
    let clean_h = was_clean h i (λ _. ⊥) c.create_ballots.ensures.survives clean in
    let clean_f = was_clean f h (λ _. ⊥) c.create-5.ensures.survives clean_h in
    let clean_e = was_clean e f (λ _. ⊥) c.create-4.ensures.survives clean_f in
    let clean_d = was_clean d e (λ _. ⊥) c.create-3.ensures.survives clean_e in
    let clean_b = was_clean b d (λ _. ⊥) c.create-2.ensures.survives clean_d in
    let in_b = c.in_ok-create.ensures.inside clean_b inside in
    let in_d = c.in_ok-create-2.ensures.inside clean_d in_b in
    let in_e = c.in_ok-create-3.ensures.inside clean_e in_d in
    let in_f = c.in_ok-create-4.ensures.inside clean_f in_e in
    let in_h = c.in_ok-create-5.ensures.inside clean_h in_f in
    let one = c.in_ok-create.ensures.makes clean_b inside sound in
    let two = c.in_ok-create-2.ensures.makes clean_d in_b (λ _. one.sound) in
    let three = c.in_ok-create-3.ensures.makes clean_e in_d (λ _. two.sound) in
    let four = c.in_ok-create-4.ensures.makes clean_f in_e (λ _. three.sound) in
    let five = c.in_ok-create-5.ensures.makes clean_h in_f (λ _. four.sound) in
    let six = c.in_ok-create_ballots.ensures.makes clean in_h (λ _. five.sound) in
    makes_six1 a.now b.now d.now e.now f.now h.now i.now one two three four five six
