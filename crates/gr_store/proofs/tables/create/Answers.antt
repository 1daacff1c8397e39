use Rattle.std.proofs.Common.{[], ◌∷◌}
use Rattle.sqlite.specs.Held.{state}
use Rattle.gr_store.proofs.Connections.StepsInTurn.{was_clean}
use Rattle.gr_store.proofs.Writing.CreateLemmas.{makes_six}
use Rattle.gr_store.specs.Causes.{IsCaused, CannotMakeAll, six_tables}
use Rattle.gr_store.specs.Schema.{desk_text, developer_text, resolution_text, choice_text, sponsor_text, ballot_text}
use Rattle.gr_store.specs.Schema.{desk_table, developer_table, resolution_table, choice_table, sponsor_table, ballot_table}
use Rattle.gr_store.proofs.Connections.RowByRow.{on_err}
use Rattle.gr_store.proofs.Failures.StoreFaults.{none_made, one_made, next_not_made}
use Rattle.gr_store.proofs.tables.create.Goals as goal

pub returns-clause-makes : goal.returns-clause-makes
returns-clause-makes g c clean inside sound =
    let a = state g.S.Store c.args.tx.now.conn.now in
    let b = state g.S.Store c.create.new.tx.conn.now in
    let d = state g.S.Store c.create-2.new.tx.conn.now in
    let e = state g.S.Store c.create-3.new.tx.conn.now in
    let f = state g.S.Store c.create-4.new.tx.conn.now in
    let h = state g.S.Store c.create-5.new.tx.conn.now in
    let i = state g.S.Store c.create-6.new.tx.conn.now in
    let clean_h = was_clean h i (λ _. ⊥) c.create-6.ensures.survives clean in
    let clean_f = was_clean f h (λ _. ⊥) c.create-5.ensures.survives clean_h in
    let clean_e = was_clean e f (λ _. ⊥) c.create-4.ensures.survives clean_f in
    let clean_d = was_clean d e (λ _. ⊥) c.create-3.ensures.survives clean_e in
    let clean_b = was_clean b d (λ _. ⊥) c.create-2.ensures.survives clean_d in
    let in_b = c.in_ok-create.ensures.inside clean_b inside in
    let in_d = c.in_ok-create-2.ensures.inside clean_d in_b in
    let in_e = c.in_ok-create-3.ensures.inside clean_e in_d in
    let in_f = c.in_ok-create-4.ensures.inside clean_f in_e in
    let in_h = c.in_ok-create-5.ensures.inside clean_h in_f in
    let one = c.in_ok-create.ensures.makes clean_b inside sound in
    let two = c.in_ok-create-2.ensures.makes clean_d in_b (λ _. one.sound) in
    let three = c.in_ok-create-3.ensures.makes clean_e in_d (λ _. two.sound) in
    let four = c.in_ok-create-4.ensures.makes clean_f in_e (λ _. three.sound) in
    let five = c.in_ok-create-5.ensures.makes clean_h in_f (λ _. four.sound) in
    let six = c.in_ok-create-6.ensures.makes clean in_h (λ _. five.sound) in
    makes_six a.now b.now d.now e.now f.now h.now i.now one two three four five six

pub returns-in_err-create-4-clause-caused : goal.returns-in_err-create-4-clause-caused
returns-in_err-create-4-clause-caused g c clean inside sound =
    let a = state g.S.Store c.args.tx.now.conn.now in
    let b = state g.S.Store c.create.new.tx.conn.now in
    let d = state g.S.Store c.create-2.new.tx.conn.now in
    let e = state g.S.Store c.create-3.new.tx.conn.now in
    let f = state g.S.Store c.create-4.new.tx.conn.now in
    let clean_e = was_clean e f (λ _. ⊥) c.create-4.ensures.survives clean in
    let clean_d = was_clean d e (λ _. ⊥) c.create-3.ensures.survives clean_e in
    let clean_b = was_clean b d (λ _. ⊥) c.create-2.ensures.survives clean_d in
    let in_b = c.in_ok-create.ensures.inside clean_b inside in
    let in_d = c.in_ok-create-2.ensures.inside clean_d in_b in
    let in_e = c.in_ok-create-3.ensures.inside clean_e in_d in
    let one = c.in_ok-create.ensures.makes clean_b inside sound in
    let two = c.in_ok-create-2.ensures.makes clean_d in_b (λ _. one.sound) in
    let three = c.in_ok-create-3.ensures.makes clean_e in_d (λ _. two.sound) in
    let made_a = none_made a in
    let made_b = one_made a a b ([]) (desk_text, desk_table) made_a
    c.create.ensures.survives (λ _. one) in
    let made_d = one_made a b d ((desk_text, desk_table) ∷ []) (developer_text, developer_table) made_b
    c.create-2.ensures.survives (λ _. two) in
    let made_e = one_made a d e ((desk_text, desk_table) ∷ (developer_text, developer_table) ∷ []) (resolution_text, resolution_table) made_d
    c.create-3.ensures.survives (λ _. three) in
    on_err (IsCaused a f (CannotMakeAll a.step_limit six_tables a.now)) c.from_residual-in_err-create-4.result
    c.in_err-create-4.field-0.0 c.from_residual-in_err-create-4.ensures.1
    (next_not_made a e f ((desk_text, desk_table) ∷ (developer_text, developer_table) ∷ (resolution_text, resolution_table) ∷ [])
    ((sponsor_text, sponsor_table) ∷ (ballot_text, ballot_table) ∷ []) (choice_text, choice_table) _ made_e
    c.create-4.ensures.survives clean (c.in_err-create-4.ensures.caused clean in_e))

pub returns-in_err-create-5-clause-caused : goal.returns-in_err-create-5-clause-caused
returns-in_err-create-5-clause-caused g c clean inside sound =
    let a = state g.S.Store c.args.tx.now.conn.now in
    let b = state g.S.Store c.create.new.tx.conn.now in
    let d = state g.S.Store c.create-2.new.tx.conn.now in
    let e = state g.S.Store c.create-3.new.tx.conn.now in
    let f = state g.S.Store c.create-4.new.tx.conn.now in
    let h = state g.S.Store c.create-5.new.tx.conn.now in
    let clean_f = was_clean f h (λ _. ⊥) c.create-5.ensures.survives clean in
    let clean_e = was_clean e f (λ _. ⊥) c.create-4.ensures.survives clean_f in
    let clean_d = was_clean d e (λ _. ⊥) c.create-3.ensures.survives clean_e in
    let clean_b = was_clean b d (λ _. ⊥) c.create-2.ensures.survives clean_d in
    let in_b = c.in_ok-create.ensures.inside clean_b inside in
    let in_d = c.in_ok-create-2.ensures.inside clean_d in_b in
    let in_e = c.in_ok-create-3.ensures.inside clean_e in_d in
    let in_f = c.in_ok-create-4.ensures.inside clean_f in_e in
    let one = c.in_ok-create.ensures.makes clean_b inside sound in
    let two = c.in_ok-create-2.ensures.makes clean_d in_b (λ _. one.sound) in
    let three = c.in_ok-create-3.ensures.makes clean_e in_d (λ _. two.sound) in
    let four = c.in_ok-create-4.ensures.makes clean_f in_e (λ _. three.sound) in
    let made_a = none_made a in
    let made_b = one_made a a b ([]) (desk_text, desk_table) made_a
    c.create.ensures.survives (λ _. one) in
    let made_d = one_made a b d ((desk_text, desk_table) ∷ []) (developer_text, developer_table) made_b
    c.create-2.ensures.survives (λ _. two) in
    let made_e = one_made a d e ((desk_text, desk_table) ∷ (developer_text, developer_table) ∷ []) (resolution_text, resolution_table) made_d
    c.create-3.ensures.survives (λ _. three) in
    let made_f = one_made a e f ((desk_text, desk_table) ∷ (developer_text, developer_table) ∷ (resolution_text, resolution_table) ∷ [])
    (choice_text, choice_table) made_e
    c.create-4.ensures.survives (λ _. four) in
    on_err (IsCaused a h (CannotMakeAll a.step_limit six_tables a.now)) c.from_residual-in_err-create-5.result
    c.in_err-create-5.field-0.0 c.from_residual-in_err-create-5.ensures.1
    (next_not_made a f h ((desk_text, desk_table) ∷ (developer_text, developer_table) ∷ (resolution_text, resolution_table) ∷ (choice_text, choice_table) ∷ [])
    ((ballot_text, ballot_table) ∷ []) (sponsor_text, sponsor_table) _ made_f
    c.create-5.ensures.survives clean (c.in_err-create-5.ensures.caused clean in_f))

pub returns-in_err-create-6-clause-caused : goal.returns-in_err-create-6-clause-caused
returns-in_err-create-6-clause-caused g c clean inside sound =
    let a = state g.S.Store c.args.tx.now.conn.now in
    let b = state g.S.Store c.create.new.tx.conn.now in
    let d = state g.S.Store c.create-2.new.tx.conn.now in
    let e = state g.S.Store c.create-3.new.tx.conn.now in
    let f = state g.S.Store c.create-4.new.tx.conn.now in
    let h = state g.S.Store c.create-5.new.tx.conn.now in
    let i = state g.S.Store c.create-6.new.tx.conn.now in
    let clean_h = was_clean h i (λ _. ⊥) c.create-6.ensures.survives clean in
    let clean_f = was_clean f h (λ _. ⊥) c.create-5.ensures.survives clean_h in
    let clean_e = was_clean e f (λ _. ⊥) c.create-4.ensures.survives clean_f in
    let clean_d = was_clean d e (λ _. ⊥) c.create-3.ensures.survives clean_e in
    let clean_b = was_clean b d (λ _. ⊥) c.create-2.ensures.survives clean_d in
    let in_b = c.in_ok-create.ensures.inside clean_b inside in
    let in_d = c.in_ok-create-2.ensures.inside clean_d in_b in
    let in_e = c.in_ok-create-3.ensures.inside clean_e in_d in
    let in_f = c.in_ok-create-4.ensures.inside clean_f in_e in
    let in_h = c.in_ok-create-5.ensures.inside clean_h in_f in
    let one = c.in_ok-create.ensures.makes clean_b inside sound in
    let two = c.in_ok-create-2.ensures.makes clean_d in_b (λ _. one.sound) in
    let three = c.in_ok-create-3.ensures.makes clean_e in_d (λ _. two.sound) in
    let four = c.in_ok-create-4.ensures.makes clean_f in_e (λ _. three.sound) in
    let five = c.in_ok-create-5.ensures.makes clean_h in_f (λ _. four.sound) in
    let made_a = none_made a in
    let made_b = one_made a a b ([]) (desk_text, desk_table) made_a
    c.create.ensures.survives (λ _. one) in
    let made_d = one_made a b d ((desk_text, desk_table) ∷ []) (developer_text, developer_table) made_b
    c.create-2.ensures.survives (λ _. two) in
    let made_e = one_made a d e ((desk_text, desk_table) ∷ (developer_text, developer_table) ∷ []) (resolution_text, resolution_table) made_d
    c.create-3.ensures.survives (λ _. three) in
    let made_f = one_made a e f ((desk_text, desk_table) ∷ (developer_text, developer_table) ∷ (resolution_text, resolution_table) ∷ [])
    (choice_text, choice_table) made_e
    c.create-4.ensures.survives (λ _. four) in
    let made_h = one_made a f h ((desk_text, desk_table) ∷ (developer_text, developer_table) ∷ (resolution_text, resolution_table) ∷
    (choice_text, choice_table) ∷ []) (sponsor_text, sponsor_table) made_f
    c.create-5.ensures.survives (λ _. five) in
    on_err (IsCaused a i (CannotMakeAll a.step_limit six_tables a.now)) c.from_residual-in_err-create-6.result
    c.in_err-create-6.field-0.0 c.from_residual-in_err-create-6.ensures.1
    (next_not_made a h i ((desk_text, desk_table) ∷ (developer_text, developer_table) ∷ (resolution_text, resolution_table) ∷ (choice_text, choice_table) ∷
    (sponsor_text, sponsor_table) ∷ [])
    ([]) (ballot_text, ballot_table) _ made_h
    c.create-6.ensures.survives clean (c.in_err-create-6.ensures.caused clean in_h))
