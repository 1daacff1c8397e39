use Rattle.std.proofs.Common.{◌≡◌, suc, ◌+◌, ◌++◌, [], ◌∷◌, map, sym, ap, subst, ◌∙◌, arith, inl, inr}
use Rattle.std.specs.Prelude.{take, drop, get_or}
use Rattle.std.proofs.lemmas.List.{take-append-drop}
use Rattle.std.proofs.Math.Seq.{take-suc}
use Rattle.std.proofs.lemmas.List.{map-append}
use Rattle.sqlite.specs.Held.{state}
use Rattle.sqlite.proofs.StateLemmas.{survives_then}
use Rattle.gr_core.specs.Machine.Row.{row_of}
use Rattle.gr_store.specs.Causes.{CannotPut, CannotPutAll}
use Rattle.gr_store.specs.Commits.{PutsAll}
use Rattle.gr_store.proofs.Connections.PutsInTurn.{puts_last, puts_schema}
use Rattle.gr_store.proofs.Connections.StepsInTurn.{was_clean}
use Rattle.gr_store.proofs.Failures.FailedTexts.{failed_then}
use Rattle.gr_store.proofs.Failures.StoreFaults.{cannot_behind, passed_on}
use Rattle.gr_store.proofs.commit.put_changes.Goals as goal

pub loop-change-preserved : goal.loop-change-preserved
loop-change-preserved g c =
    let start = state g.S.Store c.args.tx.now.conn.now in
    let mid = state g.S.Store c.loop-change.tx.conn.now in
    let new = state g.S.Store c.put.new.tx.conn.now in
    let kept = c.loop-change.invariant in
    let i = c.loop-change.change-index in
    let done = map row_of (take i c.args.changes.now) in
    record {
      same = c.put.ensures.same_reference ∙ kept.same;
      survives = survives_then start mid new (λ _. ⊥) (λ _. ⊥) (λ _. ⊥) (λ _ db none. none) (λ _ db none. none) kept.survives
          c.put.ensures.survives;
      inside = λ clean begun.
          c.in_ok-put.ensures.inside clean (kept.inside (was_clean mid new (λ _. ⊥) c.put.ensures.survives clean) begun);
      puts = λ clean begun schema own has.
          let was = was_clean mid new (λ _. ⊥) c.put.ensures.survives clean in
          let before = kept.puts was begun schema own has in
          let last = c.in_ok-put.ensures.puts clean (kept.inside was begun) schema own
          (puts_schema own done start.now mid.now before ∙ has) in
          let change = c.change-item.result in
          let one_more : map row_of (take (i + 1) c.args.changes.now) ≡ done ++ row_of change ∷ [] =
          ap (λ n. map row_of (take n c.args.changes.now)) (let next : i + 1 ≡ suc i = omega arith in next)
          ∙ ap (map row_of) (take-suc c.args.changes.now i change c.loop-change-test.true)
          ∙ map-append row_of (take i c.args.changes.now) (get_or c.args.changes.now i change ∷ [])
          ∙ ap (λ last. done ++ row_of last ∷ []) (sym c.change-item.is) in
          subst (λ rows. PutsAll own rows start.now new.now) (sym one_more)
          (puts_last own done (row_of change) start.now mid.now new.now before last);
    }

pub returns-in_err-put-clause-caused : goal.returns-in_err-put-clause-caused
returns-in_err-put-clause-caused g c = λ clean begun schema own has.
    let start = state g.S.Store c.args.tx.now.conn.now in
    let mid = state g.S.Store c.loop-change.tx.conn.now in
    let new = state g.S.Store c.put.new.tx.conn.now in
    let kept = c.loop-change.invariant in
    let i = c.loop-change.change-index in
    let done = map row_of (take i c.args.changes.now) in
    let was = was_clean mid new (λ _. ⊥) c.put.ensures.survives clean in
    let before = kept.puts was begun schema own has in
    let change = c.change-item.result in
    let one_more : map row_of (take (i + 1) c.args.changes.now) ≡ done ++ row_of change ∷ [] =
    ap (λ n. map row_of (take n c.args.changes.now)) (let next : i + 1 ≡ suc i = omega arith in next)
    ∙ ap (map row_of) (take-suc c.args.changes.now i change c.loop-change-test.true)
    ∙ map-append row_of (take i c.args.changes.now) (get_or c.args.changes.now i change ∷ [])
    ∙ ap (λ last. done ++ row_of last ∷ []) (sym c.change-item.is) in
    let rest = map row_of (drop (i + 1) c.args.changes.now) in
    let all : map row_of c.args.changes.now ≡ (done ++ row_of change ∷ []) ++ rest
    = ap (map row_of) (sym (take-append-drop (i + 1) c.args.changes.now))
    ∙ map-append row_of (take (i + 1) c.args.changes.now) (drop (i + 1) c.args.changes.now)
    ∙ ap (λ front. front ++ rest) one_more in
    let told = c.in_err-put.ensures.caused clean (kept.inside was begun) schema own
    (puts_schema own done start.now mid.now before ∙ has) in
    passed_on c.from_residual.result c.in_err-put.field-0.0 c.from_residual.ensures.1 (λ store. elim (told store) [
      | inl disk ↦ inl (failed_then start mid new (λ _. ⊥) kept.survives was c.put.ensures.survives.counts disk)
      | inr cannot ↦ inr (subst (λ rows. CannotPutAll own start.step_limit rows start.now) (sym all)
          (cannot_behind own start.step_limit done rest (row_of change) start.now mid.now before
          (subst (λ n. CannotPut n (row_of change) mid.now) kept.survives.limit cannot)))
    ])
